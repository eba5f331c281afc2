-- What is heard byte by byte are the words and line ends of the text.
-- Assumes nothing.
use Prim.Native.Nat.{ℕ, ◌+◌, ◌-◌, ◌*◌, ◌<◌, min}
use native.Mathlib.Omega.{arith}
use mathlib.Core.Path.{◌≡◌, refl, sym, ◌∙◌, ap}
use mathlib.Core.Bool.{Bool, true, false}
use mathlib.Core.Logic.{inl, inr}
use mathlib.Core.List.{List, [], ◌∷◌, ◌++◌, append_assoc}
use lib.Dec.{eqb, ltb}
use borrow.Author.Tests.{ne_eqb}
use Rattle.model.specs.Choice.{pick, both}
use Rattle.model.proofs.Tests.{bool?, eqb?, ltb?}
use Rattle.scanning.specs.Reading.{is_digit}
use Rattle.scanning.specs.Faults.{digits_only, with_digits}
use Rattle.words.specs.declared.Spot.{Spot}
use Rattle.words.specs.Words.{is_blank, is_end, begins_with_feed, unreturned, spelled_after, spelled_from, spelling_of, too_large, amount_of, amount_after, Event, line_end, ended, in_word, in_comment, events_of}
use Rattle.words.specs.Steps.{begun, grown_by, settled_by, ends_word, went_by, word_by, heard_by, spot_by, heard_in, spot_after}
use Rattle.words.specs.Heard.{WordsHeard}

-- one letter more
pub spelled_more : (spelling : ℕ) (letters : List ℕ) (letter : ℕ) →
    spelled_from spelling (letters ++ (letter ∷ [])) ≡ spelled_after (spelled_from spelling letters) letter
unfolding spelled_from
spelled_more spelling [] letter = refl
spelled_more spelling (first ∷ letters) letter = spelled_more (spelled_after spelling first) letters letter

digits_more : (letters : List ℕ) (letter : ℕ) → digits_only (letters ++ (letter ∷ [])) ≡ both (digits_only letters) (is_digit letter)
unfolding digits_only
digits_more [] letter = elim (bool? (is_digit letter)) [ inl p ↦ rw p | inr p ↦ rw p ]
digits_more (first ∷ letters) letter = elim (bool? (is_digit first)) [ inl p ↦ rw p (digits_more letters letter) | inr p ↦ rw p ]

value_more : (value : ℕ) (letters : List ℕ) (letter : ℕ) →
    with_digits value (letters ++ (letter ∷ [])) ≡ 10 * with_digits value letters + (letter - 48)
unfolding with_digits
value_more value [] letter = refl
value_more value (first ∷ letters) letter = value_more (10 * value + (first - 48)) letters letter

-- the amount with one digit more, also where it is too large already
capped : (value digit : ℕ) →
    min (10 * value + digit) too_large ≡ pick (ltb (min value too_large) too_large) (min (10 * min value too_large + digit) too_large) (min value too_large)
capped value digit =
    elim (ltb? value too_large) [
      | inl p ↦
          let same : min value too_large ≡ value = omega (arith, p.1) in
          rw (same, p.0)
      | inr p ↦
          let most : min value too_large ≡ too_large = omega (arith, p.1) in
          rw most (omega (arith, p.1))
    ]

pub amount_more : (letters : List ℕ) (letter : ℕ) → amount_of (letters ++ (letter ∷ [])) ≡ amount_after (amount_of letters) letter
unfolding amount_of amount_after
amount_more letters letter =
    elim (bool? (digits_only letters)) [
      | inl p ↦
          elim (bool? (is_digit letter)) [
            | inl q ↦ rw (digits_more letters letter, p, q, value_more 0 letters letter) (capped (with_digits 0 letters) (letter - 48))
            | inr q ↦ rw (digits_more letters letter, p, q)
          ]
      | inr p ↦ elim (bool? (is_digit letter)) [ inl q ↦ rw (digits_more letters letter, p, q) | inr q ↦ rw (digits_more letters letter, p, q) ]
    ]

-- a word of some letters is not spelled as one of none
spelled_above : (spelling : ℕ) (letters : List ℕ) → 1 < spelling → 1 < spelled_from spelling letters
unfolding spelled_from spelled_after
spelled_above spelling [] h = h
spelled_above spelling (letter ∷ letters) h =
    elim (ltb? spelling 72057594037927936) [
      | inl p ↦ rw p.0 (spelled_above (256 * spelling + letter) letters (omega (arith, h)))
      | inr p ↦ rw p.0 (spelled_above 9223372036854775808 letters (omega arith))
    ]

spelled_some : (letter : ℕ) (letters : List ℕ) → eqb (spelling_of (letter ∷ letters)) 1 ≡ false
unfolding spelled_from spelled_after
spelled_some letter letters =
    let above : 1 < spelled_from (256 * 1 + letter) letters = spelled_above (256 * 1 + letter) letters (omega arith) in
    ne_eqb (spelling_of (letter ∷ letters)) 1 (λ e. omega (arith, above, e))

-- what stands before a byte, by the letters of the word so far
abbrev at_word : Bool → List ℕ → Spot
at_word returned letters = record { returned = returned; commented = false; spelling = spelling_of letters; amount = amount_of letters }

abbrev at_comment : Bool → Spot
at_comment returned = record { returned = returned; commented = true; spelling = 1; amount = 0 }

at_begin : begun ≡ at_word false []
unfolding spelled_from amount_of digits_only with_digits
at_begin = refl

at_longer : (returned : Bool) (letters : List ℕ) (letter : ℕ) → grown_by (at_word returned letters) letter ≡ at_word false (letters ++ (letter ∷ []))
unfolding grown_by
at_longer returned letters letter = rw (spelled_more 1 letters letter, amount_more letters letter)

-- the word that a byte ends
word_ended : (returned : Bool) (letters : List ℕ) (byte : ℕ) (events : List Event) → is_end byte ≡ true →
    word_by (at_word returned letters) byte ++ events ≡ ended letters events
unfolding ends_word ended spelled_from
word_ended returned [] byte events p = refl
word_ended returned (letter ∷ letters) byte events p = rw (p, spelled_some letter letters)

word_goes_on : (returned : Bool) (letters : List ℕ) (byte : ℕ) → is_end byte ≡ false → word_by (at_word returned letters) byte ≡ []
unfolding ends_word
word_goes_on returned letters byte p =
    elim (bool? (eqb (spelling_of letters) 1)) [ inl q ↦ rw (p, q) | inr q ↦ rw (p, q) ]

-- a byte that is no CR is left in
left_in : (byte : ℕ) (rest : List ℕ) → eqb byte 13 ≡ false → unreturned (byte ∷ rest) ≡ byte ∷ unreturned rest
unfolding unreturned
left_in byte rest p = rw p

-- a CR is a letter unless an LF follows
left_return : (byte : ℕ) (rest : List ℕ) → eqb byte 10 ≡ false → unreturned (13 ∷ (byte ∷ rest)) ≡ 13 ∷ unreturned (byte ∷ rest)
unfolding unreturned begins_with_feed
left_return byte rest p = rw p

out_return : (rest : List ℕ) → unreturned (13 ∷ (10 ∷ rest)) ≡ unreturned (10 ∷ rest)
unfolding unreturned begins_with_feed
out_return rest = refl

-- one byte, from a word so far
heard_feed : (returned : Bool) (letters rest : List ℕ) →
    heard_in (at_word returned letters) (10 ∷ rest) ≡ ended letters (line_end ∷ heard_in (at_word false []) rest)
unfolding heard_in heard_by settled_by went_by is_end
heard_feed false letters rest =
    append_assoc (word_by (at_word false letters) 10) (line_end ∷ []) (heard_in begun rest)
    ∙ word_ended false letters 10 (line_end ∷ heard_in begun rest) refl
    ∙ ap (λ (spot : Spot). ended letters (line_end ∷ heard_in spot rest)) at_begin
heard_feed true letters rest =
    append_assoc (word_by (at_word true letters) 10) (line_end ∷ []) (heard_in begun rest)
    ∙ word_ended true letters 10 (line_end ∷ heard_in begun rest) refl
    ∙ ap (λ (spot : Spot). ended letters (line_end ∷ heard_in spot rest)) at_begin

heard_return : (letters rest : List ℕ) → heard_in (at_word false letters) (13 ∷ rest) ≡ heard_in (at_word true letters) rest
unfolding heard_in heard_by settled_by went_by is_end is_blank
heard_return letters rest = rw (word_goes_on false letters 13 refl)

heard_hash : (letters rest : List ℕ) → heard_in (at_word false letters) (35 ∷ rest) ≡ ended letters (heard_in (at_comment false) rest)
unfolding heard_in heard_by settled_by went_by is_end
heard_hash letters rest =
    append_assoc (word_by (at_word false letters) 35) [] (heard_in (at_comment false) rest)
    ∙ word_ended false letters 35 (heard_in (at_comment false) rest) refl

heard_blank : (letters : List ℕ) (byte : ℕ) (rest : List ℕ) → eqb byte 10 ≡ false → eqb byte 13 ≡ false → eqb byte 35 ≡ false →
    is_blank byte ≡ true → heard_in (at_word false letters) (byte ∷ rest) ≡ ended letters (heard_in (at_word false []) rest)
unfolding heard_in heard_by settled_by went_by is_end
heard_blank letters byte rest p q r b =
    let ends : is_end byte ≡ true = rw (p, r, b) in
    rw (p, q, r, b)
    (append_assoc (word_by (at_word false letters) byte) [] (heard_in begun rest)
    ∙ word_ended false letters byte (heard_in begun rest) ends
    ∙ ap (λ (spot : Spot). ended letters (heard_in spot rest)) at_begin)

heard_letter : (letters : List ℕ) (byte : ℕ) (rest : List ℕ) → eqb byte 10 ≡ false → eqb byte 13 ≡ false → eqb byte 35 ≡ false →
    is_blank byte ≡ false → heard_in (at_word false letters) (byte ∷ rest) ≡ heard_in (at_word false (letters ++ (byte ∷ []))) rest
unfolding heard_in heard_by settled_by went_by is_end
heard_letter letters byte rest p q r b =
    let on : is_end byte ≡ false = rw (p, r, b) in
    let none : word_by (at_word false letters) byte ≡ [] = word_goes_on false letters byte on in
    rw (p, q, r, b, none) (ap (λ (spot : Spot). heard_in spot rest) (at_longer false letters byte))

-- a CR before another byte than LF
heard_settled : (letters : List ℕ) (byte : ℕ) (rest : List ℕ) → eqb byte 10 ≡ false →
    heard_in (at_word true letters) (byte ∷ rest) ≡ heard_in (at_word false (letters ++ (13 ∷ []))) (byte ∷ rest)
unfolding heard_in heard_by settled_by
heard_settled letters byte rest p =
    rw (p, at_longer true letters 13)

-- one byte of a comment
comment_feed : (returned : Bool) (rest : List ℕ) → heard_in (at_comment returned) (10 ∷ rest) ≡ line_end ∷ heard_in (at_word false []) rest
unfolding heard_in heard_by settled_by went_by ends_word
comment_feed false rest = ap (λ (spot : Spot). line_end ∷ heard_in spot rest) at_begin
comment_feed true rest = ap (λ (spot : Spot). line_end ∷ heard_in spot rest) at_begin

comment_return : (returned : Bool) (rest : List ℕ) → heard_in (at_comment returned) (13 ∷ rest) ≡ heard_in (at_comment true) rest
unfolding heard_in heard_by settled_by went_by ends_word grown_by
comment_return false rest = refl
comment_return true rest = refl

comment_on : (returned : Bool) (byte : ℕ) (rest : List ℕ) → eqb byte 10 ≡ false → eqb byte 13 ≡ false →
    heard_in (at_comment returned) (byte ∷ rest) ≡ heard_in (at_comment false) rest
unfolding heard_in heard_by settled_by went_by ends_word grown_by
comment_on false byte rest p q = rw (p, q)
comment_on true byte rest p q = rw (p, q)

-- the same bytes in the definition
word_feed : (letters rest : List ℕ) → in_word letters (10 ∷ rest) ≡ ended letters (line_end ∷ in_word [] rest)
unfolding in_word
word_feed letters rest = refl

word_hash : (letters rest : List ℕ) → in_word letters (35 ∷ rest) ≡ ended letters (in_comment rest)
unfolding in_word
word_hash letters rest = refl

word_return : (letters rest : List ℕ) → in_word letters (13 ∷ rest) ≡ in_word (letters ++ (13 ∷ [])) rest
unfolding in_word is_blank
word_return letters rest = refl

pub word_blank : (letters : List ℕ) (byte : ℕ) (rest : List ℕ) → eqb byte 10 ≡ false → eqb byte 35 ≡ false → is_blank byte ≡ true →
    in_word letters (byte ∷ rest) ≡ ended letters (in_word [] rest)
unfolding in_word
word_blank letters byte rest p q b = rw (p, q, b)

pub word_letter : (letters : List ℕ) (byte : ℕ) (rest : List ℕ) → eqb byte 10 ≡ false → eqb byte 35 ≡ false → is_blank byte ≡ false →
    in_word letters (byte ∷ rest) ≡ in_word (letters ++ (byte ∷ [])) rest
unfolding in_word
word_letter letters byte rest p q b = rw (p, q, b)

in_comment_feed : (rest : List ℕ) → in_comment (10 ∷ rest) ≡ line_end ∷ in_word [] rest
unfolding in_word
in_comment_feed rest = refl

in_comment_on : (byte : ℕ) (rest : List ℕ) → eqb byte 10 ≡ false → in_comment (byte ∷ rest) ≡ in_comment rest
unfolding in_word
in_comment_on byte rest p = rw p

-- the text from a byte on is heard as it should be: in a word, behind a CR in a word, in a comment, and behind a CR in a comment
record Heard (rest : List ℕ) : Type 0 where
  on_word : (letters : List ℕ) → heard_in (at_word false letters) rest ≡ in_word letters (unreturned rest)
  on_return : (letters : List ℕ) → heard_in (at_word true letters) rest ≡ in_word letters (unreturned (13 ∷ rest))
  on_comment : heard_in (at_comment false) rest ≡ in_comment (unreturned rest)
  on_returned : heard_in (at_comment true) rest ≡ in_comment (unreturned (13 ∷ rest))

word_step : (rest letters : List ℕ) (byte : ℕ) → Heard rest → heard_in (at_word false letters) (byte ∷ rest) ≡ in_word letters (unreturned (byte ∷ rest))
word_step rest letters byte h =
    elim (eqb? byte 13) [
      | inl cr ↦ rw cr.1 (heard_return letters rest ∙ h.on_return letters)
      | inr plain ↦
          elim (eqb? byte 10) [
            | inl lf ↦
                rw lf.1
                (heard_feed false letters rest
                ∙ ap (λ (events : List Event). ended letters (line_end ∷ events)) (h.on_word [])
                ∙ sym (word_feed letters (unreturned rest))
                ∙ ap (in_word letters) (sym (left_in 10 rest refl)))
            | inr more ↦
                elim (eqb? byte 35) [
                  | inl hash ↦
                      rw hash.1
                      (heard_hash letters rest
                      ∙ ap (ended letters) h.on_comment
                      ∙ sym (word_hash letters (unreturned rest))
                      ∙ ap (in_word letters) (sym (left_in 35 rest refl)))
                  | inr other ↦
                      elim (bool? (is_blank byte)) [
                        | inl blank ↦
                            heard_blank letters byte rest more.0 plain.0 other.0 blank
                            ∙ ap (ended letters) (h.on_word [])
                            ∙ sym (word_blank letters byte (unreturned rest) more.0 other.0 blank)
                            ∙ ap (in_word letters) (sym (left_in byte rest plain.0))
                        | inr letter ↦
                            heard_letter letters byte rest more.0 plain.0 other.0 letter
                            ∙ h.on_word (letters ++ (byte ∷ []))
                            ∙ sym (word_letter letters byte (unreturned rest) more.0 other.0 letter)
                            ∙ ap (in_word letters) (sym (left_in byte rest plain.0))
                      ]
                ]
          ]
    ]

return_step : (rest letters : List ℕ) (byte : ℕ) → Heard rest →
    heard_in (at_word true letters) (byte ∷ rest) ≡ in_word letters (unreturned (13 ∷ (byte ∷ rest)))
return_step rest letters byte h =
    elim (eqb? byte 10) [
      | inl lf ↦
          rw lf.1
          (heard_feed true letters rest
          ∙ ap (λ (events : List Event). ended letters (line_end ∷ events)) (h.on_word [])
          ∙ sym (word_feed letters (unreturned rest))
          ∙ ap (in_word letters) (sym (left_in 10 rest refl) ∙ sym (out_return rest)))
      | inr more ↦
          heard_settled letters byte rest more.0
          ∙ word_step rest (letters ++ (13 ∷ [])) byte h
          ∙ sym (word_return letters (unreturned (byte ∷ rest)))
          ∙ ap (in_word letters) (sym (left_return byte rest more.0))
    ]

comment_step : (rest : List ℕ) (byte : ℕ) → Heard rest → heard_in (at_comment false) (byte ∷ rest) ≡ in_comment (unreturned (byte ∷ rest))
comment_step rest byte h =
    elim (eqb? byte 13) [
      | inl cr ↦ rw cr.1 (comment_return false rest ∙ h.on_returned)
      | inr plain ↦
          elim (eqb? byte 10) [
            | inl lf ↦
                rw lf.1
                (comment_feed false rest
                ∙ ap (λ (events : List Event). line_end ∷ events) (h.on_word [])
                ∙ sym (in_comment_feed (unreturned rest))
                ∙ ap in_comment (sym (left_in 10 rest refl)))
            | inr more ↦
                comment_on false byte rest more.0 plain.0
                ∙ h.on_comment
                ∙ sym (in_comment_on byte (unreturned rest) more.0)
                ∙ ap in_comment (sym (left_in byte rest plain.0))
          ]
    ]

returned_step : (rest : List ℕ) (byte : ℕ) → Heard rest → heard_in (at_comment true) (byte ∷ rest) ≡ in_comment (unreturned (13 ∷ (byte ∷ rest)))
returned_step rest byte h =
    elim (eqb? byte 10) [
      | inl lf ↦
          rw lf.1
          (comment_feed true rest
          ∙ ap (λ (events : List Event). line_end ∷ events) (h.on_word [])
          ∙ sym (in_comment_feed (unreturned rest))
          ∙ ap in_comment (sym (left_in 10 rest refl) ∙ sym (out_return rest)))
      | inr more ↦
          same_behind
          ∙ comment_step rest byte h
          ∙ sym (in_comment_on 13 (unreturned (byte ∷ rest)) refl)
          ∙ ap in_comment (sym (left_return byte rest more.0))
    ]
  where
    -- in a comment a CR before the byte makes no difference
    same_behind : heard_in (at_comment true) (byte ∷ rest) ≡ heard_in (at_comment false) (byte ∷ rest)
    same_behind =
        elim (eqb? byte 13) [
          | inl cr ↦ rw cr.1 (comment_return true rest ∙ sym (comment_return false rest))
          | inr plain ↦
              elim (eqb? byte 10) [
                | inl lf ↦ rw lf.1 (comment_feed true rest ∙ sym (comment_feed false rest))
                | inr more ↦ comment_on true byte rest more.0 plain.0 ∙ sym (comment_on false byte rest more.0 plain.0)
              ]
        ]

heard_all : (rest : List ℕ) → Heard rest
unfolding in_word unreturned begins_with_feed heard_in is_blank
heard_all [] = record { on_word = λ letters. refl; on_return = λ letters. refl; on_comment = refl; on_returned = refl }
heard_all (byte ∷ rest) =
    let h = heard_all rest in
    record {
      on_word = λ letters. word_step rest letters byte h;
      on_return = λ letters. return_step rest letters byte h;
      on_comment = comment_step rest byte h;
      on_returned = returned_step rest byte h;
    }

heard_joins : (spot : Spot) (piece rest : List ℕ) → heard_in spot (piece ++ rest) ≡ heard_in spot piece ++ heard_in (spot_after spot piece) rest
unfolding heard_in spot_after
heard_joins spot [] rest = refl
heard_joins spot (byte ∷ piece) rest =
    ap (λ (events : List Event). heard_by spot byte ++ events) (heard_joins (spot_by spot byte) piece rest)
    ∙ sym (append_assoc (heard_by spot byte) _ _)

spots_join : (spot : Spot) (piece rest : List ℕ) → spot_after spot (piece ++ rest) ≡ spot_after (spot_after spot piece) rest
unfolding spot_after
spots_join spot [] rest = refl
spots_join spot (byte ∷ piece) rest = spots_join (spot_by spot byte) piece rest

pub words_heard : WordsHeard
unfolding events_of
words_heard =
    record {
      whole = λ text. ap (λ (spot : Spot). heard_in spot (text ++ (10 ∷ []))) at_begin ∙ (heard_all (text ++ (10 ∷ []))).on_word [];
      joins = heard_joins;
      spots = spots_join;
    }
