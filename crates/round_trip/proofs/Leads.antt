-- Where a text leads: from what stands before it to what stands behind it.
-- Assumes nothing.
use Prim.Native.Nat.{ℕ, zero, suc, ◌+◌, ◌*◌, ◌/◌, ◌%◌, ◌^◌, ◌≤◌, ◌<◌}
use native.Mathlib.Nat.{pow-suc, div-add-mod', mod-lt, zero-lt-suc}
use native.Mathlib.Omega.{arith}
use mathlib.Core.Path.{◌≡◌, refl, sym, ◌∙◌, ap}
use mathlib.Core.Bool.{true, false}
use mathlib.Core.Logic.{inl, inr}
use mathlib.Core.List.{List, [], ◌∷◌, ◌++◌}
use lib.Dec.{eqb}
use borrow.Author.Tests.{ne_eqb, lt-ltb}
use Rattle.io.specs.Digits.{hex_digit_ascii, last_digits}
use Rattle.model.proofs.Tests.{bool?, ltb?}
use Rattle.printing.specs.Text.{bytes_of, decimal_of}
use Rattle.scanning.specs.Reading.{is_digit}
use Rattle.scanning.proofs.ByteLaws.{digit_range}
use Rattle.scanning.proofs.BackLaws.{glyph_is, glyph_digit, digits_of}
use Rattle.words.specs.declared.Spot.{Spot}
use Rattle.words.specs.Words.{is_blank, is_end, spelled_after, spelled_from, spelling_of, amount_after, Event, word, line_end}
use Rattle.words.specs.Steps.{begun, grown_by, settled_by, ends_word, went_by, heard_by, heard_in, spot_after}
use Rattle.words.proofs.HeardLaws.{spelled_more, words_heard}
use Rattle.typing.specs.Reading.{Draft, draft_by, draft_after}

-- what a text leaves behind it: the letters of a word, and a draft
pub record Leads (spot : Spot) (draft : Draft) (text : List ℕ) (spot_behind : Spot) (draft_behind : Draft) : Type 0 where
  pub drafted : draft_after draft (heard_in spot text) ≡ draft_behind
  pub left : spot_after spot text ≡ spot_behind

draft_joins : (draft : Draft) (first rest : List Event) → draft_after draft (first ++ rest) ≡ draft_after (draft_after draft first) rest
unfolding draft_after
draft_joins draft [] rest = refl
draft_joins draft (event ∷ first) rest = draft_joins (draft_by draft event) first rest

pub leads_nowhere : (spot : Spot) (draft : Draft) → Leads spot draft [] spot draft
unfolding draft_after heard_in spot_after
leads_nowhere spot draft = record { drafted = refl; left = refl }

-- one text behind another
pub leads_on : {spot middle last : Spot} {draft between behind : Draft} {first rest : List ℕ} →
    Leads spot draft first middle between → Leads middle between rest last behind → Leads spot draft (first ++ rest) last behind
leads_on {spot} {middle} {last} {draft} {between} {behind} {first} {rest} a b =
    record {
      drafted =
          ap (draft_after draft) (words_heard.joins spot first rest)
          ∙ draft_joins draft (heard_in spot first) (heard_in (spot_after spot first) rest)
          ∙ ap (λ (d : Draft). draft_after d (heard_in (spot_after spot first) rest)) a.drafted
          ∙ ap (λ (s : Spot). draft_after between (heard_in s rest)) a.left
          ∙ b.drafted;
      left = words_heard.spots spot first rest ∙ ap (λ (s : Spot). spot_after s rest) a.left ∙ b.left;
    }

pub leads_to : {spot last : Spot} {draft behind : Draft} {text : List ℕ} (other : Draft) →
    Leads spot draft text last behind → behind ≡ other → Leads spot draft text last other
leads_to other a e = record { drafted = a.drafted ∙ e; left = a.left }

-- in a word so spelled and of that amount
abbrev in_word_of : ℕ → ℕ → Spot
in_word_of spelling amount = record { returned = false; commented = false; spelling = spelling; amount = amount }

-- a digit is one letter more
digit_leads : (draft : Draft) (spelling amount byte : ℕ) → is_digit byte ≡ true →
    Leads (in_word_of spelling amount) draft (byte ∷ []) (in_word_of (spelled_after spelling byte) (amount_after amount byte)) draft
unfolding draft_after heard_in spot_after heard_by settled_by ends_word went_by grown_by is_end is_blank
digit_leads draft spelling amount byte p =
    let range = digit_range byte p in
    let feed : eqb byte 10 ≡ false = ne_eqb byte 10 (λ e. omega (arith, range)) in
    let return : eqb byte 13 ≡ false = ne_eqb byte 13 (λ e. omega (arith, range)) in
    let hash : eqb byte 35 ≡ false = ne_eqb byte 35 (λ e. omega (arith, range)) in
    let blank : eqb byte 32 ≡ false = ne_eqb byte 32 (λ e. omega (arith, range)) in
    let tab : eqb byte 9 ≡ false = ne_eqb byte 9 (λ e. omega (arith, range)) in
    record {
      drafted = elim (bool? (eqb spelling 1)) [ inl q ↦ rw (feed, hash, blank, tab, q) | inr q ↦ rw (feed, hash, blank, tab, q) ];
      left = rw (feed, return, hash, blank, tab);
    }

amount_digit : (number : ℕ) → number ≤ 4294967295 → amount_after (number / 10) (hex_digit_ascii (number % 10)) ≡ number
unfolding amount_after
amount_digit number h =
    let small : number % 10 < 10 = mod-lt number (zero-lt-suc 9) in
    let whole = div-add-mod' number 10 in
    rw (glyph_digit number, lt-ltb (number / 10) 4294967296 (omega (arith, whole)))
    (omega (arith, glyph_is (number % 10) small, whole))

digits_lead : (draft : Draft) (k number : ℕ) → number < 10 ^ k → number ≤ 4294967295 →
    Leads begun draft (last_digits 10 k number) (in_word_of (spelling_of (last_digits 10 k number)) number) draft
unfolding draft_after heard_in spot_after spelled_from
digits_lead draft zero number small fits =
    let one : 10 ^ 0 ≡ 1 = refl in
    let none : number ≡ 0 = omega (arith, one) in
    record { drafted = refl; left = ap (in_word_of 1) (sym none) }
digits_lead draft (suc k) number small fits =
    let front = last_digits 10 k (number / 10) in
    let last = hex_digit_ascii (number % 10) in
    let a = leads_on (digits_lead draft k (number / 10) (omega (arith, div-add-mod' number 10, pow-suc 10 k)) (omega (arith, div-add-mod' number 10)))
    (digit_leads draft (spelling_of front) (number / 10) last (glyph_digit number)) in
    record {
      drafted = a.drafted;
      left =
          a.left
          ∙ ap (λ (amount : ℕ). in_word_of (spelled_after (spelling_of front) last) amount) (amount_digit number fits)
          ∙ ap (λ (spelling : ℕ). in_word_of spelling number) (sym (spelled_more 1 front last));
    }

-- in a number
abbrev pub number_word : ℕ → Event
number_word number = word (spelling_of (decimal_of number)) number

abbrev pub in_number : ℕ → Spot
in_number number = in_word_of (spelling_of (decimal_of number)) number

pub number_leads : {draft : Draft} (number : ℕ) → number ≤ 4294967295 → Leads begun draft (decimal_of number) (in_number number) draft
number_leads {draft} number fits =
    let d = digits_of number fits in
    rw d.1 (digits_lead draft (suc d.0) number d.2 fits)

-- a number's word has letters
spelled_digit : (spelling byte : ℕ) → is_digit byte ≡ true → eqb (spelled_after spelling byte) 1 ≡ false
unfolding spelled_after
spelled_digit spelling byte p =
    elim (ltb? spelling 72057594037927936) [
      | inl q ↦ rw q.0 (ne_eqb (256 * spelling + byte) 1 (λ e. omega (arith, digit_range byte p)))
      | inr q ↦ rw q.0
    ]

spelled_number : (number : ℕ) → number ≤ 4294967295 → eqb (spelling_of (decimal_of number)) 1 ≡ false
spelled_number number fits =
    let d = digits_of number fits in
    let front = last_digits 10 d.0 (number / 10) in
    let last = hex_digit_ascii (number % 10) in
    ap (λ (letters : List ℕ). eqb (spelling_of letters) 1) d.1
    ∙ ap (λ (spelling : ℕ). eqb spelling 1) (spelled_more 1 front last)
    ∙ spelled_digit (spelling_of front) last (glyph_digit number)

-- a blank behind a number, and a line's end
pub blank_behind : (draft : Draft) (number : ℕ) → number ≤ 4294967295 → Leads (in_number number) draft (bytes_of " ") begun (draft_by draft (number_word number))
unfolding draft_after heard_in spot_after heard_by settled_by ends_word went_by is_end is_blank
blank_behind draft number fits = record { drafted = rw (spelled_number number fits); left = refl }

pub end_behind : (draft : Draft) (number : ℕ) → number ≤ 4294967295 →
    Leads (in_number number) draft (bytes_of "\n") begun (draft_by (draft_by draft (number_word number)) line_end)
unfolding draft_after heard_in spot_after heard_by settled_by ends_word went_by is_end is_blank
end_behind draft number fits = record { drafted = rw (spelled_number number fits); left = refl }
