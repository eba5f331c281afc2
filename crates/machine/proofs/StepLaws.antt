-- What the small functions of a tick leave.
-- Assumes nothing.
use Prim.Native.Nat.{ℕ, zero, suc, ◌+◌, ◌-◌, ◌/◌, ◌≤◌, ◌<◌, max}
use native.Mathlib.Decide.{ℕ_discrete}
use native.Mathlib.Omega.{arith}
use native.Mathlib.Nat.{add-zero}
use native.Mathlib.Numerals.{add-one}
use Rattle.std.specs.List.{fold}
use Rattle.std.proofs.lemmas.List.Sums.{fold-append}
use mathlib.Core.Path.{◌≡◌, refl, sym, ◌∙◌, ap, subst}
use mathlib.Core.List.{List, [], ◌∷◌}
use lib.Bits.{bit_or, bit_and}
use lib.Dec.{eqb, ltb}
use Rattle.std.specs.Prelude.{Option, Some}
use Rattle.model.specs.declared.Place.{Place}
use lib.ListN.{length, get_or, set, take, length-set}
use lib.Seq.{take-suc, set-get_or, get_or-set_same, get_or-set_other}
use borrow.Author.Tests.{eq-eqb, ne_eqb, lt-ltb, le-ltb}
use Rattle.model.specs.Choice.{pick, on}
use Rattle.model.specs.Lists.{largest_to, word_of}
use Rattle.model.proofs.Lists.{largest_none, largest_more}
use Rattle.machine.specs.Machine.{mask, next_place, ready_after, raised_by}
use Rattle.machine.specs.Slices.{WordsHeld, place_or_none, reported_in}
use Rattle.machine.proofs.WordLaws.{next_same, place_some}
use Rattle.machine.proofs.MachineLaws.{other_word}

-- a word that is not changed is stored as it is
pub stays : (words : List ℕ) (p : ℕ) → words ≡ set words p (get_or words p 0)
stays words p = sym (set-get_or words p 0)

-- a task that is not due
pub not_due : (words : List ℕ) (p due t more : ℕ) → (due ≡ t → ⊥) → words ≡ set words p (get_or words p 0 + on (eqb due t) more)
not_due words p due t more other = rw (ne_eqb due t other, add-zero) (stays words p)

pub is_due : (words : List ℕ) (p due t more : ℕ) → due ≡ t → set words p (get_or words p 0 + more) ≡ set words p (get_or words p 0 + on (eqb due t) more)
is_due words p due t more same = rw (eq-eqb due t same)

pub not_raised : (due t place ready : ℕ) → (due ≡ t → ⊥) → ready ≡ raised_by (eqb due t) place ready
not_raised due t place ready other = rw (ne_eqb due t other)

pub is_raised : (due t place ready bit : ℕ) → due ≡ t → bit ≡ mask place → bit_or ready bit ≡ raised_by (eqb due t) place ready
is_raised due t place ready bit same e = rw (eq-eqb due t same, e)

-- an answer that is in time is written, and one that is late is not
module _ (answers : List ℕ) (place at deadline : ℕ) where
  pub too_late : deadline ≤ at → answers ≡ set answers place (pick (ltb at deadline) (at + 1) (get_or answers place 0))
  too_late past = rw (le-ltb at deadline past) (stays answers place)

  pub in_time_law : at < deadline → set answers place (at + 1) ≡ set answers place (pick (ltb at deadline) (at + 1) (get_or answers place 0))
  in_time_law early = rw (lt-ltb at deadline early)

-- the bit of a place goes off its word with the last of its work
module _ (word place : ℕ) (ready : List ℕ) where
  abbrev own : ℕ
  own = place / 64

  abbrev after : ℕ → ℕ
  after = ready_after (eqb word 1) place (word_of ready)

  -- where work is left, all stays
  pub words_stay : (word - 1 ≡ 0 → ⊥) → ready ≡ set ready own (after own)
  words_stay some = rw (ne_eqb word 1 (λ e. some (omega arith))) (stays ready own)

  pub place_stays : (word - 1 ≡ 0 → ⊥) → place ≡ next_place (word_of ready) → place < 256 →
      ◌≡◌ {A = Option Place} (Some (record { 0 = place })) (place_or_none (next_place after))
  place_stays some e low = rw (ne_eqb word 1 (λ z. some (omega arith))) (place_some place (next_place (word_of ready)) e low)

  module _ (some : 1 ≤ word) (none : word - 1 ≡ 0) where
    pub words_cleared : (now : List ℕ) → now ≡ set ready own (bit_and (word_of ready own) (18446744073709551615 - mask place)) →
        now ≡ set ready own (after own)
    words_cleared now e = rw (eq-eqb word 1 (omega arith), eq-eqb own own refl) e

    -- word by word
    words_after : (now : List ℕ) → own < length ready → now ≡ set ready own (after own) → (w : ℕ) → word_of now w ≡ after w
    words_after now inside e w =
        elim (ℕ_discrete w own) [
          | yes s ↦
              subst (λ (v : ℕ). word_of now v ≡ after v) (sym s)
              (ap (λ (words : List ℕ). word_of words own) e ∙ get_or-set_same ready own (after own) 0 inside)
          | no d ↦
              ap (λ (words : List ℕ). word_of words w) e
              ∙ get_or-set_other ready own w (after own) 0 d
              ∙ sym (other_word (eqb word 1) place (word_of ready) w d)
        ]

    pub place_after : (now : List ℕ) (r : Option Place) → own < length ready → now ≡ set ready own (after own) → r ≡ place_or_none (next_place (word_of now)) →
        r ≡ place_or_none (next_place after)
    place_after now r inside e is = is ∙ ap place_or_none (next_same (word_of now) after (words_after now inside e))

  -- words of no task stay without a bit
  pub rest_stays : (now : List ℕ) (n : ℕ) → place < n → WordsHeld n ready →
      now ≡ set ready own (bit_and (word_of ready own) (18446744073709551615 - mask place)) → WordsHeld n now
  rest_stays now n inside held e =
      record {
        long = rw (e, length-set ready own (bit_and (word_of ready own) (18446744073709551615 - mask place))) held.long;
        rest = λ w h.
            ap (λ (words : List ℕ). word_of words w) e
            ∙ get_or-set_other ready own w (bit_and (word_of ready own) (18446744073709551615 - mask place)) 0 (omega arith)
            ∙ held.rest w h;
      }

module _ (word place at deadline : ℕ) (answers : List ℕ) where
  -- what is reported
  pub last_reported : (now : List ℕ) → 1 ≤ word → word - 1 ≡ 0 →
      now ≡ set answers place (pick (ltb at deadline) (at + 1) (get_or answers place 0)) →
      now ≡ set answers place (reported_in word at deadline (get_or answers place 0))
  last_reported now some none e = rw (eq-eqb word 1 (omega arith)) e

  pub none_reported : (word - 1 ≡ 0 → ⊥) → answers ≡ set answers place (reported_in word at deadline (get_or answers place 0))
  none_reported some = rw (ne_eqb word 1 (λ e. some (omega arith))) (stays answers place)

-- the largest of the first n words
pub largest_fold : (words : List ℕ) (n : ℕ) → n ≤ length words → fold max 0 (take n words) ≡ largest_to (word_of words) n
largest_fold words zero h = sym (largest_none (word_of words))
largest_fold words (suc n) h =
    let more : n < length words = omega arith in
    rw (take-suc words n 0 more)
    (fold-append max 0 (take n words) (word_of words n ∷ [])
    ∙ ap (λ (x : ℕ). max x (word_of words n)) (largest_fold words n (omega arith))
    ∙ sym (largest_more (word_of words) n)
    ∙ ap (largest_to (word_of words)) (add-one n))
