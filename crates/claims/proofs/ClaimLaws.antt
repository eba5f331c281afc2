-- The test of one claim, and one turn of the loop over the claims.
-- Assumes nothing.
use Prim.Native.Nat.{ℕ, ◌+◌, ◌-◌, ◌≤◌, ◌<◌}
use native.Mathlib.Omega.{arith}
use mathlib.Core.Path.{◌≡◌, refl, sym, ◌∙◌, ap, subst}
use mathlib.Core.Bool.{Bool, true, false, not}
use mathlib.Core.List.{List}
use mathlib.Core.Logic.{◌⊎◌, inl, inr}
use lib.Dec.{leb}
use lib.ListN.{get_or}
use borrow.Author.Tests.{le-leb, lt-leb, leb-true}
use Rattle.model.specs.Choice.{both}
use Rattle.model.specs.Lists.{total, word_of}
use Rattle.model.specs.Tables.{Load}
use Rattle.model.proofs.Tests.{bool?, clash, refuted, confirmed, both_true, both_pass, both_fail}
use Rattle.model.proofs.First.{first_none, first_on, first_stop, all_clean, none_found, first_found}
use Rattle.tables.specs.Refusals.{at}
use Rattle.equation.specs.Demand.{demand}
use Rattle.equation.specs.Slices.{loads}
use Rattle.answering.specs.Slices.{Decoded, DecodedFits, GroupFound}
use Rattle.answering.proofs.AnsweringLaws.{Walking, walking_none, walking_more, walked_all, loads_are}
use Rattle.claims.specs.declared.Claimed.{Claimed}
use Rattle.claims.specs.declared.Claimed.TheVariants.{Refused, WrongCount, Pass, Fails}
use Rattle.claims.specs.Claims.{claim_passes, is_pass, fails_at, compared_of}
use Rattle.claims.specs.Columns.{passes_in}

module _ (base : ℕ) (loads : List Load) (latest deadline r : ℕ) where
  -- a claim that leaves no tick fails
  pub too_small : r ≤ latest → false ≡ claim_passes base loads latest deadline r
  unfolding claim_passes
  too_small h = rw (lt-leb 1 (r - latest) (omega arith)) refl

  -- and one that is past the deadline
  pub too_late : deadline < r → false ≡ claim_passes base loads latest deadline r
  unfolding claim_passes
  too_late h = sym (rw (lt-leb r deadline h) (both_fail (leb 1 (r - latest)) false refl))

  -- any other is as good as its demand
  pub as_asked : latest < r → r ≤ deadline → (w : ℕ) → w ≡ r - latest → (asked : ℕ) → asked ≡ demand base loads w →
      leb asked w ≡ claim_passes base loads latest deadline r
  unfolding claim_passes
  as_asked low high w left asked is = rw (is, left, le-leb 1 (r - latest) (omega arith), le-leb r deadline high) refl

  -- what a claim that passes says
  pub passes_says : claim_passes base loads latest deadline r ≡ true →
      (latest < r) × (r ≤ deadline) × (demand base loads (r - latest) ≤ r - latest)
  unfolding claim_passes
  passes_says p =
      let first = both_true (leb 1 (r - latest)) (both (leb r deadline) (leb (demand base loads (r - latest)) (r - latest))) p in
      let rest = both_true (leb r deadline) (leb (demand base loads (r - latest)) (r - latest)) first.1 in
      (omega (arith, leb-true 1 (r - latest) first.0), leb-true r deadline rest.0, leb-true (demand base loads (r - latest)) (r - latest) rest.1)

  -- and that such a claim passes
  pub passes_so : latest < r → r ≤ deadline → demand base loads (r - latest) ≤ r - latest → claim_passes base loads latest deadline r ≡ true
  unfolding claim_passes
  passes_so low high enough =
      both_pass (le-leb 1 (r - latest) (omega arith))
      (both_pass (le-leb r deadline high) (le-leb (demand base loads (r - latest)) (r - latest) enough))

pub pass_only : (claimed : Claimed) → is_pass claimed ≡ true → claimed ≡ Pass
pass_only (Refused refusal) p = absurd (clash false p refl)
pass_only WrongCount p = absurd (clash false p refl)
pass_only Pass p = refl
pass_only (Fails place) p = absurd (clash false p refl)

-- the first claim that fails, one after the other
module _ (passes : ℕ → Bool) where
  passed : (k : ℕ) → passes k ≡ true → fails_at passes k ≡ Pass
  passed k p = rw p

  failed : (k : ℕ) → passes k ≡ false → fails_at passes k ≡ Fails (at k)
  failed k p = rw p

  compared_none : compared_of passes 0 ≡ Pass
  compared_none = first_none is_pass Pass refl (fails_at passes)

  compared_on : (k : ℕ) → compared_of passes k ≡ Pass → passes k ≡ true → compared_of passes (k + 1) ≡ Pass
  compared_on k before p = first_on is_pass Pass refl (fails_at passes) k before (passed k p)

  pub compared_stop : (k n : ℕ) → compared_of passes k ≡ Pass → passes k ≡ false → k < n → Fails (at k) ≡ compared_of passes n
  compared_stop k n before p h =
      sym (first_stop is_pass Pass refl (fails_at passes) k before (ap is_pass (failed k p)) n h ∙ failed k p)

  compared_all : (k n : ℕ) → compared_of passes k ≡ Pass → n ≡ k → Pass ≡ compared_of passes n
  compared_all k n before e = sym (subst (λ (j : ℕ). compared_of passes j ≡ Pass) (sym e) before)

  -- what is said of all claims
  pub all_pass : (n : ℕ) → compared_of passes n ≡ Pass → (k : ℕ) → k < n → passes k ≡ true
  all_pass n e k h = pass_at k (all_clean is_pass Pass refl (fails_at passes) pass_only n e k h)
    where
      pass_at : (k : ℕ) → fails_at passes k ≡ Pass → passes k ≡ true
      pass_at k e =
          elim (bool? (passes k)) [
            | inl p ↦ p
            | inr p ↦ absurd (clash false (sym (ap is_pass (failed k p)) ∙ ap is_pass e) refl)
          ]

  pub none_fails : (n : ℕ) → ((k : ℕ) → k < n → passes k ≡ true) → compared_of passes n ≡ Pass
  none_fails n each = none_found is_pass Pass refl (fails_at passes) pass_only n (λ k h. passed k (each k h))

  -- either all pass, or some claim is the first that fails
  pub compared_cases : (n : ℕ) → (compared_of passes n ≡ Pass)
      ⊎ ((k : ℕ) × (k < n) × (compared_of passes n ≡ Fails (at k)) × (passes k ≡ false) × ((j : ℕ) → j < k → passes j ≡ true))
  compared_cases n =
      elim (bool? (is_pass (compared_of passes n))) [
        | inl p ↦ inl (pass_only (compared_of passes n) p)
        | inr p ↦
            let g = first_found is_pass Pass refl (fails_at passes) pass_only n p in
            elim (bool? (passes g.0)) [
              | inl q ↦ absurd (clash true refl (sym (ap is_pass (g.2 ∙ passed g.0 q)) ∙ p))
              | inr q ↦
                  inr (g.0, g.1, g.2 ∙ failed g.0 q, q, all_pass g.0 (none_found is_pass Pass refl (fails_at passes) pass_only g.0 g.3))
            ]
      ]

-- before the claim of task i is looked at
pub record Checking (d : Decoded) (n : ℕ) (claims : List ℕ) (i end sum reached : ℕ) : Type 0 where
  pub walking : Walking d n i end sum reached
  pub passed : compared_of (passes_in d n claims) i ≡ Pass

module _ (d : Decoded) (n : ℕ) (claims : List ℕ) where
  pub checking_none : DecodedFits d n → Checking d n claims 0 0 0 0
  checking_none f = record { walking = walking_none d n f; passed = compared_none (passes_in d n claims) }

  pub checking_all : (i end sum reached : ℕ) → Checking d n claims i end sum reached → n ≤ i → Pass ≡ compared_of (passes_in d n claims) n
  checking_all i end sum reached a h =
      compared_all (passes_in d n claims) i n a.passed (walked_all d n i end sum reached a.walking h)

  -- One turn. The test of the code is that of the columns: its loads are those of the group that was found.
  module _ (i before_end before_sum reached : ℕ) (a : Checking d n claims i before_end before_sum reached) (h : i < n) (count all end sum : ℕ)
      (found : GroupFound d.priorities d.costs n i before_end before_sum count all end sum) (b : Bool)
      (tested : b ≡ claim_passes (get_or d.costs i 0 + get_or d.held i 0) (loads d.periods d.costs d.spreads i count) (get_or d.latest i 0)
      (get_or d.deadlines i 0) (word_of claims i)) where
    same_test : b ≡ passes_in d n claims i
    unfolding passes_in
    same_test = rw (loads_are d n i a.walking.fits h before_end before_sum count all end sum found) at tested

    pub turn_fails : not b ≡ true → Fails (at i) ≡ compared_of (passes_in d n claims) n
    turn_fails p = compared_stop (passes_in d n claims) i n a.passed (refuted same_test p) h

    pub turn_passes : not b ≡ false → (next : ℕ) → next ≡ total (word_of d.costs) (i + 1) → Checking d n claims (i + 1) end sum next
    turn_passes p next is =
        record {
          walking = walking_more d n i a.walking.fits h before_end before_sum count all end sum found reached next a.walking is;
          passed = compared_on (passes_in d n claims) i a.passed (confirmed same_test p);
        }
