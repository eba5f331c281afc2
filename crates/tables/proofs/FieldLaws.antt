-- Checks one after another, and fields tested in order: the first that fails is the one that is refused.
-- Assumes nothing.
use Rattle.std.specs.Prelude.{Ok, Err, IsErrAnd}
use Rattle.std.proofs.lemmas.Result.{err_from_is_err_and}
use Prim.Native.Nat.{ℕ, ◌+◌, ◌<◌}
use mathlib.Core.Path.{◌≡◌, refl, sym, ◌∙◌, ap, subst}
use mathlib.Core.Bool.{Bool, true, false}
use mathlib.Core.List.{List, [], ◌∷◌, ◌++◌}
use mathlib.Core.Logic.{◌⊎◌, inl, inr}
use Rattle.model.specs.Search.{first_of, clean_count}
use Rattle.model.proofs.Tests.{clash}
use Rattle.model.proofs.First as first_laws
use Rattle.tables.specs.declared.Refusal.{Refusal}
use Rattle.tables.specs.Refusals.{Check, is_clean, unless, or_else, first_in, field_check, fields_check}
use Rattle.tables.specs.Deserved.{Each, FirstBroken}

pub clean_only : (check : Check) → is_clean check ≡ true → check ≡ Ok tt
clean_only (Ok _) p = refl
clean_only (Err r) p = absurd (clash false p refl)

-- checks 0 to k − 1 are clean: what a reader that takes them in turn has found where it stops
module _ (check : ℕ → Check) (k : ℕ) (clean : first_of is_clean (Ok tt) check k ≡ Ok tt) where
  pub stops_at : (n : ℕ) → k < n → (found : Check) → check k ≡ found → is_clean found ≡ false →
      (found ≡ first_of is_clean (Ok tt) check n) × (clean_count is_clean (Ok tt) check n ≡ k)
  stops_at n inside found is wrong = (
    sym (first_laws.first_stop is_clean (Ok tt) refl check k clean (ap is_clean is ∙ wrong) n inside ∙ is),
    first_laws.count_stop is_clean (Ok tt) refl check k clean (ap is_clean is ∙ wrong) n inside,
  )

  pub goes_on : check k ≡ Ok tt → first_of is_clean (Ok tt) check (k + 1) ≡ Ok tt
  goes_on e = first_laws.first_on is_clean (Ok tt) refl check k clean e

  pub goes_through : (n : ℕ) → n ≡ k → (Ok tt ≡ first_of is_clean (Ok tt) check n) × (clean_count is_clean (Ok tt) check n ≡ k)
  goes_through n all = rw all (sym clean, first_laws.count_on is_clean (Ok tt) refl check k clean)

pub never_refused : {r : Refusal} → Ok (tt {0}) ≡ Err r → ⊥
never_refused e = clash true refl (ap is_clean e)

-- a check by one test
pub unless_clean : (test : Bool) (r : Refusal) → unless test r ≡ Ok tt → test ≡ true
unfolding unless
unless_clean true r e = refl
unless_clean false r e = absurd (never_refused (sym e))

pub unless_refused : (test : Bool) (r s : Refusal) → unless test r ≡ Err s → (test ≡ false) × (r ≡ s)
unfolding unless
unless_refused true r s e = absurd (never_refused e)
unless_refused false r s e = (refl, cc)

pub unless_pass : (test : Bool) (r : Refusal) → test ≡ true → unless test r ≡ Ok tt
unfolding unless
unless_pass test r p = rw p

pub unless_fails : (test : Bool) (r : Refusal) → test ≡ false → unless test r ≡ Err r
unfolding unless
unless_fails test r p = rw p

-- two checks in a row
pub first_clean : (check later : Check) → or_else check later ≡ Ok tt → (check ≡ Ok tt) × (later ≡ Ok tt)
unfolding or_else
first_clean (Ok _) later e = (refl, e)
first_clean (Err r) later e = absurd (never_refused (sym e))

pub both_clean : (check later : Check) → check ≡ Ok tt → later ≡ Ok tt → or_else check later ≡ Ok tt
unfolding or_else
both_clean check later p q = rw p q

pub first_refused : (check later : Check) {r : Refusal} → or_else check later ≡ Err r →
    (check ≡ Err r) ⊎ ((check ≡ Ok tt) × (later ≡ Err r))
unfolding or_else
first_refused (Ok _) later e = inr (refl, e)
first_refused (Err s) later e = inl e

pub then_refused : (check later : Check) (r : Refusal) → check ≡ Ok tt → later ≡ Err r → or_else check later ≡ Err r
unfolding or_else
then_refused check later r p q = rw p q

pub stop_refused : (check later : Check) (r : Refusal) → check ≡ Err r → or_else check later ≡ Err r
unfolding or_else
stop_refused check later r p = rw p

-- behind the last check there is nothing
pub last_decides : (check : Check) → or_else check (Ok tt) ≡ check
unfolding or_else
last_decides (Ok _) = refl
last_decides (Err r) = refl

-- a rule that its test refutes does not hold, and a rule that does not hold fails its test
pub broken : {Rule : Type 0} {test : Bool} → (Rule → test ≡ true) → test ≡ false → ¬ Rule
broken holds wrong rule = clash _ (holds rule) wrong

pub fails : {Rule : Type 0} (test : Bool) → (test ≡ true → Rule) → ¬ Rule → test ≡ false
fails true means wrong = absurd (wrong (means refl))
fails false means wrong = refl

-- where every field keeps its rule, those of any list do
pub each_of : {F : Type 0} (Right : F → Type 0) → ((field : F) → Right field) → (order : List F) → Each Right order
each_of Right every [] = tt
each_of Right every (field ∷ fields) = (every field, each_of Right every fields)

module _ {F : Type 0} (Right : F → Type 0) (test : F → Bool) (refusal : F → Refusal) (means : (field : F) → test field ≡ true → Right field)
    (holds : (field : F) → Right field → test field ≡ true) where
  pub fields_right : (order : List F) → fields_check test refusal order ≡ Ok tt → Each Right order
  unfolding fields_check first_in
  fields_right [] e = tt
  fields_right (field ∷ fields) e =
      let a = first_clean (field_check test refusal field) _ e in
      (means field (unless_clean _ _ a.0), fields_right fields a.1)

  pub fields_clean : (order : List F) → Each Right order → fields_check test refusal order ≡ Ok tt
  unfolding fields_check first_in
  fields_clean [] each = refl
  fields_clean (field ∷ fields) each =
      both_clean _ _ (unless_pass (test field) _ (holds field each.0)) (fields_clean fields each.1)

  -- a refusal is that of the first broken field
  pub fields_refused : (order : List F) (r : Refusal) → fields_check test refusal order ≡ Err r →
      (field : F) × FirstBroken Right order field × (r ≡ refusal field)
  unfolding fields_check first_in
  fields_refused [] r e = absurd (never_refused e)
  fields_refused (field ∷ fields) r e =
      elim (first_refused (field_check test refusal field) _ e) [
        | inl p ↦
            let u = unless_refused (test field) _ _ p in
            (field, record { before = []; after = fields; stands = refl; kept = tt; broken = broken (holds field) u.0 }, sym u.1)
        | inr p ↦
            let g = fields_refused fields r p.1 in
            let b = g.1 in (
              g.0,
              record {
                before = field ∷ b.before;
                after = b.after;
                stands = ap (λ (rest : List F). field ∷ rest) b.stands;
                kept = (means field (unless_clean _ _ p.0), b.kept);
                broken = b.broken;
              },
              g.2,
            )
      ]

  behind : (before after : List F) (field : F) → Each Right before → ¬ Right field →
      fields_check test refusal (before ++ (field ∷ after)) ≡ Err (refusal field)
  unfolding fields_check first_in
  behind [] after field kept wrong =
      stop_refused _ _ (refusal field) (unless_fails (test field) _ (fails (test field) (means field) wrong))
  behind (first ∷ before) after field kept wrong =
      then_refused _ _ (refusal field) (unless_pass (test first) _ (holds first kept.0)) (behind before after field kept.1 wrong)

  -- the first broken field is refused
  pub broken_refused : (order : List F) (field : F) → FirstBroken Right order field → fields_check test refusal order ≡ Err (refusal field)
  broken_refused order field b =
      subst (λ (o : List F). fields_check test refusal o ≡ Err (refusal field)) (sym b.stands)
      (behind b.before b.after field b.kept b.broken)

-- the same by the tests alone: those before the first that fails pass
module _ {F : Type 0} (test : F → Bool) (refusal : F → Refusal) where
  abbrev pub Passes : F → Type 0
  Passes field = test field ≡ true

  pub tests_fail : (before after : List F) (field : F) → Each Passes before → test field ≡ false →
      fields_check test refusal (before ++ (field ∷ after)) ≡ Err (refusal field)
  tests_fail before after field kept wrong =
      behind Passes test refusal (λ f p. p) (λ f p. p) before after field kept (λ p. clash (test field) p wrong)

  pub tests_pass : (order : List F) → Each Passes order → fields_check test refusal order ≡ Ok tt
  tests_pass order kept = fields_clean Passes test refusal (λ f p. p) (λ f p. p) order kept

  pub tests_passed : (order : List F) → fields_check test refusal order ≡ Ok tt → Each Passes order
  tests_passed order e = fields_right Passes test refusal (λ f p. p) (λ f p. p) order e

-- the exit of a `?` returns what the check found
pub handed_on : {result check : Check} {r : Refusal} → IsErrAnd result (λ (s : Refusal). s ≡ r) → check ≡ Err r → result ≡ check
handed_on {result} given found = let p = err_from_is_err_and result given in p.1 ∙ (ap Err p.2 ∙ sym found)
