-- Records or rows one after another, each with the same fields: the first field at fault in the first one at fault is the one refused.
-- Assumes nothing.
use Rattle.std.specs.Prelude.{Ok, Err}
use Prim.Native.Nat.{ℕ, ◌<◌}
use mathlib.Core.Path.{◌≡◌, refl, sym, ◌∙◌, ap}
use mathlib.Core.Bool.{Bool, true}
use mathlib.Core.List.{List}
use Rattle.model.specs.Search.{first_of}
use Rattle.model.proofs.First as first_laws
use Rattle.tables.specs.declared.Refusal.{Refusal}
use Rattle.tables.specs.Refusals.{Check, is_clean, fields_check}
use Rattle.tables.specs.Deserved.{Each, Fault}
use Rattle.tables.proofs.FieldLaws.{clean_only, each_of, fields_right, fields_clean, fields_refused, broken_refused}

module _ {F : Type 0} (Right : ℕ → F → Type 0) (test : ℕ → F → Bool) (refusal_of : ℕ → F → Refusal) (order : List F)
    (means : (i : ℕ) (field : F) → test i field ≡ true → Right i field) (holds : (i : ℕ) (field : F) → Right i field → test i field ≡ true)
    (every : (i : ℕ) → Each (Right i) order → (field : F) → Right i field) where
  abbrev check_at : ℕ → Check
  check_at i = fields_check (test i) (refusal_of i) order

  one_right : (i : ℕ) → check_at i ≡ Ok tt → (field : F) → Right i field
  one_right i e = every i (fields_right (Right i) (test i) (refusal_of i) (means i) (holds i) order e)

  one_clean : (i : ℕ) → ((field : F) → Right i field) → check_at i ≡ Ok tt
  one_clean i right = fields_clean (Right i) (test i) (refusal_of i) (means i) (holds i) order (each_of (Right i) right order)

  -- clean where every field of each keeps its rule, and only there
  pub all_right : (n : ℕ) → first_of is_clean (Ok tt) check_at n ≡ Ok tt → (i : ℕ) → i < n → (field : F) → Right i field
  all_right n e i h = one_right i (first_laws.all_clean is_clean (Ok tt) refl check_at clean_only n e i h)

  pub all_clean : (n : ℕ) → ((i : ℕ) → i < n → (field : F) → Right i field) → first_of is_clean (Ok tt) check_at n ≡ Ok tt
  all_clean n right = first_laws.none_found is_clean (Ok tt) refl check_at clean_only n (λ i h. one_clean i (right i h))

  -- a refusal is that of the first fault
  pub fault_found : (n : ℕ) (r : Refusal) → first_of is_clean (Ok tt) check_at n ≡ Err r → Fault Right order refusal_of n r
  fault_found n r e =
      let g = first_laws.first_found is_clean (Ok tt) refl check_at clean_only n (ap is_clean e) in
      let i = g.0 in
      let f = fields_refused (Right i) (test i) (refusal_of i) (means i) (holds i) order r (sym g.2 ∙ e) in
      record { i = i; field = f.0; inside = g.1; earlier = λ j h. one_right j (g.3 j h); first = f.1; given = f.2 }

  -- the first fault is refused
  pub fault_refused : (n : ℕ) (r : Refusal) → Fault Right order refusal_of n r → first_of is_clean (Ok tt) check_at n ≡ Err r
  fault_refused n r f =
      let i = f.i in
      let e = broken_refused (Right i) (test i) (refusal_of i) (means i) (holds i) order f.field f.first in
      first_laws.first_stop is_clean (Ok tt) refl check_at i (all_clean i f.earlier) (ap is_clean e) n f.inside
      ∙ e
      ∙ ap Err (sym f.given)
