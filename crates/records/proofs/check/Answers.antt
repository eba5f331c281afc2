-- `records::check` meets its contract: at each return the tests that led there say which field is the first that is wrong.
-- Assumes nothing.
use mathlib.Core.Path.{sym, ◌∙◌, ap}
use mathlib.Core.List.{[], ◌∷◌}
use Prim.Native.Nat.{ℕ}
use Rattle.tables.specs.Fields.{period_field, cost_field, deadline_field, earliest_field, latest_field, priority_field, record_order}
use Rattle.tables.specs.Rules.{between, record_test}
use Rattle.tables.proofs.FieldLaws.{tests_fail, tests_pass}
use Rattle.records.proofs.RecordLaws.{between_same, earliest_right, delay_refused}
use Rattle.records.proofs.check.Goals as goal

pub returns-then-not-within : goal.returns-then-not-within
unfolding record_test
returns-then-not-within c = sym (tests_fail _ _ [] _ period_field tt ((sym c.within.ensures ∙ c.if-not-within.true)))

pub returns-then-not-within-2 : goal.returns-then-not-within-2
unfolding record_test
returns-then-not-within-2 c = sym (tests_fail _ _ (period_field ∷ []) _ cost_field ((sym c.within.ensures ∙ c.if-not-within.false), tt) ((sym c.within-2.ensures ∙ c.if-not-within-2.true)))

pub returns-then-not-within-3 : goal.returns-then-not-within-3
unfolding record_test
returns-then-not-within-3 c = sym
    (tests_fail _ _ (period_field ∷ cost_field ∷ []) _ deadline_field ((sym c.within.ensures ∙ c.if-not-within.false), ((sym c.within-2.ensures ∙ c.if-not-within-2.false), tt))
    (ap (λ (k : ℕ). between 1 k c.args.task.deadline.0) (sym c.longest_deadline.ensures) ∙ (sym c.within-3.ensures ∙ c.if-not-within-3.true)))

pub returns-then-not-within-4 : goal.returns-then-not-within-4
returns-then-not-within-4 c = delay_refused _ _ c.args.layout _ _ ((sym c.within.ensures ∙ c.if-not-within.false)) ((sym c.within-2.ensures ∙ c.if-not-within-2.false))
    (ap (λ (k : ℕ). between 1 k c.args.task.deadline.0) (sym c.longest_deadline.ensures) ∙ (sym c.within-3.ensures ∙ c.if-not-within-3.false))
    ((sym c.within-4.ensures ∙ c.if-not-within-4.true)) _ c.delay_at-delay.ensures.0

pub returns-then-not-within-5 : goal.returns-then-not-within-5
unfolding record_test
returns-then-not-within-5 c = sym
    (tests_fail _ _ (period_field ∷ cost_field ∷ deadline_field ∷ earliest_field ∷ latest_field ∷ []) _ priority_field
    ((sym c.within.ensures ∙ c.if-not-within.false), ((sym c.within-2.ensures ∙ c.if-not-within-2.false), (ap (λ (k : ℕ). between 1 k c.args.task.deadline.0) (sym c.longest_deadline.ensures) ∙ (sym c.within-3.ensures ∙ c.if-not-within-3.false), (earliest_right c.args.task.earliest.0 c.args.task.latest.0 ((sym c.within-4.ensures ∙ c.if-not-within-4.false)), ((sym c.within-4.ensures ∙ c.if-not-within-4.false), tt)))))
    (between_same (sym c.from.ensures) (sym c.from-2.ensures) ∙ (sym c.within-5.ensures ∙ c.if-not-within-5.true)))

pub returns : goal.returns
unfolding record_test
returns c = sym
    (tests_pass _ _ record_order
    ((sym c.within.ensures ∙ c.if-not-within.false), ((sym c.within-2.ensures ∙ c.if-not-within-2.false), (ap (λ (k : ℕ). between 1 k c.args.task.deadline.0) (sym c.longest_deadline.ensures) ∙ (sym c.within-3.ensures ∙ c.if-not-within-3.false), (earliest_right c.args.task.earliest.0 c.args.task.latest.0 ((sym c.within-4.ensures ∙ c.if-not-within-4.false)), ((sym c.within-4.ensures ∙ c.if-not-within-4.false), (between_same (sym c.from.ensures) (sym c.from-2.ensures) ∙ (sym c.within-5.ensures ∙ c.if-not-within-5.false), tt)))))))
