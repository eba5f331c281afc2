-- `reading::rows::check` meets its contract: at each return the tests that led there say which field is the first that is wrong.
-- Assumes nothing.
use borrow.Author.Tests.{le-ltb, lt-ltb}
use mathlib.Core.Path.{sym, ◌∙◌, ap}
use mathlib.Core.List.{[], ◌∷◌}
use lib.Dec.{ltb}
use Rattle.tables.specs.Fields.{place_field, semaphore_field, longest_field, order_field, row_order}
use Rattle.tables.specs.Rules.{between, row_test}
use Rattle.tables.proofs.FieldLaws.{tests_fail, tests_pass}
use Rattle.reading.proofs.rows.check.Goals as goal

pub returns-then-n-place : goal.returns-then-n-place
unfolding row_test
returns-then-n-place c = sym
    (tests_fail _ _ [] _ place_field
    tt
    (le-ltb _ _ c.if-n-place.true))

pub returns-then-not-within : goal.returns-then-not-within
unfolding row_test
returns-then-not-within c = sym
    (tests_fail _ _ (place_field ∷ []) _ semaphore_field
    (lt-ltb _ _ c.if-n-place.false, tt)
    (ap (between 1 16) (sym c.from.ensures) ∙ (sym c.within.ensures ∙ c.if-not-within.true)))

pub returns-then-not-within-2 : goal.returns-then-not-within-2
unfolding row_test
returns-then-not-within-2 c = sym
    (tests_fail _ _ (place_field ∷ semaphore_field ∷ []) _ longest_field
    (lt-ltb _ _ c.if-n-place.false, (ap (between 1 16) (sym c.from.ensures) ∙ (sym c.within.ensures ∙ c.if-not-within.false), tt))
    ((sym c.within-2.ensures ∙ c.if-not-within-2.true)))

pub returns-then-key-before : goal.returns-then-key-before
unfolding row_test
returns-then-key-before c = sym
    (tests_fail _ _ (place_field ∷ semaphore_field ∷ longest_field ∷ []) _ order_field
    (lt-ltb _ _ c.if-n-place.false, (ap (between 1 16) (sym c.from.ensures) ∙ (sym c.within.ensures ∙ c.if-not-within.false), ((sym c.within-2.ensures ∙ c.if-not-within-2.false), tt)))
    (ap (ltb c.args.before) (sym c.key.ensures) ∙ le-ltb _ _ c.if-key-before.true))

pub returns : goal.returns
unfolding row_test
returns c = sym
    (tests_pass _ _ row_order
    (lt-ltb _ _ c.if-n-place.false, (ap (between 1 16) (sym c.from.ensures) ∙ (sym c.within.ensures ∙ c.if-not-within.false), ((sym c.within-2.ensures ∙ c.if-not-within-2.false), (ap (ltb c.args.before) (sym c.key.ensures) ∙ lt-ltb _ _ c.if-key-before.false, tt)))))
