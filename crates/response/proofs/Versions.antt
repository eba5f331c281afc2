-- Version 3 beside versions 1 and 2.
-- Assumes nothing.
use Prim.Native.Nat.{ℕ, ◌+◌, ◌*◌, ◌≤◌}
use native.Mathlib.Omega.{arith}
use mathlib.Core.Path.{◌≡◌, refl, sym, ◌∙◌, ap, subst}
use mathlib.Core.Logic.{◌⊎◌, inl, inr}
use mathlib.Core.List.{List, [], ◌∷◌}
use lib.ListN.{length}
use Rattle.model.specs.Lists.{filled}
use Rattle.tables.specs.declared.layout.Layout.{Layout}
use Rattle.tables.specs.Fields.{task_count_field, row_count_field}
use Rattle.tables.specs.Layout.{version_one, version_two, version_three, version_of, layout_for, layout_of, length_for, task_count, row_count, table_of}
use Rattle.tables.specs.Meaning.{Within, TableRight}
use Rattle.tables.proofs.VersionLaws.{table_same, check_same, in_three}
use Rattle.encoding.specs.Statements.{HasShape}
use Rattle.encoding.proofs.Shapes.{all_shapes}
use Rattle.equation.specs.declared.Start.{Start}
use Rattle.answering.specs.Results.{result_of}
use Rattle.response.specs.Analysis.{answer_of, rounds_of}
use Rattle.response.specs.Outcome.{verdict_for, words_after, verdict_of, answers_after, rounds_after}
use Rattle.response.specs.Versions.{as_three, VersionThreeSame, VersionLimits}

reads : (bytes : List ℕ) → version_of bytes ≡ 2 → table_of (as_three bytes) ≡ table_of bytes
reads [] version = absurd (omega (arith, version))
reads (v ∷ rest) version = sym (table_same rest) ∙ ap (λ (w : ℕ). table_of (w ∷ rest)) (sym version)

module _ (rest : List ℕ) (few : task_count (2 ∷ rest) ≤ 32) where
  verdict_same : (answers rounds : ℕ) → verdict_of (2 ∷ rest) answers rounds ≡ verdict_of (3 ∷ rest) answers rounds
  unfolding verdict_of
  verdict_same answers rounds =
      λ j. verdict_for (check_same rest few 1 answers rounds j) (result_of (answer_of (table_same rest j)) (task_count (2 ∷ rest)))

  answers_same : (answers rounds : List ℕ) → answers_after (2 ∷ rest) answers rounds ≡ answers_after (3 ∷ rest) answers rounds
  unfolding answers_after
  answers_same answers rounds =
      λ j.
      words_after (check_same rest few 1 (length answers) (length rounds) j)
      (filled (answer_of (table_same rest j)) (task_count (2 ∷ rest)) answers) answers

  rounds_same : (start : Start) (answers rounds : List ℕ) → rounds_after start (2 ∷ rest) answers rounds ≡ rounds_after start (3 ∷ rest) answers rounds
  unfolding rounds_after
  rounds_same start answers rounds =
      λ j.
      words_after (check_same rest few 1 (length answers) (length rounds) j)
      (filled (rounds_of start (table_same rest j)) (task_count (2 ∷ rest)) rounds) rounds

module _ (bytes : List ℕ) (version : version_of bytes ≡ 2) (few : task_count bytes ≤ 32) where
  same_verdict_law : (answers rounds : ℕ) → verdict_of (as_three bytes) answers rounds ≡ verdict_of bytes answers rounds
  same_verdict_law answers rounds =
      in_three (λ (b : List ℕ). verdict_of b answers rounds) (λ rest h. verdict_same rest h answers rounds) bytes version few

  same_answers_law : (answers rounds : List ℕ) → answers_after (as_three bytes) answers rounds ≡ answers_after bytes answers rounds
  same_answers_law answers rounds =
      in_three (λ (b : List ℕ). answers_after b answers rounds) (λ rest h. answers_same rest h answers rounds) bytes version few

  same_rounds_law : (start : Start) (answers rounds : List ℕ) → rounds_after start (as_three bytes) answers rounds ≡ rounds_after start bytes answers rounds
  same_rounds_law start answers rounds =
      in_three (λ (b : List ℕ). rounds_after start b answers rounds) (λ rest h. rounds_same rest h start answers rounds) bytes version few

pub version_three_same : VersionThreeSame
version_three_same =
    record {
      reads = reads;
      same_verdict = same_verdict_law;
      same_answers = same_answers_law;
      same_rounds = λ start bytes version few. same_rounds_law bytes version few start;
      same_outcome = λ start lent result version few o.
          record {
            verdict_is = o.verdict_is ∙ sym (same_verdict_law lent.bytes version few (length lent.answers) (length lent.rounds));
            answers_are = o.answers_are ∙ sym (same_answers_law lent.bytes version few lent.answers lent.rounds);
            rounds_are = o.rounds_are ∙ sym (same_rounds_law lent.bytes version few start lent.answers lent.rounds);
          };
      and_back = λ start lent result version few o.
          record {
            verdict_is = o.verdict_is ∙ same_verdict_law lent.bytes version few (length lent.answers) (length lent.rounds);
            answers_are = o.answers_are ∙ same_answers_law lent.bytes version few lent.answers lent.rounds;
            rounds_are = o.rounds_are ∙ same_rounds_law lent.bytes version few start lent.answers lent.rounds;
          };
    }

module _ (bytes : List ℕ) (right : TableRight bytes) where
  -- what the layout of the version says of the number of tasks
  tasks_within : (layout : Layout) → layout_of bytes ≡ layout → task_count bytes ≤ layout.most
  tasks_within layout is = (subst (λ (l : Layout). Within 1 l.most (task_count bytes)) is (right.head.counts task_count_field)).high

  kept : (version_of bytes ≡ 1) ⊎ (version_of bytes ≡ 2) → task_count bytes ≤ 32
  unfolding layout_for
  kept (inl one) = tasks_within version_one (ap layout_for one)
  kept (inr two) = tasks_within version_two (ap layout_for two)

  module _ (three : version_of bytes ≡ 3) where
    layout_is : layout_of bytes ≡ version_three
    unfolding layout_for
    layout_is = ap layout_for three

    long : length bytes ≡ 5 + 21 * task_count bytes + 6 * row_count bytes
    long = sym right.head.lengths.summed ∙ ap (λ (l : Layout). length_for l (task_count bytes) (row_count bytes)) layout_is

    raised : (task_count bytes ≤ 200) × (length bytes ≤ 4589)
    raised =
        let few = tasks_within version_three layout_is in
        (few, omega (arith, long, few, (right.head.counts row_count_field).high))

reached : (bytes : List ℕ) × HasShape 3 200 64 bytes × (length bytes ≡ 4589)
unfolding layout_for
reached =
    let made =
    all_shapes.exist 3 200 64 (inr (inr refl)) (record { low = omega arith; high = omega arith }) (record { low = omega arith; high = omega arith })
    (omega arith) in
    let shape = made.1 in
    (made.0, shape, omega (arith, long made.0 shape.accepted shape.in_version, shape.tasks, shape.rows))

pub version_limits : VersionLimits
version_limits = record { kept = λ bytes version right. kept bytes right version; raised = λ bytes three right. raised bytes right three; reached = reached }
