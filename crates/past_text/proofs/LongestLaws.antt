-- The second analysis's longest text: what it leaves is small enough for the lines, and the line that says what was found is short.
-- Assumes nothing.
use Prim.Native.Nat.{ℕ, ◌≤◌, ◌<◌}
use native.Mathlib.Omega.{arith}
use mathlib.Core.Path.{◌≡◌, refl, ap}
use mathlib.Core.Logic.{inl, inr}
use mathlib.Core.List.{List, ◌++◌}
use lib.ListN.{length, get_or}
use Rattle.model.specs.Lists.{word_of}
use Rattle.model.specs.Tables.{Task, open_word, task_of}
use Rattle.tables.specs.Layout.{task_count, tasks_of, table_of}
use Rattle.tables.proofs.LayoutLaws.{task_is}
use Rattle.printing.specs.Text.{bytes_of, line_with_number, tasks_text}
use Rattle.printing.specs.Answered.{zeros}
use Rattle.printing.proofs.LengthLaws.{few_digits, place_line_long, refusal_long, Small}
use Rattle.printing.proofs.LongestLaws.{refused_long, deadline_small, text_long, whole}
use Rattle.overlaps.specs.declared.Found.{Found}
use Rattle.overlaps.specs.declared.Found.TheVariants.{Refused, Delayed, Schedulable, Late, Open}
use Rattle.jobs.specs.Overlaps.{studied_of}
use Rattle.overlaps.specs.Outcome.{Call, Left, lending, leaving, found_of, answers_after, tried_words_after}
use Rattle.overlaps.specs.Numbers.{found_place}
use Rattle.overlaps.specs.Statements.{LongestRight, Written, FoundRight}
use Rattle.overlaps.proofs.EndLaws.{answer_within, past_ends}
use Rattle.overlaps.proofs.Past.{cost_low_law, past_analysed, found_place_law}
use Rattle.past_text.specs.Text.{past_text_of}
use Rattle.past_text.specs.Answered.{past_text}
use Rattle.past_text.specs.Longest.{longest_past, PastTextFits, PastTextWhole}

-- what is left for a task is open or at most its deadline, and at most 64 q are tried
module _ (lent : Call) (result : Left) (written : Written lent result) where
  abbrev bytes : List ℕ
  bytes = lent.bytes

  module _ (i : ℕ) (h : i < task_count bytes) where
    due_small : (task_of (tasks_of bytes) i).deadline ≤ 1000000
    due_small = omega (arith, ap (λ (t : Task). t.deadline) (task_is bytes i h), deadline_small 4 bytes written.readable.right i h)

    answer_small_law : (answer count : ℕ) → LongestRight (studied_of (table_of bytes) i) answer count → (answer ≡ open_word → ⊥) → answer ≤ 1000000
    answer_small_law answer count (inl ends) not_open =
        omega (
          arith,
          due_small,
          answer_within (studied_of (table_of bytes) i) (cost_low_law bytes written.readable.right i h) answer count ends,
        )
    answer_small_law answer count (inr is) not_open = absurd (not_open is.word)

    small : Small 2 (get_or result.answers i 0) (get_or result.tried i 0)
    small =
        let answer = word_of result.answers i in
        let count = word_of result.tried i in
        let right = written.words_right i h in
        record {
          answer_small = answer_small_law answer count right;
          count_small = few_digits count 2 (omega arith) (omega (arith, (past_ends.tried (studied_of (table_of bytes) i) answer count right).1));
        }

  judged_long : (last : List ℕ) → length last ≤ 12 →
      length (tasks_text (bytes_of " tried ") bytes result.answers result.tried ++ last) ≤ longest_past
  judged_long last short =
      omega (arith, text_long 4 bytes written.readable.right (bytes_of " tried ") result.answers result.tried last 2 small short)

pub past_text_fits : PastTextFits
past_text_fits lent result o = go result.found (past_analysed.right lent result o) (found_place_law lent result o)
  where
    go : (f : Found) → FoundRight lent result f → found_place f < 65536 → length (past_text_of lent.bytes f result.answers result.tried) ≤ longest_past
    go (Refused refusal) right place = omega (arith, refused_long refusal place)
    go Delayed right place = omega (arith, refusal_long 11 0 2 (few_digits 11 2 (omega arith) (omega arith)) place)
    go Schedulable written place = judged_long lent result written (bytes_of "schedulable\n") (omega arith)
    go (Late first) written place =
        judged_long lent result written (line_with_number (bytes_of "late ") first.0) (omega (arith, place_line_long (bytes_of "late ") first.0 place))
    go (Open first) written place =
        judged_long lent result written (line_with_number (bytes_of "open ") first.0) (omega (arith, place_line_long (bytes_of "open ") first.0 place))

past_text_long : (bytes : List ℕ) → length (past_text bytes) ≤ longest_past
unfolding past_text
past_text_long bytes =
    past_text_fits (lending bytes zeros zeros)
    (leaving (found_of bytes 200 200) (answers_after bytes zeros zeros) (tried_words_after bytes zeros zeros))
    (record { found_is = refl; answers_are = refl; tried_are = refl })

pub past_text_whole : PastTextWhole
past_text_whole bytes old end new room a = whole old (past_text bytes) end new (omega (arith, past_text_long bytes)) a
