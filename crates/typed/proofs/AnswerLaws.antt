-- What the code answers is what the text is read as, and it is not too long.
-- Assumes nothing.
use Prim.Native.Nat.{ℕ, ◌+◌, ◌*◌, ◌^◌, ◌%◌, ◌≤◌, ◌<◌}
use native.Mathlib.Omega.{arith}
use mathlib.Core.Path.{◌≡◌, refl, sym, ◌∙◌, ap}
use mathlib.Core.Bool.{true}
use mathlib.Core.Logic.{inl, inr}
use mathlib.Core.List.{List, [], ◌∷◌, ◌++◌}
use lib.ListN.{length, length-append}
use Rattle.model.specs.Lists.{tabulate}
use Rattle.model.specs.Tables.{Task, Row, no_task, task_of}
use Rattle.model.proofs.Lists.{tabulate_same, get_d_tabulate, length_tabulate}
use Rattle.model.proofs.Tests.{bool?, clash}
use Rattle.tables.specs.declared.layout.DelayFields.{DelayFields}
use Rattle.tables.specs.declared.layout.DelayFields.TheVariants.{Jitter, Pair}
use Rattle.tables.specs.Layout.{layout_for}
use Rattle.encoding.specs.Bytes.{record_bytes, row_bytes, joined, encode}
use Rattle.encoding.specs.Statements.{no_row, row_of}
use Rattle.printing.specs.Text.{bytes_of, with_number}
use Rattle.printing.proofs.AppendLaws.{no_second_text}
use Rattle.printing.proofs.LengthLaws.{few_digits, number_long}
use Rattle.words.specs.Words.{events_of}
use Rattle.typing.specs.declared.lines.Counts.{Counts}
use Rattle.typing.specs.declared.lines.Fault.{Fault}
use Rattle.typing.specs.declared.lines.Fault.TheVariants.{UnknownWord, TooFew, TooMany, NotWhole, TooLarge, TaskBehind, VersionBehind, NoDelays, ManyTasks, ManySections}
use Rattle.typing.specs.declared.lines.Line.{Line}
use Rattle.typing.specs.declared.lines.Line.TheVariants.{Blank, Filling, Wrong}
use Rattle.typing.specs.Reading.{Typed, Draft, version_for, outcome_at, reading_of, table_typed, bytes_typed}
use Rattle.typing.specs.Kept.{number_at, task_kept, row_kept, Holds, TypedFits, kept_behind, draft_behind}
use Rattle.typing.proofs.KeptLaws.{typed_kept}
use Rattle.typing.proofs.MemoryLaws.{sized_after}
use Rattle.typed.specs.Bytes.{low_task_at, low_row_at, low_task, low_row, version_kept, Roomy, table_kept, bytes_kept}
use Rattle.typed.specs.Messages.{message_of, fault_line}
use Rattle.std.specs.Prelude.{Result, Ok, Err}
use Rattle.typed.specs.declared.Faulty.{Faulty}
use Rattle.typed.specs.Answered.{text_for, is_faulty, kept_text, is_wrong, end_in, says_faulty, NoSecondAnswer, TextAnswered, AnswerFits}

-- what fits into a byte is its own lowest byte
low_is : {x y : ℕ} → x ≡ y → y ≤ 255 → x % 256 ≡ y
low_is e h = omega (arith, e, h)

module _ (typed : Typed) (counts : Counts) (numbers places : List ℕ) (h : Holds typed counts numbers places) (f : TypedFits counts typed) where
  kept_task : (i : ℕ) → i < counts.tasks → task_kept numbers i ≡ task_of typed.tasks i
  kept_task i l =
      sym (get_d_tabulate (task_kept numbers) counts.tasks i no_task l) ∙ ap (λ (tasks : List Task). task_of tasks i) h.tasks

  kept_row : (k : ℕ) → k < counts.sections → row_kept numbers k ≡ row_of typed.rows k
  kept_row k l =
      sym (get_d_tabulate (row_kept numbers) counts.sections k no_row l) ∙ ap (λ (rows : List Row). row_of rows k) h.rows

  low_task_law : (i : ℕ) → i < counts.tasks → low_task numbers i ≡ task_kept numbers i
  unfolding task_kept low_task_at
  low_task_law i l =
      let small : (task_kept numbers i).priority ≤ 255 =
      rw (ap (λ (task : Task). task.priority) (kept_task i l)) (f.each_task i (omega (arith, f.task_count))).priority in
      λ j.
      record {
        priority = low_is {x = number_at numbers (193 + 6 * i)} refl small j;
        period = number_at numbers (193 + 6 * i + 1);
        cost = number_at numbers (193 + 6 * i + 2);
        deadline = number_at numbers (193 + 6 * i + 3);
        earliest = number_at numbers (193 + 6 * i + 4);
        latest = number_at numbers (193 + 6 * i + 5);
      }

  low_row_law : (k : ℕ) → k < counts.sections → low_row numbers k ≡ row_kept numbers k
  unfolding row_kept low_row_at
  low_row_law k l =
      let place : (row_kept numbers k).place ≤ 255 =
      rw (ap (λ (row : Row). row.place) (kept_row k l)) (f.each_row k (omega (arith, f.row_count))).place in
      let semaphore : (row_kept numbers k).semaphore ≤ 255 =
      rw (ap (λ (row : Row). row.semaphore) (kept_row k l)) (f.each_row k (omega (arith, f.row_count))).semaphore in
      λ j.
      record {
        place = low_is {x = number_at numbers (1 + 3 * k)} refl place j;
        semaphore = low_is {x = number_at numbers (1 + 3 * k + 1)} refl semaphore j;
        longest = number_at numbers (1 + 3 * k + 2);
      }

  table_is : table_kept counts numbers ≡ table_typed typed
  table_is = λ j.
      record {
        tasks = (tabulate_same (low_task numbers) (task_kept numbers) counts.tasks low_task_law ∙ h.tasks) j;
        rows = (tabulate_same (low_row numbers) (row_kept numbers) counts.sections low_row_law ∙ h.rows) j;
      }

  pub version_is : version_kept counts (number_at numbers 0) ≡ version_for counts typed.version
  unfolding version_kept version_for
  version_is =
      elim (bool? counts.stated) [
        | inl p ↦ rw p (low_is (h.version p) f.version)
        | inr p ↦ rw p
      ]

  bytes_typed_law : bytes_kept counts numbers ≡ bytes_typed (version_for counts typed.version) typed
  unfolding bytes_kept
  bytes_typed_law = ap (λ (version : ℕ). encode version (table_kept counts numbers)) version_is ∙ ap (encode (version_for counts typed.version)) table_is

-- by the line that is read
text_is_law : (line : Line) (draft : Draft) (numbers places : List ℕ) → Holds draft.typed draft.state.counts numbers places →
    TypedFits draft.state.counts draft.typed → kept_text line draft.state numbers ≡ text_for (outcome_at line draft)
text_is_law Blank draft numbers places h f = bytes_typed_law draft.typed draft.state.counts numbers places h f
text_is_law (Filling kind count) draft numbers places h f = bytes_typed_law draft.typed draft.state.counts numbers places h f
text_is_law (Wrong fault) draft numbers places h f = refl

fault_is_law : (line : Line) (draft : Draft) → is_wrong line ≡ is_faulty (outcome_at line draft)
fault_is_law Blank draft = refl
fault_is_law (Filling kind count) draft = refl
fault_is_law (Wrong fault) draft = refl

pub text_answered : TextAnswered
unfolding reading_of
text_answered =
    record {
      text_is = λ numbers places text r.
          rw (typed_kept.same numbers places (events_of text) r)
          (text_is_law (draft_behind (events_of text)).state.line (draft_behind (events_of text)) (kept_behind numbers places (events_of text)).numbers
          (kept_behind numbers places (events_of text)).places (typed_kept.holds numbers places (events_of text) r) (typed_kept.fits (events_of text)));
      fault_is = λ numbers places text r.
          rw (typed_kept.same numbers places (events_of text) r)
          (fault_is_law (draft_behind (events_of text)).state.line (draft_behind (events_of text)));
      roomy = λ numbers places text r.
          rw (typed_kept.same numbers places (events_of text) r)
          (record { tasks = (typed_kept.fits (events_of text)).tasks; sections = (typed_kept.fits (events_of text)).rows });
      long = λ numbers places text r.
          (sized_after _ (events_of text) (record { fields = refl; numbers = r.numbers_long; places = r.places_long })).numbers;
    }

-- lengths
record_long : (delays : DelayFields) (task : Task) → length (record_bytes delays task) ≤ 21
record_long Jitter task = omega arith
record_long Pair task = omega arith

joined_long : {A : Type 0} (bytes : A → List ℕ) (most : ℕ) → ((x : A) → length (bytes x) ≤ most) → (xs : List A) → length (joined bytes xs) ≤ most * length xs
unfolding joined
joined_long bytes most each [] = omega arith
joined_long bytes most each (x ∷ xs) =
    omega (arith, length-append (bytes x) (joined bytes xs), each x, joined_long bytes most each xs)

bytes_long : (counts : Counts) (numbers : List ℕ) → Roomy counts → length (bytes_kept counts numbers) ≤ 4589
unfolding bytes_kept
bytes_long counts numbers r =
    let version = version_kept counts (number_at numbers 0) in
    let tasks = tabulate (low_task numbers) counts.tasks in
    let rows = tabulate (low_row numbers) counts.sections in
    let delays = (layout_for version).delays in
    omega (
      arith,
      length-append (joined (record_bytes delays) tasks) (joined row_bytes rows),
      joined_long (record_bytes delays) 21 (record_long delays) tasks,
      joined_long row_bytes 6 (λ row. omega arith) rows,
      length_tabulate (low_task numbers) counts.tasks,
      length_tabulate (low_row numbers) counts.sections,
      r.tasks,
      r.sections,
    )

message_long : (fault : Fault) → length (message_of fault) ≤ 200
message_long UnknownWord = omega arith
message_long TooFew = omega arith
message_long TooMany = omega arith
message_long NotWhole = omega arith
message_long TooLarge = omega arith
message_long TaskBehind = omega arith
message_long VersionBehind = omega arith
message_long NoDelays = omega arith
message_long ManyTasks = omega arith
message_long ManySections = omega arith

fault_long : (number : ℕ) (fault : Fault) → number < 18446744073709551616 → length (fault_line number fault) ≤ 4589
fault_long number fault small =
    let value : 10 ^ 20 ≡ 100000000000000000000 = refl in
    omega (
      arith,
      length-append ((with_number (bytes_of "line ") number ++ bytes_of ": ") ++ message_of fault) (bytes_of "\n"),
      length-append (with_number (bytes_of "line ") number ++ bytes_of ": ") (message_of fault),
      length-append (with_number (bytes_of "line ") number) (bytes_of ": "),
      number_long (bytes_of "line ") number,
      few_digits number 20 (omega arith) (omega (arith, value)),
      message_long fault,
    )

pub answer_fits : AnswerFits
answer_fits Blank state numbers r small = bytes_long state.counts numbers r
answer_fits (Filling kind count) state numbers r small = bytes_long state.counts numbers r
answer_fits (Wrong fault) state numbers r small = fault_long state.number fault small

-- an answer is told by which of both it is and where it ends
told : (answer other : Result ℕ Faulty) → says_faulty answer ≡ says_faulty other → end_in answer ≡ end_in other → answer ≡ other
told (Ok end) (Ok last) p q = ap Ok q
told (Ok end) (Err last) p q = absurd (clash true refl (sym p))
told (Err end) (Ok last) p q = absurd (clash true refl p)
told (Err end) (Err last) p q = ap (λ (n : ℕ). Err (record { 0 = n })) q

pub no_second_answer : NoSecondAnswer
no_second_answer state numbers old answer other new another a b =
    let same = no_second_text old 0 (kept_text state.line state numbers) (end_in answer) (end_in other) new another a.text_is b.text_is in
    (told answer other (a.fault_is ∙ sym b.fault_is) same.0, same.1)
