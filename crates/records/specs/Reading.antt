-- How a record in the code is a task, what is found in it, and what the readers are told of the head.
--
-- What is found in a record has two forms. The one to believe stands in crates/tables/specs: the rules of each field (Meaning.antt) and the
-- refusal that a broken one deserves (Deserved.antt), by the bytes of the whole table; Checks.antt has the same as tests, `record_check`. The
-- form here, `record_fault`, is what the code has at hand while it reads: the record's own numbers, and in place of the record before one
-- number, the highest priority that it may have. It exists for the contract of `records::check` alone. That both are the same is proved in
-- proofs/RecordLaws.antt, and the contracts of `records::read_all` and `reading::read` speak of the first only.
-- Assumes nothing.
use Rattle.std.specs.Prelude.{ℕ, ◌≡◌, List, ltb, Ok}
use Rattle.model.specs.Choice.{pick}
use Rattle.model.specs.Tables.{Task}
use Rattle.tables.specs.declared.layout.Layout.{Layout}
use Rattle.tables.specs.declared.layout.DelayFields.{DelayFields}
use Rattle.tables.specs.declared.layout.DelayFields.TheVariants.{Jitter, Pair}
use Rattle.records.specs.declared.TaskRecord.{TaskRecord}
use Rattle.tables.specs.Fields.{record_order, record_refusal}
use Rattle.tables.specs.Refusals.{Check, fields_check}
use Rattle.tables.specs.Rules.{between, record_test}
use Rattle.tables.specs.Checks.{head_check}
use Rattle.tables.specs.Layout.{layout_of, task_count, earliest_at, latest_at}

-- the head is right, and its layout and its number of tasks are known
pub record HeadRead (bytes : List ℕ) (layout : Layout) (n : ℕ) : Type 0 where
  pub head : head_check bytes ≡ Ok tt
  pub decided : layout ≡ layout_of bytes
  pub counted : n ≡ task_count bytes

abbrev pub task_from : TaskRecord → Task
task_from r =
    record {
      priority = r.priority.0;
      period = r.period.0;
      cost = r.cost.0;
      deadline = r.deadline.0;
      earliest = r.earliest.0;
      latest = r.latest.0;
    }

-- the earliest delay, of the first of the delays' words
abbrev pub earliest_of : DelayFields → ℕ → ℕ
earliest_of Jitter first = 0
earliest_of Pair first = first

-- where the delay begins that is at fault, in its record: the earliest, if that is out of range
abbrev pub delay_at : DelayFields → ℕ → ℕ
delay_at fields earliest = pick (ltb 1000000 earliest) earliest_at (latest_at fields)

-- where a record stands and what it is held to: its layout, its first byte, the periods that its deadline may span, and the highest
-- priority that it may have
pub record AtRecord : Type 0 where
  pub layout : Layout
  pub start : ℕ
  pub span : ℕ
  pub highest : ℕ

abbrev pub at_record : (layout : Layout) (start span highest : ℕ) → AtRecord
at_record layout start span highest = record { layout = layout; start = start; span = span; highest = highest }

-- what is found in a record there
abbrev pub record_fault : AtRecord → Task → Check
record_fault there task =
    fields_check (record_test there.span task (between 1 there.highest task.priority)) (record_refusal there.layout there.start) record_order
