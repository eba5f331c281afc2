-- A report told of its file piece by piece, cut anywhere: what is kept between two pieces, and that the text is the whole file's
-- (SPECIFICATION 13.12; document 02, L10, "Store no whole file."). The proofs are in proofs/SafeLaws.antt, CallsLaws.antt,
-- PiecesLaws.antt and CutLaws.antt.
-- Assumes nothing.
use Rattle.std.specs.Prelude.{ℕ, ◌+◌, ◌*◌, ◌≤◌, ◌<◌, ◌≡◌, Bool, true, ltb, length, take}
use mathlib.Core.List.{List, [], ◌∷◌, ◌++◌, flatten, map}
use Rattle.model.specs.Choice.{pick}
use Rattle.tables.specs.Layout.{stated_length}
use Rattle.tables.specs.declared.Refusal.{Refusal}
use Rattle.answering.specs.declared.Verdict.{Verdict}
use Rattle.answering.specs.declared.Verdict.TheVariants.{Refused}
use Rattle.printing.specs.Appended.{Appended, bytes_after}
use Rattle.printing.specs.declared.page.Page.{Page}
use Rattle.report_lines.specs.Line.{judged_as}
use Rattle.reporting.specs.declared.Report.{Report}
use Rattle.reporting.specs.declared.Told.{Told}
use Rattle.reporting.specs.Cutting.{tables_in, left_in, Stated}
use Rattle.reporting.specs.Report.{lines_from, schedulable_one, late_one, refused_one, schedulable_in, late_in, refused_in, totals_line, broken_line, report_of}

-- these counts, and nothing of a table; and before the first byte
abbrev pub fresh_with : ℕ → ℕ → ℕ → Report
fresh_with schedulable late refused =
    record { schedulable = schedulable; late = late; refused = refused; come = 0; due = 5; kept = 0 }

abbrev pub begun : Report
begun = fresh_with 0 0 0

-- the same counts, with more of a table
abbrev pub gathered_to : Report → ℕ → ℕ → ℕ → Report
gathered_to report come due kept =
    record {
      schedulable = report.schedulable;
      late = report.late;
      refused = report.refused;
      come = come;
      due = due;
      kept = kept;
    }

-- how many bytes the table at hand has at least: its head's, and once that has come, those that it states
abbrev pub due_of : List ℕ → ℕ
due_of rest = pick (ltb (length rest) 5) 5 (stated_length rest)

-- what the store holds behind some tables: each was put over the one before it, as much of it as has room
unfoldable pub store_after : List ℕ → List (List ℕ) → List ℕ
store_after old [] = old
store_after old (table ∷ tables) = store_after (bytes_after old 0 table) tables

-- the bytes that a store has: those of the longest table (document 02, L9: 5 + 21 · 200 + 6 · 64)
abbrev pub store_size : ℕ
store_size = 4589

-- What is kept behind the bytes that have come so far, in a store that held `old` at first: the three counts; of the table at hand how
-- many bytes have come, how many are due, and how many are kept; and in the store those that are.
pub record Behind (old bytes : List ℕ) (report : Report) (store : List ℕ) : Type 0 where
  pub schedulable : report.schedulable ≡ schedulable_in (tables_in bytes)
  pub late : report.late ≡ late_in (tables_in bytes)
  pub refused : report.refused ≡ refused_in (tables_in bytes)
  pub come : report.come ≡ length (left_in bytes)
  pub due : report.due ≡ due_of (left_in bytes)
  pub stored : Appended (store_after old (tables_in bytes)) 0 (left_in bytes) report.kept store
  pub room : length old ≡ store_size

-- the lines of the tables that end in these bytes more
abbrev pub lines_more : List ℕ → List ℕ → List ℕ
lines_more bytes more = lines_from (length (tables_in bytes)) (tables_in (left_in bytes ++ more))

-- What being told of more bytes does, whatever came before: what is kept is what is kept behind all of them, and the lines of the tables
-- that end in them are appended to the text.
pub record GoesOn (report : Report) (store more out : List ℕ) (at : ℕ) (told : Told) (kept written : List ℕ) : Type 0 where
  pub behind : (old bytes : List ℕ) → Behind old bytes report store → Behind old (bytes ++ more) told.report kept
  pub lines : (old bytes : List ℕ) → Behind old bytes report store → Appended out at (lines_more bytes more) told.end written

-- the same, where the text stands on a page
pub record Tells (report : Report) (store more : List ℕ) (page : Page) (told : Report) (kept : List ℕ) (new : Page) : Type 0 where
  pub goes : GoesOn report store more page.out.now page.at (record { report = told; end = new.at }) kept new.out.now
  pub same_buffer : new.out.ghost_name ≡ page.out.ghost_name

-- so many bytes may come: with those that came before they are not too many to be counted
pub record Countable (report : Report) (store : List ℕ) (more : ℕ) : Type 0 where
  pub old : List ℕ
  pub bytes : List ℕ
  pub behind : Behind old bytes report store
  pub few : length bytes + more < 18446744073709551616

-- It is so at the beginning, with any store, for any bytes that can be lent.
abbrev pub CountableBegun : Type 0
CountableBegun = (store : List ℕ) (more : ℕ) → length store ≡ store_size → more < 18446744073709551616 → Countable begun store more

-- No second result satisfies it.
abbrev pub NoSecondTold : Type 0
NoSecondTold =
    (report : Report) (store more out : List ℕ) (at : ℕ) (told other : Told) (kept another written rewritten : List ℕ) →
    Countable report store (length more) → GoesOn report store more out at told kept written →
    GoesOn report store more out at other another rewritten → (told ≡ other) × (kept ≡ another) × (written ≡ rewritten)

-- with one table more, of this verdict; the next one begins
abbrev pub counted_by : Report → Verdict → Report
counted_by report verdict =
    fresh_with (report.schedulable + schedulable_one verdict) (report.late + late_one verdict) (report.refused + refused_one verdict)

-- how many tables are counted: the number of the next one
abbrev pub counted_in : Report → ℕ
counted_in report = report.schedulable + report.late + report.refused

-- what is said behind the last byte, by what is kept: something of a table that has not come whole is "broken"
abbrev pub closing_by : Report → List ℕ
closing_by report = totals_line report.schedulable report.late report.refused ++ broken_line (ltb 0 report.come)

-- bytes enough in the buffer for the lines of the tables that end in so many bytes
abbrev pub lines_room : ℕ → ℕ
lines_room count = 126 + 8 * count

-- One call: the bytes it is told of, a buffer, what it answers, and what it leaves in the store and in the buffer.
pub record Call : Type 0 where
  pub more : List ℕ
  pub out : List ℕ
  pub told : Told
  pub kept : List ℕ
  pub written : List ℕ

abbrev pub piece_of : Call → List ℕ
piece_of call = call.more

-- what it put at the beginning of its buffer
abbrev pub text_of : Call → List ℕ
text_of call = take call.told.end call.written

-- Calls one behind another: each has a buffer with room enough, and goes on from what the one before it kept.
abbrev pub Follow : Report → List ℕ → List Call → Type 0
Follow report store [] = Unit
Follow report store (call ∷ calls) =
    GoesOn report store call.more call.out 0 call.told call.kept call.written
    × (lines_room (length call.more) ≤ length call.out)
    × Follow call.told.report call.kept calls

-- what the last one kept
abbrev pub last_of : Report → List Call → Report
last_of report [] = report
last_of report (call ∷ calls) = last_of call.told.report calls

-- However a file is cut into pieces, the texts of the calls, and behind them what is said behind the last byte, are the report of the file.
abbrev pub AnyPieces : Type 0
AnyPieces =
    (old : List ℕ) (calls : List Call) → length old ≡ store_size → Follow begun old calls →
    flatten (map text_of calls) ++ closing_by (last_of begun calls) ≡ report_of (flatten (map piece_of calls))

-- Any pieces can be told so: whatever is kept, there are calls that follow, with those pieces.
pub record Called (report : Report) (store : List ℕ) (pieces : List (List ℕ)) : Type 0 where
  pub calls : List Call
  pub same : map piece_of calls ≡ pieces
  pub follow : Follow report store calls

abbrev pub AllCalled : Type 0
AllCalled = (report : Report) (store : List ℕ) (pieces : List (List ℕ)) → Called report store pieces

-- "a stated length below 5 .. closes the report": less is due than has come
abbrev pub closed_by : Report → Bool
closed_by report = ltb report.due report.come

-- The report is closed so just where five bytes of the table at hand have come, and they state less than 5; and then the bytes that are
-- still to come change nothing.
pub record ClosedEarly : Type 0 where
  pub means : (old bytes : List ℕ) (report : Report) (store : List ℕ) → Behind old bytes report store → closed_by report ≡ true →
      (5 ≤ length (left_in bytes)) × (stated_length (left_in bytes) < 5)
  pub told : (old bytes : List ℕ) (report : Report) (store : List ℕ) → Behind old bytes report store → 5 ≤ length (left_in bytes) →
      stated_length (left_in bytes) < 5 → closed_by report ≡ true
  pub same : (old bytes : List ℕ) (report : Report) (store more : List ℕ) → Behind old bytes report store → closed_by report ≡ true →
      lines_from 0 (tables_in bytes) ++ closing_by report ≡ report_of (bytes ++ more)

-- A piece that has more bytes than the store is refused, and so are, alike, the bytes of it that the store holds: its first bytes tell why
-- (SPECIFICATION 13.12, 10).
pub record Alike (piece first : List ℕ) : Type 0 where
  pub refusal : Refusal
  pub one : judged_as piece ≡ Refused refusal
  pub other : judged_as first ≡ Refused refusal

abbrev pub LongPieces : Type 0
LongPieces = (piece : List ℕ) → Stated piece → store_size < length piece → Alike piece (take store_size piece)
