-- Which outcome each check leads to, and that the columns which hold a table give the words of the table that the bytes mean.
-- Assumes nothing.
use Rattle.std.specs.Prelude.{Ok, Err}
use Prim.Native.Nat.{ℕ, ◌≤◌, ◌<◌}
use native.Mathlib.Omega.{arith}
use mathlib.Core.Path.{◌≡◌, ◌∙◌, ap}
use mathlib.Core.Bool.{true, false}
use mathlib.Core.List.{List}
use lib.Dec.{leb, ltb}
use lib.ListN.{length}
use borrow.Author.Tests.{eq-eqb, ne_eqb, ltb-true, ltb-false}
use Rattle.model.specs.Choice.{both}
use Rattle.model.specs.Lists.{filled, largest_to, word_of}
use Rattle.model.proofs.Filling.{filled_same}
use Rattle.model.proofs.First.{first_same}
use Rattle.model.proofs.Lists.{largest_same}
use Rattle.tables.specs.declared.Refusal.{Refusal}
use Rattle.tables.specs.declared.Refusal.TheVariants.{NoRoom}
use Rattle.tables.specs.Layout.{task_count, table_of, latest_in}
use Rattle.tables.specs.Refusals.{at}
use Rattle.tables.specs.Checks.{read_check}
use Rattle.tables.proofs.OrderLaws.{read_decides, room_decides, all_pass}
use Rattle.blocking.specs.Ceilings.{blocking_of}
use Rattle.records.specs.Columns.{RecordColumn, latest_column, RowColumn, TableHeld}
use Rattle.answering.specs.Slices.{slice}
use Rattle.response.proofs.DecodedLaws.{Ranks, decoded_from, cost_is, blocked_is, period_is, deadline_is, loads_agree}
use Rattle.overlaps.specs.declared.Found.{Found}
use Rattle.overlaps.specs.declared.Found.TheVariants.{Refused, Delayed, Schedulable}
use Rattle.jobs.specs.Overlaps.{Studied, longest, tried, studied_of, longest_of, tried_of}
use Rattle.overlaps.specs.Outcome.{is_schedulable, said_by, said_at, result_of, past_check, is_calm, found_of, answers_after, tried_words_after, lending, leaving, PastOutcome}
use Rattle.overlaps.specs.Columns.{studied_in, longest_in, tried_in, AllFound}

module _ (bytes answers counts : List ℕ) where
  -- a refusal leaves both slices as they were
  refused : (r : Refusal) → past_check bytes (length answers) (length counts) ≡ Err r →
      PastOutcome (lending bytes answers counts) (leaving (Refused r) answers counts)
  unfolding found_of answers_after tried_words_after
  refused r e = record { found_is = rw e; answers_are = rw e; tried_are = rw e }

  pub read_refused : (r : Refusal) → Err r ≡ read_check 4 bytes →
      PastOutcome (lending bytes answers counts) (leaving (Refused r) answers counts)
  read_refused r e = refused r (read_decides 4 bytes (length answers) (length counts) r e)

  module _ (clean : read_check 4 bytes ≡ Ok tt) (n : ℕ) (counted : n ≡ task_count bytes) where
    pub no_room : both (leb n (length answers)) (leb n (length counts)) ≡ false →
        PastOutcome (lending bytes answers counts) (leaving (Refused NoRoom) answers counts)
    no_room e = refused NoRoom (room_decides 4 bytes (length answers) (length counts) clean n counted e)

    module _ (room : (task_count bytes ≤ length answers) × (task_count bytes ≤ length counts)) where
      accepted : past_check bytes (length answers) (length counts) ≡ Ok tt
      accepted = all_pass 4 bytes (length answers) (length counts) clean n counted (omega (arith, room.0)) (omega (arith, room.1))

      -- a delay leaves them so too
      pub delayed : is_calm bytes ≡ false → PastOutcome (lending bytes answers counts) (leaving Delayed answers counts)
      unfolding found_of answers_after tried_words_after
      delayed e = record { found_is = rw (accepted, e); answers_are = rw (accepted, e); tried_are = rw (accepted, e) }

      -- what is left where there is none
      pub all_found : is_calm bytes ≡ true → (found : Found) (answers_left counts_left : List ℕ) →
          found ≡ result_of (longest_of (table_of bytes)) (task_count bytes) → answers_left ≡ filled (longest_of (table_of bytes)) (task_count bytes) answers →
          counts_left ≡ filled (tried_of (table_of bytes)) (task_count bytes) counts →
          PastOutcome (lending bytes answers counts) (leaving found answers_left counts_left)
      unfolding found_of answers_after tried_words_after
      all_found e found answers_left counts_left f a t =
          record { found_is = rw (accepted, e) f; answers_are = rw (accepted, e) a; tried_are = rw (accepted, e) t }

module _ {span : ℕ} (bytes : List ℕ) (records : RecordColumn → List ℕ) (rows : RowColumn → List ℕ) (held : TableHeld span bytes records rows)
    (n : ℕ) (tasks_counted : n ≡ task_count bytes) where
  -- the largest latest delay, in the column and in the table
  latest_same : largest_to (word_of (records latest_column)) n ≡ largest_to (latest_in bytes) (task_count bytes)
  latest_same =
      largest_same (word_of (records latest_column)) (latest_in bytes) n (λ i h. (held.of_records latest_column).read i (omega (arith, tasks_counted)))
      ∙ ap (largest_to (latest_in bytes)) tasks_counted

  -- what the test for a delay says
  pub some_delay : ltb 0 (largest_to (word_of (records latest_column)) n) ≡ true → is_calm bytes ≡ false
  some_delay p =
      ne_eqb (largest_to (latest_in bytes) (task_count bytes)) 0
      (λ (e : largest_to (latest_in bytes) (task_count bytes) ≡ 0). omega (arith, e, latest_same, ltb-true 0 (largest_to (word_of (records latest_column)) n) p))

  pub no_delay : ltb 0 (largest_to (word_of (records latest_column)) n) ≡ false → is_calm bytes ≡ true
  no_delay p =
      eq-eqb (largest_to (latest_in bytes) (task_count bytes)) 0 (omega (arith, latest_same, ltb-false 0 (largest_to (word_of (records latest_column)) n) p))

  module _ (ranks : List ℕ) (ranks_held : Ranks bytes ranks) (blocked old : List ℕ) (room : n ≤ length old)
      (left : blocked ≡ filled (blocking_of (table_of bytes)) (task_count bytes) old) where
    -- the task at a place, in the columns and in the table
    studied_agrees : (i : ℕ) → i < n → studied_in (decoded_from ranks records blocked) n i ≡ studied_of (table_of bytes) i
    studied_agrees i h =
        same_studied (studied_in (decoded_from ranks records blocked) n i) (studied_of (table_of bytes) i)
        (blocked_is bytes records rows held ranks ranks_held n tasks_counted blocked old room left i h)
        (cost_is bytes records rows held ranks ranks_held n tasks_counted blocked old room left i h)
        (period_is bytes records rows held ranks ranks_held n tasks_counted blocked old room left i h)
        (deadline_is bytes records rows held ranks ranks_held n tasks_counted blocked old room left i h)
        (loads_agree bytes records rows held ranks ranks_held n tasks_counted blocked old room left i h)
      where
        same_studied : (a b : Studied) → a.blocking ≡ b.blocking → a.cost ≡ b.cost → a.period ≡ b.period → a.deadline ≡ b.deadline →
            a.loads ≡ b.loads → a ≡ b
        same_studied a b blocking cost period deadline loads =
            λ i. record { blocking = blocking i; cost = cost i; period = period i; deadline = deadline i; loads = loads i }

    word_agrees : (i : ℕ) → i < n → longest_in (decoded_from ranks records blocked) n i ≡ longest_of (table_of bytes) i
    unfolding longest_in longest_of
    word_agrees i h = ap longest (studied_agrees i h)

    tried_agrees : (i : ℕ) → i < n → tried_in (decoded_from ranks records blocked) n i ≡ tried_of (table_of bytes) i
    unfolding tried_in tried_of
    tried_agrees i h = ap tried (studied_agrees i h)

    filled_all : (f g : ℕ → ℕ) (words : List ℕ) → ((i : ℕ) → i < n → f i ≡ g i) → filled f n words ≡ filled g (task_count bytes) words
    filled_all f g words same = filled_same f g n words same ∙ ap (λ (k : ℕ). filled g k words) tasks_counted

    -- what is found in the columns is the outcome for the bytes
    pub table_found : read_check 4 bytes ≡ Ok tt → is_calm bytes ≡ true → (answers counts : List ℕ) →
        (task_count bytes ≤ length answers) × (task_count bytes ≤ length counts) → (found : Found) (answers_left counts_left : List ℕ) →
        AllFound (decoded_from ranks records blocked) n found (slice answers answers_left) (slice counts counts_left) →
        PastOutcome (lending bytes answers counts) (leaving found answers_left counts_left)
    table_found clean calm answers counts lent found answers_left counts_left a =
        let in_columns = longest_in (decoded_from ranks records blocked) n in
        let in_table = longest_of (table_of bytes) in
        all_found bytes answers counts clean n tasks_counted lent calm found answers_left counts_left
        (a.found_is
        ∙ first_same is_schedulable Schedulable (said_at in_columns) (said_at in_table) n (λ i h. ap (λ (w : ℕ). said_by w (at i)) (word_agrees i h))
        ∙ ap (result_of in_table) tasks_counted)
        (a.answers_are ∙ filled_all in_columns in_table answers word_agrees)
        (a.counts_are ∙ filled_all (tried_in (decoded_from ranks records blocked) n) (tried_of (table_of bytes)) counts tried_agrees)
