-- Small tables and what the second analysis says of them and leaves, as rows of one list under one statement, which the checker computes
-- (SPECIFICATION 12 and 13.8; document 02, L8). The proof is in proofs/PastExampleLaws.antt.
-- Assumes nothing.
use Rattle.std.specs.Prelude.{ℕ, ◌≡◌, List, [], ◌∷◌, map, length, replicate}
use Rattle.model.specs.Tables.{Task, Row, open_word}
use Rattle.tables.specs.declared.Refusal.TheVariants.{NumberOutOfRange, NoRoom}
use Rattle.tables.specs.Refusals.{at, offset}
use Rattle.encoding.specs.Bytes.{encode}
use Rattle.encoding.specs.Examples.{task, fifth, late, groups}
use Rattle.overlaps.specs.declared.Found.{Found}
use Rattle.overlaps.specs.declared.Found.TheVariants.{Refused, Delayed, Schedulable, Late, Open}
use Rattle.overlaps.specs.Outcome.{found_of, answers_after, tried_words_after, Left, leaving}

-- (T, C, D) of that priority, with no delay
abbrev pub plain : (priority period cost deadline : ℕ) → Task
plain priority period cost deadline = task priority period cost deadline 0 0

abbrev pub row : ℕ → ℕ → ℕ → Row
row place semaphore longest = record { place = place; semaphore = semaphore; longest = longest }

abbrev pub tasks_alone : List Task → List ℕ
tasks_alone tasks = encode 1 (record { tasks = tasks; rows = [] })

-- a task above another, of period and deadline 1,000, which holds their semaphore for so long
abbrev pub blocked_for : ℕ → Task → List ℕ
blocked_for longest above =
    encode 1 (record { tasks = above ∷ plain 1 1000 longest 1000 ∷ []; rows = row 0 1 1 ∷ row 1 1 longest ∷ [] })

-- (16, 3, 16) above (5, 4, 20) above one that blocks the second for so long
abbrev pub last_of : ℕ → List ℕ
last_of longest =
    encode 1
    (record {
      tasks = plain 3 16 3 16 ∷ plain 2 5 4 20 ∷ plain 1 1000 longest 1000 ∷ [];
      rows = row 1 1 1 ∷ row 2 1 longest ∷ [];
    })

-- the bytes, the words that each slice has (all 0), and what is said and left
pub record Example : Type 0 where
  pub bytes : List ℕ
  pub room : ℕ
  pub left : Left

-- as many words as there are answers
abbrev pub example : List ℕ → Found → (answers tried : List ℕ) → Example
example bytes found answers tried = record { bytes = bytes; room = length answers; left = leaving found answers tried }

unfoldable pub examples : List Example
examples =
    -- "The example in 001 gives 10 and 15, its process 2 standing first."
    example (tasks_alone (plain 2 20 10 20 ∷ plain 1 10 5 20 ∷ [])) Schedulable (10 ∷ 15 ∷ []) (1 ∷ 2 ∷ [])
    ∷ example (encode 2 (record { tasks = plain 2 20 10 20 ∷ plain 1 10 5 20 ∷ []; rows = [] })) Schedulable (10 ∷ 15 ∷ []) (1 ∷ 2 ∷ [])
    -- R(0), R(1) and R(2) of the second task are 5, 6 and 4: the largest is neither the first nor the last
    ∷ example (tasks_alone (plain 2 6 3 6 ∷ plain 1 4 2 16 ∷ [])) Schedulable (3 ∷ 6 ∷ []) (1 ∷ 3 ∷ [])
    -- late at q = 0; D < R(0) ≤ T is late too; late at q = 1
    ∷ example (tasks_alone (plain 1 10 16 15 ∷ [])) (Late (at 0)) (0 ∷ []) (1 ∷ [])
    ∷ example (tasks_alone (plain 1 10 9 8 ∷ [])) (Late (at 0)) (0 ∷ []) (1 ∷ [])
    ∷ example (tasks_alone (plain 1 10 14 15 ∷ [])) (Late (at 0)) (0 ∷ []) (2 ∷ [])
    -- R(0) to R(62) are 2, and R(63) is 3: late at q = 63; with one tick more, open
    ∷ example (tasks_alone (plain 2 64 1 64 ∷ plain 1 1 1 2 ∷ [])) (Late (at 1)) (1 ∷ 0 ∷ []) (1 ∷ 64 ∷ [])
    ∷ example (tasks_alone (plain 2 64 1 64 ∷ plain 1 1 1 3 ∷ [])) (Open (at 1)) (1 ∷ open_word ∷ []) (1 ∷ 64 ∷ [])
    -- blocked for a tick, every job of (1, 1, 4) takes 2: open; with a deadline of 1 it is late
    ∷ example (blocked_for 1 (plain 2 1 1 4)) (Open (at 0)) (open_word ∷ 0 ∷ []) (64 ∷ 1 ∷ [])
    ∷ example (blocked_for 1 (plain 2 1 1 1)) (Late (at 0)) (0 ∷ 0 ∷ []) (1 ∷ 1 ∷ [])
    -- R(62) is 6 and R(63) is 5, the period: it ends with the last q; blocked for a tick more it is open
    ∷ example (last_of 4) Schedulable (3 ∷ 12 ∷ 320 ∷ []) (1 ∷ 64 ∷ 1 ∷ [])
    ∷ example (last_of 5) (Open (at 1)) (3 ∷ open_word ∷ 400 ∷ []) (1 ∷ 64 ∷ 1 ∷ [])
    -- the first task that is late or open is named, by its own word
    ∷ example (tasks_alone (plain 2 10 14 15 ∷ plain 1 22 23 86 ∷ [])) (Late (at 0)) (0 ∷ 0 ∷ []) (2 ∷ 1 ∷ [])
    -- tasks of one priority interfere with each other: each job of the first may wait for one of the second
    ∷ example (tasks_alone (plain 1 4 2 8 ∷ plain 1 4 2 8 ∷ [])) Schedulable (4 ∷ 4 ∷ []) (1 ∷ 1 ∷ [])
    -- no deadline past its period: as the first analysis has it
    ∷ example fifth Schedulable (1 ∷ 3 ∷ 10 ∷ []) (1 ∷ 1 ∷ 1 ∷ [])
    ∷ example groups (Late (at 1)) (1 ∷ 0 ∷ 10 ∷ []) (1 ∷ 1 ∷ 1 ∷ [])
    -- "D may be up to 4T here and at most 1,000,000"
    ∷ example (tasks_alone (plain 1 3 1 12 ∷ [])) Schedulable (1 ∷ []) (1 ∷ [])
    ∷ example (tasks_alone (plain 1 3 1 13 ∷ [])) (Refused (NumberOutOfRange (offset 14))) (0 ∷ []) (0 ∷ [])
    ∷ example (tasks_alone (plain 1 250000 1 1000000 ∷ [])) Schedulable (1 ∷ []) (1 ∷ [])
    ∷ example (tasks_alone (plain 1 250001 1 1000001 ∷ [])) (Refused (NumberOutOfRange (offset 14))) (0 ∷ []) (0 ∷ [])
    -- "Any nonzero delay is refused with 11, after 8", a constant one too
    ∷ example late Delayed (0 ∷ 0 ∷ []) (0 ∷ 0 ∷ [])
    ∷ example (encode 2 (record { tasks = task 1 10 1 20 1 1 ∷ []; rows = [] })) Delayed (0 ∷ []) (0 ∷ [])
    ∷ example late (Refused NoRoom) (0 ∷ []) (0 ∷ [])
    ∷ []

abbrev pub zeros : Example → List ℕ
zeros e = replicate e.room 0

abbrev pub found_for : Example → Left
found_for e =
    leaving (found_of e.bytes e.room e.room) (answers_after e.bytes (zeros e) (zeros e)) (tried_words_after e.bytes (zeros e) (zeros e))

abbrev pub left_of : Example → Left
left_of e = e.left

abbrev pub PastExamples : Type 0
PastExamples = map found_for examples ≡ map left_of examples
