-- What is claimed of the second analysis for the bytes of any table (SPECIFICATION 13.8; document 02, L8), as named statements about what
-- `analyse_past_period` answers and leaves (`PastOutcome`, its contract). The proofs are in proofs/Past.antt, EndLaws.antt, Within.antt,
-- Versions.antt and FirstLaws.antt.
-- Assumes nothing.
use Rattle.std.specs.Prelude.{ℕ, ◌+◌, ◌*◌, ◌≤◌, ◌<◌, ◌≡◌, ◌⊎◌, ◌≢◌, List, length}
use Rattle.model.specs.Lists.{word_of}
use Rattle.model.specs.Tables.{open_word}
use Rattle.tables.specs.Layout.{version_of, task_count, table_of, period_in, deadline_in, earliest_in, latest_in}
use Rattle.tables.specs.Meaning.{TableRightSpanning, RoomFor}
use Rattle.tables.specs.Deserved.{DeservedSpanning}
use Rattle.tables.specs.FirstBytes.{kept_of}
use Rattle.equation.specs.Laws.{IsSmallest}
use Rattle.equation.specs.declared.Start.{Start}
use Rattle.answering.specs.declared.Verdict.{Verdict}
use Rattle.answering.specs.declared.Verdict.TheVariants as verdict
use Rattle.response.specs.Outcome as first
use Rattle.response.specs.Versions.{as_three}
use Rattle.overlaps.specs.declared.Found.{Found}
use Rattle.overlaps.specs.declared.Found.TheVariants.{Refused, Delayed, Schedulable, Late, Open}
use Rattle.jobs.specs.Overlaps.{Studied, base_at, limit_at, studied_of}
use Rattle.overlaps.specs.Outcome.{Call, Left, lending, found_of, answers_after, tried_words_after, PastOutcome}

-- R(q) is r: r + qT is "the smallest w equal to B + (1 + q)C plus interference"
abbrev pub Responds : Studied → ℕ → ℕ → Type 0
Responds s q r = IsSmallest (base_at s q) s.loads (r + q * s.period)

-- "R(q) above T and within D": neither late nor where to stop
pub record GoesOn (s : Studied) (q : ℕ) : Type 0 where
  pub r : ℕ
  pub responds : Responds s q r
  pub above : s.period < r
  pub within : r ≤ s.deadline

-- and so for every q before this one
abbrev pub GoOnBefore : Studied → ℕ → Type 0
GoOnBefore s q = (p : ℕ) → p < q → GoesOn s p

-- "R(q) exceeds D or has no w": every such w is past D + qT
abbrev pub LateAt : Studied → ℕ → Type 0
LateAt s q = (w : ℕ) → IsSmallest (base_at s q) s.loads w → limit_at s q < w

-- "the first R(q) ≤ T", which is within D too
pub record StopsAt (s : Studied) (q : ℕ) : Type 0 where
  pub r : ℕ
  pub responds : Responds s q r
  pub low : r ≤ s.period
  pub within : r ≤ s.deadline

-- "the answer is the largest": of R(0) to R(q)
pub record IsLargest (s : Studied) (q answer : ℕ) : Type 0 where
  pub most : (p r : ℕ) → p ≤ q → Responds s p r → r ≤ answer
  pub at : ℕ
  pub tried : at ≤ q
  pub some : Responds s at answer

-- It ends at q: every q before goes on, and this one stops, or is late. "0 for late"; "the number of q tried", this one included.
pub record EndsWith (s : Studied) (answer count : ℕ) : Type 0 where
  pub q : ℕ
  pub few : q < 64
  pub before : GoOnBefore s q
  pub end : (StopsAt s q × IsLargest s q answer) ⊎ (LateAt s q × (answer ≡ 0))
  pub counted : count ≡ q + 1

-- "It is "open" exactly if q = 0 to 63 all give R(q) above T and within D."
pub record IsOpen (s : Studied) (answer count : ℕ) : Type 0 where
  pub all : GoOnBefore s 64
  pub word : answer ≡ open_word
  pub counted : count ≡ 64

-- What the words of a task are, without any search.
abbrev pub LongestRight : Studied → ℕ → ℕ → Type 0
LongestRight s answer count = EndsWith s answer count ⊎ IsOpen s answer count

-- neither late nor open
pub record InTime (word : ℕ) : Type 0 where
  pub not_late : 1 ≤ word
  pub not_open : word ≢ open_word

-- "The result is "schedulable", or "late" or "open" with the place of the first such task."
abbrev pub ResultRight : (ℕ → ℕ) → ℕ → Found → Type 0
ResultRight words n (Refused refusal) = ⊥
ResultRight words n Delayed = ⊥
ResultRight words n Schedulable = (i : ℕ) → i < n → InTime (words i)
ResultRight words n (Late place) = (place.0 < n) × (words place.0 ≡ 0) × ((i : ℕ) → i < place.0 → InTime (words i))
ResultRight words n (Open place) = (place.0 < n) × (words place.0 ≡ open_word) × ((i : ℕ) → i < place.0 → InTime (words i))

-- no delay: "Any nonzero delay is refused", a constant one too
abbrev pub Calm : List ℕ → Type 0
Calm bytes = (i : ℕ) → i < task_count bytes → (earliest_in bytes i ≡ 0) × (latest_in bytes i ≡ 0)

-- The table breaks no rule, where a deadline may be up to 4T and at most 1,000,000, and each slice has a word for each of its tasks.
pub record Readable (lent : Call) : Type 0 where
  pub right : TableRightSpanning 4 lent.bytes
  pub room : RoomFor lent.bytes (length lent.answers) (length lent.tried)

-- "no word changed"
pub record Unchanged (lent : Call) (result : Left) : Type 0 where
  pub answers_stay : result.answers ≡ lent.answers
  pub tried_stay : result.tried ≡ lent.tried

-- words 0 to n − 1 of each slice are written, and later words stay
pub record Written (lent : Call) (result : Left) : Type 0 where
  pub readable : Readable lent
  pub calm : Calm lent.bytes
  pub words_right : (i : ℕ) → i < task_count lent.bytes →
      LongestRight (studied_of (table_of lent.bytes) i) (word_of result.answers i) (word_of result.tried i)
  pub answers_long : length result.answers ≡ length lent.answers
  pub tried_long : length result.tried ≡ length lent.tried
  pub answers_stay : (i : ℕ) → task_count lent.bytes ≤ i → word_of result.answers i ≡ word_of lent.answers i
  pub tried_stay : (i : ℕ) → task_count lent.bytes ≤ i → word_of result.tried i ≡ word_of lent.tried i
  pub found_right : ResultRight (word_of result.answers) (task_count lent.bytes) result.found

-- When what is said and left is right. Refusals 1 to 8 are those of document 01's list (SPECIFICATION 3), with four periods for a deadline;
-- "Any nonzero delay is refused with 11, after 8, place 0, no word changed."
abbrev pub FoundRight : Call → Left → Found → Type 0
FoundRight lent result (Refused refusal) =
    DeservedSpanning 4 lent.bytes (length lent.answers) (length lent.tried) refusal × Unchanged lent result
FoundRight lent result Delayed = Readable lent × (¬ Calm lent.bytes) × Unchanged lent result
FoundRight lent result Schedulable = Written lent result
FoundRight lent result (Late place) = Written lent result
FoundRight lent result (Open place) = Written lent result

abbrev pub LeftRight : Call → Left → Type 0
LeftRight lent result = FoundRight lent result result.found

-- Any bytes and any slices get an answer: `analyse_past_period` has no `requires` and is proved to return. It is right, and these sentences
-- alone leave no second one: so a refusal is given exactly when it is deserved, and every word is determined.
pub record PastAnalysed : Type 0 where
  pub answered : (lent : Call) → (result : Left) × PastOutcome lent result
  pub right : (lent : Call) (result : Left) → PastOutcome lent result → LeftRight lent result
  pub only : (lent : Call) (result other : Left) → LeftRight lent result → LeftRight lent other → result ≡ other

-- the contract leaves no second answer either
abbrev pub NoSecondPast : Type 0
NoSecondPast = (lent : Call) (result other : Left) → PastOutcome lent result → PastOutcome lent other → result ≡ other

-- Of any task whose cost is at least 1, over any list of loads:
pub record PastEnds : Type 0 where
  -- R(q) is never below 1, where every q before goes on
  pub positive : (s : Studied) → 1 ≤ s.cost → (q : ℕ) → GoOnBefore s q → (w : ℕ) → IsSmallest (base_at s q) s.loads w → q * s.period + 1 ≤ w
  -- each ends by q = 63, or is open after it: 1 to 64 of them are tried
  pub tried : (s : Studied) (answer count : ℕ) → LongestRight s answer count → (1 ≤ count) × (count ≤ 64)
  -- "open" exactly as said, for a deadline within its limit
  pub open_exactly : (s : Studied) (answer count : ℕ) → 1 ≤ s.cost → s.deadline ≤ 1000000 → LongestRight s answer count →
      (answer ≡ open_word → GoOnBefore s 64) × (GoOnBefore s 64 → answer ≡ open_word)

-- the first analysis's verdict, as this one says it
abbrev pub as_found : Verdict → Found
as_found (verdict.Refused refusal) = Refused refusal
as_found verdict.Schedulable = Schedulable
as_found (verdict.Late place) = Late place

-- "Where all D ≤ T, show that its answers equal the first analysis's": and no task has a delay. The answers are the same to the word, and so
-- is the verdict, a refusal too; where it is not refused, one q is tried for each task.
pub record SameLeft (call : Call) (result : Left) (other : first.Left) : Type 0 where
  pub same_answers : result.answers ≡ other.answers
  pub same_found : result.found ≡ as_found other.verdict
  pub one_tried : Readable call → (i : ℕ) → i < task_count call.bytes → word_of result.tried i ≡ 1

abbrev pub SameWithinPeriod : Type 0
SameWithinPeriod =
    (start : Start) (lent : first.Call) (other : first.Left) (result : Left) → first.Outcome start lent other →
    PastOutcome (lending lent.bytes lent.answers lent.rounds) result →
    ((i : ℕ) → i < task_count lent.bytes → deadline_in lent.bytes i ≤ period_in lent.bytes i) → Calm lent.bytes →
    SameLeft (lending lent.bytes lent.answers lent.rounds) result other

-- "Version 3 has version 2's layout" (SPECIFICATION 13.9; document 02, L9): with at most 32 tasks the same bytes in either version, right
-- or wrong, get the same answer, a refusal with its place too, and the same words.
pub record PastInVersionThree : Type 0 where
  pub same_found : (bytes : List ℕ) → version_of bytes ≡ 2 → task_count bytes ≤ 32 →
      (answers tried : ℕ) → found_of (as_three bytes) answers tried ≡ found_of bytes answers tried
  pub same_answers : (bytes : List ℕ) → version_of bytes ≡ 2 → task_count bytes ≤ 32 →
      (answers tried : List ℕ) → answers_after (as_three bytes) answers tried ≡ answers_after bytes answers tried
  pub same_tried : (bytes : List ℕ) → version_of bytes ≡ 2 → task_count bytes ≤ 32 →
      (answers tried : List ℕ) → tried_words_after (as_three bytes) answers tried ≡ tried_words_after bytes answers tried

-- "Bytes after the 4,590th are dropped, with the same refusals" (SPECIFICATION 13.13; document 02, L11): a table that came through an intake
-- gets from this analysis, too, what all its bytes would get.
pub record PastOfFirstBytes : Type 0 where
  pub same_found : (bytes : List ℕ) (answers tried : ℕ) → found_of (kept_of bytes) answers tried ≡ found_of bytes answers tried
  pub same_answers : (bytes answers tried : List ℕ) → answers_after (kept_of bytes) answers tried ≡ answers_after bytes answers tried
  pub same_tried : (bytes answers tried : List ℕ) → tried_words_after (kept_of bytes) answers tried ≡ tried_words_after bytes answers tried
