-- What the calls of the intake return to C: a number for each condition, and the verdict in one number (SPECIFICATION 11 and 13.13).
-- Assumes nothing.
use Rattle.std.specs.Prelude.{ℕ, ◌*◌, ◌≡◌, ◌≢◌, List, Ok, Err}
use Rattle.answering.specs.declared.Verdict.{Verdict}
use Rattle.response.specs.Verdicts.{code_of, verdict_place, packed}
use Rattle.intake.specs.declared.Unusable.{Unusable}
use Rattle.intake.specs.declared.Unusable.TheVariants.{ShortStore, WrongFill}
use Rattle.intake.specs.Intake.{State, Condition, Ended, Takes, Ends}

-- 0, or a code that no verdict has
abbrev pub unusable_code : Unusable → ℕ
unusable_code ShortStore = 252
unusable_code WrongFill = 253

abbrev pub condition_code : Condition → ℕ
condition_code (Ok fit) = 0
condition_code (Err why) = unusable_code why

-- the code in the upper 32 bits, and the place in the lower 32, as of every verdict
abbrev pub packed_ended : Ended → ℕ
packed_ended (Ok verdict) = packed verdict
packed_ended (Err why) = unusable_code why * 4294967296

abbrev pub ended_place : Ended → ℕ
ended_place (Ok verdict) = verdict_place verdict
ended_place (Err why) = 0

-- No verdict has one of the two codes, and they are told apart. The proof is in proofs/NumberLaws.antt.
pub record CodesDrawn : Type 0 where
  pub ready : condition_code (Ok tt) ≡ 0
  pub short : packed_ended (Err ShortStore) ≡ 1082331758592
  pub wrong : packed_ended (Err WrongFill) ≡ 1086626725888
  pub own : (verdict : Verdict) → (code_of verdict ≢ condition_code (Err ShortStore)) × (code_of verdict ≢ condition_code (Err WrongFill))

-- A call that takes a piece, as C sees it: what `take` says and leaves, by its number.
pub record NumberedTake (state : State) (piece : List ℕ) (number : ℕ) (left : State) : Type 0 where
  pub condition : Condition
  pub takes : Takes state piece condition left
  pub number_is : number ≡ condition_code condition

-- One that ends a table: what `end` says and leaves.
pub record NumberedEnd (state : State) (answers rounds : List ℕ) (number fill : ℕ) (answers_now rounds_now : List ℕ) : Type 0 where
  pub ended : Ended
  pub ends : Ends state answers rounds ended fill answers_now rounds_now
  pub number_is : number ≡ packed_ended ended
