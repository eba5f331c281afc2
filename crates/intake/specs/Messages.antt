-- What people are told where a store or its fill can't be used (SPECIFICATION 13.13): which of the two it is.
-- Assumes nothing.
use Rattle.std.specs.Prelude.{ℕ, List, codes}
use Rattle.intake.specs.declared.Unusable.{Unusable}
use Rattle.intake.specs.declared.Unusable.TheVariants.{ShortStore, WrongFill}

-- in ASCII, with no newline
abbrev pub message_of : Unusable → List ℕ
message_of ShortStore = codes "the store is too short"
message_of WrongFill = codes "the fill is wrong"
