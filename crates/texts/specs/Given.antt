-- What is given for any bytes of text: "the table's bytes, or the line and the kind of fault; no second answer"; and "the field that stands
-- there", for any byte of its table (SPECIFICATION 14.3, 14.4 and 14.6). The proofs are in proofs/GivenLaws.antt.
-- Assumes nothing.
use Rattle.std.specs.Prelude.{ℕ, ◌≤◌, ◌<◌, ◌≡◌, Result, Ok, Err, List, length}
use Rattle.printing.specs.Appended.{Appended}
use Rattle.typing.specs.Reading.{Reading, given, faulty, reading_of}
use Rattle.typed.specs.Answered.{text_for}
use Rattle.typed.specs.Places.{place_for}
use Rattle.texts.specs.declared.Unread.{Unread}
use Rattle.texts.specs.declared.Unread.TheVariants.{Faulty, TooLong}

-- 2^59. Lines are counted in the machine's words, and no text is that long.
abbrev pub most_text : ℕ
most_text = 576460752303423488

-- which of the three it is
abbrev pub kind_of : Result ℕ Unread → ℕ
kind_of (Ok end) = 0
kind_of (Err (Faulty end)) = 1
kind_of (Err TooLong) = 2

abbrev pub kind_for : Reading → ℕ
kind_for (given version typed) = 0
kind_for (faulty line fault) = 1

-- and where what is put into the buffer ends
abbrev pub end_of : Result ℕ Unread → ℕ
end_of (Ok end) = end
end_of (Err (Faulty end)) = end
end_of (Err TooLong) = 0

-- for a text, and what is said of it
pub record GivenFor (text said old : List ℕ) (result : Result ℕ Unread) (new : List ℕ) : Type 0 where
  pub short : length text < most_text → (kind_of result ≡ kind_for (reading_of text)) × Appended old 0 said (end_of result) new
  pub long : most_text ≤ length text → (kind_of result ≡ 2) × (new ≡ old)

-- the bytes of its table, or the line of its fault
abbrev pub TextGiven : List ℕ → List ℕ → Result ℕ Unread → List ℕ → Type 0
TextGiven text old result new = GivenFor text (text_for (reading_of text)) old result new

-- the line of the field at a byte of its table, or the line of its fault
abbrev pub PlaceGiven : List ℕ → ℕ → List ℕ → Result ℕ Unread → List ℕ → Type 0
PlaceGiven text place old result new = GivenFor text (place_for (reading_of text) place) old result new

-- No second answer satisfies either: which it is, where it ends, and each byte of the buffer are determined.
abbrev pub NoSecondGiven : Type 0
NoSecondGiven =
    (text said old : List ℕ) (result other : Result ℕ Unread) (new another : List ℕ) →
    GivenFor text said old result new → GivenFor text said old other another → (result ≡ other) × (new ≡ another)
