-- The text form of a table that is not refused is read as that table, and gives its bytes back (SPECIFICATION 14). The proofs are in
-- proofs/RoundTrip.antt.
-- Assumes nothing.
use Rattle.std.specs.Prelude.{ℕ, ◌≤◌, ◌≡◌, List}
use Rattle.tables.specs.Layout.{version_of, table_of}
use Rattle.tables.specs.Meaning.{TableRightSpanning}
use Rattle.encoding.specs.Statements.{AreBytes}
use Rattle.typing.specs.Reading.{Typed, given, reading_of, table_typed, bytes_in}
use Rattle.writing.specs.Text.{form_text}

-- The form of these bytes can be read: as a table in their version, whose tasks and sections are those that the bytes mean, and whose bytes
-- are these.
pub record ReadAsItself (bytes : List ℕ) : Type 0 where
  pub typed : Typed
  pub read : reading_of (form_text bytes) ≡ given (version_of bytes) typed
  pub means : table_typed typed ≡ table_of bytes
  pub same : bytes_in (reading_of (form_text bytes)) ≡ bytes

-- So it is for every table that is not refused, in every version. A deadline spans one period in the first analysis and up to four in the
-- second.
abbrev pub ReadBack : Type 0
ReadBack = (span : ℕ) (bytes : List ℕ) → span ≤ 4 → AreBytes bytes → TableRightSpanning span bytes → ReadAsItself bytes

-- No two tables that are not refused have the same form.
abbrev pub OneForm : Type 0
OneForm =
    (span other : ℕ) (bytes others : List ℕ) → span ≤ 4 → other ≤ 4 → AreBytes bytes → AreBytes others →
    TableRightSpanning span bytes → TableRightSpanning other others → form_text bytes ≡ form_text others → bytes ≡ others
