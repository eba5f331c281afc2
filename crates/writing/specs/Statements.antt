-- What the text form is made of leaves out nothing that a table's bytes say, and every table that is not refused has a form (SPECIFICATION
-- 14). The proofs are in proofs/Forms.antt.
-- Assumes nothing.
use Rattle.std.specs.Prelude.{ℕ, ◌≤◌, ◌≡◌, List}
use Rattle.tables.specs.Layout.{version_of, table_of}
use Rattle.tables.specs.Meaning.{TableRightSpanning}
use Rattle.encoding.specs.Bytes.{encode}
use Rattle.encoding.specs.Statements.{AreBytes}
use Rattle.writing.specs.Text.{form_of, form_text}

-- The form is made of the version and of the tasks and rows that the bytes mean, and these have no other bytes, however many periods a
-- deadline may span.
abbrev pub OnlyBytesSpanning : Type 0
OnlyBytesSpanning =
    (span : ℕ) (bytes : List ℕ) → AreBytes bytes → TableRightSpanning span bytes → encode (version_of bytes) (table_of bytes) ≡ bytes

-- The text for the bytes of a table that breaks no rule is its form, and no refusal's line: so of every table that either analysis accepts,
-- since a deadline spans one period in the first and up to four in the second.
abbrev pub FormGiven : Type 0
FormGiven =
    (span : ℕ) (bytes : List ℕ) → span ≤ 4 → TableRightSpanning span bytes → form_text bytes ≡ form_of (version_of bytes) (table_of bytes)
