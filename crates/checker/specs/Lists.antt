-- What the program knows of a list's text when it has gone through it (SPECIFICATION 10.2).
-- Assumes nothing.
use Rattle.std.specs.Prelude.{ℕ, ◌<◌, ◌≡◌, Result, Ok, Err, List, [], ◌∷◌, length}
use Rattle.std.specs.declared.ops.ControlFlow.{ControlFlow}
use Rattle.std.specs.declared.ops.ControlFlow.TheVariants.{Break, Continue}
use Rattle.model.specs.Choice.{pick}
use Rattle.scanning.specs.declared.Scan.{Scan}
use Rattle.scanning.specs.Pieces.{scan_after, kept_after, stuck, gone, all_through}
use Rattle.checking.specs.Text.{check_text}
use Rattle.checking.specs.Pieces.{words_kept, line_after}
use Rattle.streams.specs.declared.Unread.{Unread}

-- Scan and words are those behind some text, one that can be counted. (That it is the file's can't be said: the contract of the system's read says
-- nothing of the bytes.)
pub record Behind (scan : Scan) (words : List ℕ) : Type 0 where
  pub text : List ℕ
  pub old : List ℕ
  pub enough : length old ≡ words_kept
  pub counted : length text < 18446744073709551616
  pub known : gone scan words ≡ all_through old (text ∷ [])

-- what is known of a list: nothing where it was not read to its end
abbrev pub list_read : Result Scan Unread → List ℕ → Type 0
list_read (Ok scan) words = Behind scan words
list_read (Err why) words = Unit

-- "to its end or to something that can't be read": a read that gives nothing is the end, and no other is
unfoldable pub step_for : Scan → List ℕ → ControlFlow Scan Scan
step_for scan [] = Break scan
step_for scan (byte ∷ rest) = pick (stuck (scan_after scan (byte ∷ rest)).state) (Break (scan_after scan (byte ∷ rest))) (Continue (scan_after scan (byte ∷ rest)))

pub record Taken (scan : Scan) (piece old : List ℕ) (result : ControlFlow Scan Scan) (new : List ℕ) : Type 0 where
  pub result_is : result ≡ step_for scan piece
  pub words_are : new ≡ kept_after scan piece old

-- For any table the line that `check` promises is that of the whole text. The proof is in proofs/ReadLaws.antt.
pub record LineOfText : Type 0 where
  pub line : (scan : Scan) (words bytes : List ℕ) (behind : Behind scan words) →
      line_after (gone scan words) bytes ≡ check_text behind.text bytes
