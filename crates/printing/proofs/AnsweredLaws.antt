-- The text of what a call of the analysis said and left is the text of what it says of those bytes, and the first 4,590 of them decide it.
-- Assumes nothing.
use Rattle.std.specs.Prelude.{Err}
use Prim.Native.Nat.{ℕ}
use mathlib.Core.Path.{◌≡◌, refl, ◌∙◌, ap}
use mathlib.Core.List.{List}
use Rattle.tables.specs.declared.Refusal.{Refusal}
use Rattle.tables.specs.Checks.{head_check}
use Rattle.tables.proofs.FirstLaws.{kept_alike}
use Rattle.equation.specs.declared.Start.{Start}
use Rattle.answering.specs.declared.Verdict.{Verdict}
use Rattle.response.specs.Outcome.{Left, lending, Outcome, verdict_of, answers_after}
use Rattle.response.proofs.FirstLaws.{refused_verdict}
use Rattle.printing.specs.Text.{text_of, refused_line}
use Rattle.printing.specs.Answered.{zeros, answer_text, TextOfFirstBytes}

pub text_of_outcome : (start : Start) (bytes : List ℕ) (result : Left) → Outcome start (lending bytes zeros zeros) result →
    text_of bytes result.verdict result.answers result.rounds ≡ answer_text start bytes
unfolding answer_text
text_of_outcome start bytes result o =
    ap (λ (v : Verdict). text_of bytes v result.answers result.rounds) o.verdict_is
    ∙ ap (λ (a : List ℕ). text_of bytes (verdict_of bytes 200 200) a result.rounds) o.answers_are
    ∙ ap (text_of bytes (verdict_of bytes 200 200) (answers_after bytes zeros zeros)) o.rounds_are

refused_text : (start : Start) (bytes : List ℕ) (refusal : Refusal) → head_check bytes ≡ Err refusal →
    answer_text start bytes ≡ refused_line refusal
unfolding answer_text
refused_text start bytes refusal e = rw (refused_verdict bytes refusal e 200 200) refl

pub text_of_first_bytes : TextOfFirstBytes
text_of_first_bytes start bytes = kept_alike (λ (b : List ℕ). answer_text start b) (λ (r : Refusal). refused_line r) (refused_text start) bytes
