-- What is found of a list's text and a table: the words that are kept stand for the whole list.
-- Assumes nothing.
use Rattle.std.specs.Prelude.{Ok, Err}
use Prim.Native.Nat.{ℕ, ◌<◌, min}
use native.Mathlib.Omega.{arith}
use native.Mathlib.Decide.{dec_le}
use mathlib.Core.Path.{◌≡◌, refl, sym, ◌∙◌, ap}
use mathlib.Core.Bool.{true}
use mathlib.Core.List.{List, ◌++◌, flatten}
use lib.ListN.{length, take, drop, length-take}
use lib.Seq.{take_all, take-append_seam}
use Rattle.tables.specs.Refusals.{Check}
use Rattle.tables.specs.Checks.{read_check}
use Rattle.claims.specs.declared.Claimed.{Claimed}
use Rattle.claims.specs.Claims.{claimed_of, Checked}
use Rattle.claims.proofs.ColumnLaws.{read_refused, wrong_count}
use Rattle.claims.proofs.Claims.{few_tasks_law}
use Rattle.std.specs.Prelude.{Result, Ok, Err}
use Rattle.scanning.specs.declared.Unreadable.{Unreadable}
use Rattle.scanning.specs.declared.State.{State}
use Rattle.scanning.specs.declared.State.TheVariants.{Outside, Inside, Stuck}
use Rattle.scanning.specs.declared.Scan.{Scan}
use Rattle.scanning.specs.Reading.{Reading, numbers, unreadable, reading_of}
use Rattle.scanning.specs.Read.{from_byte, scanned_for, words_after}
use Rattle.scanning.specs.Pieces.{stuck, answer_of, answer_at, words_at, Ended, Gone, gone, all_through}
use Rattle.scanning.proofs.PieceLaws.{pieces_right}
use Rattle.checking.specs.Text.{claimed_line, unreadable_line, text_for, check_text}
use Rattle.checking.specs.Pieces.{words_kept, line_for, line_after, AnyPieces}

-- no table has more than 200 tasks, so that 201 words of a list are answered as the whole list is
same_answer : (bytes claims : List ℕ) → claimed_of bytes (take 201 claims) ≡ claimed_of bytes claims
same_answer bytes claims =
    elim (dec_le (length claims) 201) [
      | yes h ↦ ap (claimed_of bytes) (take_all 201 claims h)
      | no h ↦ go (read_check 1 bytes) refl (omega arith)
    ]
  where
    go : (c : Check) → read_check 1 bytes ≡ c → 201 < length claims → claimed_of bytes (take 201 claims) ≡ claimed_of bytes claims
    go (Err refusal) e h = sym (read_refused bytes (take 201 claims) refusal (sym e)) ∙ read_refused bytes claims refusal (sym e)
    go (Ok _) e h =
        sym (wrong_count bytes (take 201 claims) e (λ same. omega (arith, same, length-take 201 claims, few_tasks_law bytes e)))
        ∙ wrong_count bytes claims e (λ same. omega (arith, same, few_tasks_law bytes e))

-- What `check_list` says is the line for what is known behind the last piece.
module _ {scan : Scan} {words new : List ℕ} {scanned : Result ℕ Unreadable} (bytes : List ℕ) (ended : Ended scan words scanned new) where
  pub list_checked : {count kept : ℕ} {claimed : Claimed} → scanned ≡ Ok count → kept ≡ min count words_kept →
      Checked bytes (take kept new) claimed → claimed_line claimed ≡ line_after (gone scan words) bytes
  unfolding line_after
  list_checked {count} {kept} {claimed} counted few checked =
      ap claimed_line (checked ∙ ap (λ (k : ℕ). claimed_of bytes (take k new)) few)
      ∙ ap (λ (s : Result ℕ Unreadable). line_for s new bytes) (sym counted ∙ ended.result_is)
      ∙ ap (λ (xs : List ℕ). line_for (answer_at scan) xs bytes) ended.words_are

  pub list_unreadable : {fault : Unreadable} → scanned ≡ Err fault → unreadable_line fault.0.0 ≡ line_after (gone scan words) bytes
  unfolding line_after
  list_unreadable {fault} is =
      ap (λ (s : Result ℕ Unreadable). line_for s new bytes) (sym is ∙ ended.result_is)
      ∙ ap (λ (xs : List ℕ). line_for (answer_at scan) xs bytes) ended.words_are

stuck_told : (state : State) (count : ℕ) → stuck state ≡ true → (fault : Unreadable) × (answer_of state count ≡ Err fault)
stuck_told Outside count h = let z : ◌≡◌ {A = ℕ} 0 1 = cc (h) in absurd (omega arith)
stuck_told (Inside from value) count h = let z : ◌≡◌ {A = ℕ} 0 1 = cc (h) in absurd (omega arith)
stuck_told (Stuck place) count h = (from_byte place, refl)

-- And that is the line for the list: the words that are kept stand for all of it.
module _ (list bytes : List ℕ) (known : Gone) (is : answer_at known.scan ≡ scanned_for (reading_of list)) where
  line_read : (old : List ℕ) → length old ≡ words_kept →
      ((values : List ℕ) → reading_of list ≡ numbers values → words_at known.scan known.words ≡ words_after (numbers values) old) →
      line_after known bytes ≡ check_text list bytes
  unfolding line_after check_text
  line_read old long kept = go (reading_of list) refl
    where
      go : (reading : Reading) → reading_of list ≡ reading → line_for (answer_at known.scan) (words_at known.scan known.words) bytes ≡ text_for (reading_of list) bytes
      go (numbers claims) e =
          let words : words_at known.scan known.words ≡ take words_kept claims ++ drop (length claims) old =
          kept claims e ∙ ap (λ (k : ℕ). take k claims ++ drop (length claims) old) long in
          let few : min (length claims) words_kept ≡ length (take words_kept claims) = omega (arith, length-take words_kept claims) in
          rw (is, e, words, few)
          (ap claimed_line
          (ap (claimed_of bytes) (take-append_seam (take words_kept claims) (drop (length claims) old)) ∙ same_answer bytes claims))
      go (unreadable place) e = rw (is, e)

  line_stuck : stuck known.scan.state ≡ true → line_after known bytes ≡ check_text list bytes
  unfolding line_after check_text
  line_stuck h = go (reading_of list) refl
    where
      go : (reading : Reading) → reading_of list ≡ reading → line_for (answer_at known.scan) (words_at known.scan known.words) bytes ≡ text_for (reading_of list) bytes
      go (numbers claims) e =
          let z : ◌≡◌ {A = ℕ} 0 1 = cc (is, ap scanned_for e, (stuck_told known.scan.state _ h).1) in absurd (omega arith)
      go (unreadable place) e = rw (is, e)

pub any_pieces : AnyPieces
any_pieces =
    record {
      whole = λ old bytes pieces long.
          line_read (flatten pieces) bytes (all_through old pieces) (pieces_right.answers old pieces) old long (pieces_right.keeps old pieces);
      early = λ old bytes pieces more h.
          line_stuck (flatten (pieces ++ more)) bytes (all_through old pieces) (pieces_right.early old pieces more h) h;
    }
