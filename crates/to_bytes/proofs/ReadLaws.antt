-- What is known of the text before each read, and of the answer behind the last.
-- Assumes nothing.
use Prim.Native.Nat.{ℕ, ◌+◌, ◌≤◌, ◌<◌}
use native.Mathlib.Omega.{arith}
use mathlib.Core.Path.{◌≡◌, refl, sym, ◌∙◌, ap, subst}
use mathlib.Core.List.{List, [], ◌++◌}
use lib.ListN.{length, take, length-append}
use Rattle.io.specs.Counts.{IsPrefixLen}
use Rattle.printing.specs.Longest.{Whole}
use Rattle.printing.proofs.AppendLaws.{as_text}
use Rattle.printing.proofs.LongestLaws.{whole, whole_within}
use Rattle.words.specs.Steps.{heard_in, spot_after}
use Rattle.typing.specs.declared.State.{State}
use Rattle.typing.specs.declared.Reader.{Reader}
use Rattle.typing.specs.Steps.{start, Bounded, memory, memory_after}
use Rattle.std.specs.Prelude.{Result}
use Rattle.typed.specs.declared.Faulty.{Faulty}
use Rattle.typed.specs.Answered.{kept_text, end_in, Answered}
use Rattle.typed.specs.Places.{PlaceAnswered}
use Rattle.typed.proofs.AnswerLaws.{answer_fits}
use Rattle.texts.specs.Behind.{Empty, BehindText}
use Rattle.texts.proofs.TextLaws.{behind_none, behind_sized, behind_bounded, behind_more, after_roomy, answer_of_text}
use Rattle.to_bytes.specs.Texts.{Behind, Ended, AnswersText, AnswersPlace}

-- the whole answer, and that it ends within the buffer
module _ {state : State} {numbers old new : List ℕ} {answer : Result ℕ Faulty} (e : Ended state numbers) (room : 4589 ≤ length old)
    (a : Answered state numbers old answer new) where
  whole_kept : Whole old (kept_text state.line state numbers) (end_in answer) new
  whole_kept =
      whole old _ _ _ (omega (arith, answer_fits state.line state numbers (after_roomy e.is) e.counted, room)) a.text_is

  pub answers_text : AnswersText state numbers old answer new
  answers_text =
      record {
        fault_is = λ text places after. a.fault_is ∙ answer_of_text.fault_is text state numbers places after;
        text_is = λ text places after.
            subst (λ (said : List ℕ). Whole old said (end_in answer) new) (answer_of_text.text_is text state numbers places after) whole_kept;
      }

  pub answer_within : end_in answer ≤ length new
  answer_within = whole_within whole_kept

pub answers_place : {state : State} {numbers places old new : List ℕ} {place : ℕ} {answer : Result ℕ Faulty} →
    PlaceAnswered state numbers places place old answer new → AnswersPlace state numbers places place old answer new
answers_place {state} {numbers} {places} {place = place} a =
    record {
      fault_is = λ text after. a.fault_is ∙ answer_of_text.fault_is text state numbers places after;
      text_is = λ text after. as_text a.text_is (answer_of_text.place_is text state numbers places place after);
    }

-- The loop of `read_text`: so many bytes are read.
pub record Sofar (fields numbers places piece : List ℕ) (reader : Reader) (total : ℕ) : Type 0 where
  pub text : List ℕ
  pub long : length text ≡ total
  pub most : total < 576460752303423488 + 65537
  pub room : length piece ≡ 65536
  pub behind : BehindText text reader fields numbers places

pub sofar_none : {reader : Reader} {fields numbers places piece : List ℕ} → reader ≡ start → Empty fields numbers places → length piece ≡ 65536 →
    Sofar fields numbers places piece reader 0
sofar_none p e h = record { text = []; long = refl; most = omega arith; room = h; behind = behind_none p e }

module _ {fields numbers places piece : List ℕ} {reader : Reader} {total : ℕ} (s : Sofar fields numbers places piece reader total) where
  pub sofar_behind : Behind reader fields numbers places
  sofar_behind = record { text = s.text; is = s.behind }

  -- the slices are as long as they were
  pub sofar_fields : {old others spaces : List ℕ} → Empty old others spaces → length fields ≡ length old
  sofar_fields e = (behind_sized s.behind).fields ∙ sym (ap length e.fields_are)

  pub sofar_numbers : {old others spaces : List ℕ} → Empty old others spaces → length numbers ≡ length others
  sofar_numbers e = (behind_sized s.behind).numbers ∙ sym (ap length e.numbers_are)

  pub sofar_places : {old others spaces : List ℕ} → Empty old others spaces → length places ≡ length spaces
  sofar_places e = (behind_sized s.behind).places ∙ sym (ap length e.places_are)

  -- a read of so many bytes more
  pub sofar_bounded : total < 576460752303423488 → (got : List ℕ) (taken : ℕ) → length got ≡ 65536 → IsPrefixLen taken got →
      Bounded reader.state (length (take taken got))
  sofar_bounded h got taken room counts =
      behind_bounded s.behind (length (take taken got)) (omega (arith, s.long, h, room, counts.0, counts.1))

  pub sofar_more : total < 576460752303423488 → (got : List ℕ) (taken : ℕ) → length got ≡ 65536 → IsPrefixLen taken got →
      {next : Reader} {mores others spaces : List ℕ} → next.spot ≡ spot_after reader.spot (take taken got) →
      memory next.state mores others spaces ≡ memory_after (memory reader.state fields numbers places) (heard_in reader.spot (take taken got)) →
      Sofar mores others spaces got next (total + taken)
  sofar_more h got taken room counts p q =
      record {
        text = s.text ++ take taken got;
        long = omega (arith, length-append s.text (take taken got), s.long, counts.1);
        most = omega (arith, h, room, counts.0);
        room = room;
        behind = behind_more s.behind (take taken got) (omega (arith, s.long, h, room, counts.0, counts.1)) p q;
      }
