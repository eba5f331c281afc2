-- What is known of a text, piece by piece and behind its end.
-- Assumes nothing.
use Prim.Native.Nat.{ℕ, ◌+◌, ◌<◌}
use native.Mathlib.Omega.{arith}
use mathlib.Core.Path.{◌≡◌, refl, sym, ◌∙◌, ap}
use mathlib.Core.List.{List, [], ◌∷◌, ◌++◌, append-nil}
use lib.ListN.{length, length-append}
use Rattle.words.specs.declared.Spot.{Spot}
use Rattle.words.specs.Words.{events_of}
use Rattle.words.specs.Steps.{begun, heard_by, heard_in, spot_after}
use Rattle.words.proofs.HeardLaws.{words_heard}
use Rattle.typing.specs.declared.State.{State}
use Rattle.typing.specs.declared.Reader.{Reader}
use Rattle.typing.specs.Lines.{no_fields}
use Rattle.typing.specs.Reading.{state_begun}
use Rattle.typing.specs.Steps.{start, Bounded, Memory, memory, memory_after}
use Rattle.typing.specs.Kept.{kept_behind, Ready}
use Rattle.typing.proofs.MemoryLaws.{memory_append, bounded_byte, bounded_piece, Sized, sized_after}
use Rattle.typed.specs.Bytes.{Roomy}
use Rattle.typed.proofs.AnswerLaws.{text_answered}
use Rattle.typed.proofs.PlaceLaws.{place_said_right}
use Rattle.texts.specs.Given.{most_text}
use Rattle.texts.specs.Behind.{no_numbers, no_places, Empty, BehindText, AfterText, AnswerOfText}

abbrev pub beginning : Memory
beginning = memory state_begun no_fields no_numbers no_places

ready : Ready no_numbers no_places
ready = record { numbers_long = refl; places_long = refl; no_version = refl }

sized_beginning : Sized 1393 265 beginning
sized_beginning = record { fields = refl; numbers = refl; places = refl }

-- nothing is read yet
pub behind_none : {reader : Reader} {fields numbers places : List ℕ} → reader ≡ start → Empty fields numbers places → BehindText [] reader fields numbers places
unfolding heard_in spot_after memory_after
behind_none p e =
    rw (p, e.fields_are, e.numbers_are, e.places_are) (record { counted = omega arith; spot_is = refl; memory_is = refl })

module _ {text : List ℕ} {reader : Reader} {fields numbers places : List ℕ} (b : BehindText text reader fields numbers places) where
  pub behind_sized : Sized 1393 265 (memory reader.state fields numbers places)
  behind_sized = rw b.memory_is (sized_after beginning (heard_in begun text) sized_beginning)

  pub behind_bounded : (more : ℕ) → length text + more + 1 < 1152921504606846976 → Bounded reader.state more
  behind_bounded more h =
      rw (ap (λ (kept : Memory). kept.state) b.memory_is)
      (bounded_piece beginning begun text more (record { tasks = omega arith; sections = omega arith; most = omega (arith, h) }))

  -- one piece more
  pub behind_more : (piece : List ℕ) {next : Reader} {mores others spaces : List ℕ} → length text + length piece < 1152921504606846970 →
      next.spot ≡ spot_after reader.spot piece →
      memory next.state mores others spaces ≡ memory_after (memory reader.state fields numbers places) (heard_in reader.spot piece) →
      BehindText (text ++ piece) next mores others spaces
  behind_more piece h p q =
      record {
        counted = omega (arith, h, length-append text piece);
        spot_is = p ∙ ap (λ (spot : Spot). spot_after spot piece) b.spot_is ∙ sym (words_heard.spots begun text piece);
        memory_is =
            q
            ∙ ap (λ (kept : Memory). memory_after kept (heard_in reader.spot piece)) b.memory_is
            ∙ ap (λ (spot : Spot). memory_after (memory_after beginning (heard_in begun text)) (heard_in spot piece)) b.spot_is
            ∙ sym (memory_append beginning (heard_in begun text) (heard_in (spot_after begun text) piece))
            ∙ ap (memory_after beginning) (sym (words_heard.joins begun text piece));
      }

  -- the last line's end
  whole_is : {state : State} {mores others spaces : List ℕ} →
      memory state mores others spaces ≡ memory_after (memory reader.state fields numbers places) (heard_by reader.spot 10) →
      memory state mores others spaces ≡ kept_behind no_numbers no_places (events_of text)
  unfolding heard_in
  whole_is q =
      q
      ∙ ap (λ (kept : Memory). memory_after kept (heard_by reader.spot 10)) b.memory_is
      ∙ ap (λ (spot : Spot). memory_after (memory_after beginning (heard_in begun text)) (heard_by spot 10)) b.spot_is
      ∙ ap (memory_after (memory_after beginning (heard_in begun text))) (sym (append-nil (heard_by (spot_after begun text) 10)))
      ∙ sym (memory_append beginning (heard_in begun text) (heard_in (spot_after begun text) (10 ∷ [])))
      ∙ ap (memory_after beginning) (sym (words_heard.joins begun text (10 ∷ [])) ∙ words_heard.whole text)

  -- the number of the last line
  pub behind_number : {state : State} {mores others spaces : List ℕ} →
      memory state mores others spaces ≡ memory_after (memory reader.state fields numbers places) (heard_by reader.spot 10) →
      state.number < 18446744073709551616
  behind_number {state} q =
      let bounded : Bounded state 0 =
      rw (ap (λ (kept : Memory). kept.state) q)
      (bounded_byte (memory reader.state fields numbers places) reader.spot 10 0 (behind_bounded 1 (omega (arith, b.counted)))) in
      omega (arith, bounded.most)

  pub behind_after : {state : State} {mores others spaces : List ℕ} →
      memory state mores others spaces ≡ memory_after (memory reader.state fields numbers places) (heard_by reader.spot 10) →
      AfterText text state others spaces
  behind_after q =
      record {
        state_is = ap (λ (kept : Memory). kept.state) (whole_is q);
        numbers_are = ap (λ (kept : Memory). kept.numbers) (whole_is q);
        places_are = ap (λ (kept : Memory). kept.places) (whole_is q);
      }

-- a text in one piece
pub behind_whole : {text : List ℕ} {reader next : Reader} {fields numbers places mores others spaces : List ℕ} →
    reader ≡ start → Empty fields numbers places → length text < most_text → next.spot ≡ spot_after reader.spot text →
    memory next.state mores others spaces ≡ memory_after (memory reader.state fields numbers places) (heard_in reader.spot text) →
    BehindText text next mores others spaces
behind_whole {text} p e h q r = behind_more (behind_none p e) text (omega (arith, h)) q r

-- what is asked behind a whole text
module _ {text : List ℕ} {state : State} {numbers places : List ℕ} (a : AfterText text state numbers places) where
  pub after_roomy : Roomy state.counts
  after_roomy = rw a.state_is (text_answered.roomy no_numbers no_places text ready)

  pub after_long : length numbers ≡ 1393
  after_long = ap length a.numbers_are ∙ text_answered.long no_numbers no_places text ready

  pub after_placed : length places ≡ 265
  after_placed = ap length a.places_are ∙ (sized_after beginning (events_of text) sized_beginning).places

pub answer_of_text : AnswerOfText
answer_of_text =
    record {
      text_is = λ text state numbers places a. rw (a.state_is, a.numbers_are) (text_answered.text_is no_numbers no_places text ready);
      place_is = λ text state numbers places place a. rw (a.state_is, a.numbers_are, a.places_are) (place_said_right.kept no_numbers no_places text place ready);
      fault_is = λ text state numbers places a. rw a.state_is (text_answered.fault_is no_numbers no_places text ready);
    }
