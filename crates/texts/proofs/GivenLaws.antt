-- What the entries give is what the text is read as, and nothing else is.
-- Assumes nothing.
use Prim.Native.Nat.{ℕ, ◌≤◌, ◌<◌}
use native.Mathlib.Omega.{arith}
use mathlib.Core.Path.{◌≡◌, refl, sym, ◌∙◌, ap, subst}
use mathlib.Core.Bool.{Bool}
use mathlib.Core.Logic.{inl, inr}
use mathlib.Core.List.{List}
use lib.ListN.{length}
use Rattle.model.specs.Choice.{on}
use Rattle.model.proofs.Tests.{ltb?}
use Rattle.printing.specs.Appended.{Appended}
use Rattle.printing.proofs.AppendLaws.{no_second_text, as_text}
use Rattle.typing.specs.declared.State.{State}
use Rattle.typing.specs.Reading.{Reading, given, faulty, reading_of}
use Rattle.typed.specs.declared.Faulty as fault
use Rattle.typed.specs.Answered.{Answered, is_faulty, end_in, says_faulty}
use Rattle.typed.specs.Places.{PlaceAnswered}
use Rattle.std.specs.Prelude.{Result, Ok, Err}
use Rattle.texts.specs.declared.Unread.{Unread}
use Rattle.texts.specs.declared.Unread.TheVariants.{Faulty, TooLong}
use Rattle.texts.specs.Behind.{AfterText}
use Rattle.texts.specs.Given.{most_text, kind_of, kind_for, end_of, GivenFor, TextGiven, PlaceGiven, NoSecondGiven}
use Rattle.texts.proofs.TextLaws.{answer_of_text}

kind_is : (reading : Reading) → on (is_faulty reading) 1 ≡ kind_for reading
kind_is (given version typed) = refl
kind_is (faulty line fault) = refl

-- an answer made of the text's own line
given_for : {text said old new : List ℕ} {result : Result ℕ Unread} (answer : Result ℕ fault.Faulty) → length text < most_text →
    (kind_of result ≡ on (says_faulty answer) 1) × (end_of result ≡ end_in answer) → says_faulty answer ≡ is_faulty (reading_of text) →
    Appended old 0 said (end_in answer) new → GivenFor text said old result new
given_for {text} {said} {old} {new} answer l g f a =
    record {
      short = λ h. (g.0 ∙ ap (λ (wrong : Bool). on wrong 1) f ∙ kind_is (reading_of text), subst (λ (end : ℕ). Appended old 0 said end new) (sym g.1) a);
      long = λ h. absurd (omega (arith, l, h));
    }

pub text_given : {text numbers places old new : List ℕ} {state : State} {result : Result ℕ Unread} {answer : Result ℕ fault.Faulty} → length text < most_text →
    AfterText text state numbers places → (kind_of result ≡ on (says_faulty answer) 1) × (end_of result ≡ end_in answer) →
    Answered state numbers old answer new → TextGiven text old result new
text_given {text} {numbers} {places} {state = state} {answer = answer} l after g a =
    given_for answer l g (a.fault_is ∙ answer_of_text.fault_is text state numbers places after)
    (as_text a.text_is (answer_of_text.text_is text state numbers places after))

pub place_given : {text numbers places old new : List ℕ} {place : ℕ} {state : State} {result : Result ℕ Unread} {answer : Result ℕ fault.Faulty} → length text < most_text →
    AfterText text state numbers places → (kind_of result ≡ on (says_faulty answer) 1) × (end_of result ≡ end_in answer) →
    PlaceAnswered state numbers places place old answer new → PlaceGiven text place old result new
place_given {text} {numbers} {places} {place = place} {state = state} {answer = answer} l after g a =
    given_for answer l g (a.fault_is ∙ answer_of_text.fault_is text state numbers places after)
    (as_text a.text_is (answer_of_text.place_is text state numbers places place after))

-- a text that is too long
pub too_long : {text said old : List ℕ} → most_text ≤ length text → GivenFor text said old (Err TooLong) old
too_long h = record { short = λ l. absurd (omega (arith, l, h)); long = λ l. (refl, refl) }

-- a result is told by which of the three it is and where it ends
told : (result other : Result ℕ Unread) → kind_of result ≡ kind_of other → end_of result ≡ end_of other → result ≡ other
told (Ok end) (Ok last) p q = ap Ok q
told (Ok end) (Err (Faulty last)) p q = absurd (omega (arith, p))
told (Ok end) (Err TooLong) p q = absurd (omega (arith, p))
told (Err (Faulty end)) (Ok last) p q = absurd (omega (arith, p))
told (Err (Faulty end)) (Err (Faulty last)) p q = ap (λ (n : ℕ). Err (Faulty n)) q
told (Err (Faulty end)) (Err TooLong) p q = absurd (omega (arith, p))
told (Err TooLong) (Ok last) p q = absurd (omega (arith, p))
told (Err TooLong) (Err (Faulty last)) p q = absurd (omega (arith, p))
told (Err TooLong) (Err TooLong) p q = refl

ended : (result : Result ℕ Unread) → kind_of result ≡ 2 → end_of result ≡ 0
ended (Ok end) p = absurd (omega (arith, p))
ended (Err (Faulty end)) p = absurd (omega (arith, p))
ended (Err TooLong) p = refl

pub no_second_given : NoSecondGiven
no_second_given text said old result other new another a b =
    elim (ltb? (length text) most_text) [
      | inl h ↦
          let mine = a.short h.1 in
          let yours = b.short h.1 in
          let same = no_second_text old 0 said (end_of result) (end_of other) new another mine.1 yours.1 in
          (told result other (mine.0 ∙ sym yours.0) same.0, same.1)
      | inr h ↦
          let mine = a.long h.1 in
          let yours = b.long h.1 in
          (told result other (mine.0 ∙ sym yours.0) (ended result mine.0 ∙ sym (ended other yours.0)), mine.1 ∙ sym yours.1)
    ]
