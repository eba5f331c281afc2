-- A text is unreadable where it has a fault, and only there: a walk through the text, byte by byte.
-- Assumes nothing.
use Prim.Native.Nat.{ℕ, zero, suc, ◌+◌, ◌-◌, ◌*◌, ◌≤◌, ◌<◌}
use native.Mathlib.Nat.{add-suc}
use native.Mathlib.Omega.{arith}
use mathlib.Core.Path.{◌≡◌, refl, sym, ◌∙◌, ap, subst}
use mathlib.Core.Bool.{true, false}
use mathlib.Core.Logic.{◌⊎◌, inl, inr}
use mathlib.Core.List.{List, [], ◌∷◌, ◌++◌, append-nil}
use lib.Dec.{leb, eqb}
use lib.ListN.{length, get_or, take, drop, take-append-drop, length-drop}
use lib.Seq.{append_snoc, take-suc, take-length, drop-cons, get_or-drop}
use borrow.Author.Tests.{leb-true, leb-false, ne_eqb}
use Rattle.model.proofs.Tests.{bool?, clash, both_true, both_pass, either_true, either_right}
use Rattle.scanning.specs.declared.State.{State}
use Rattle.scanning.specs.declared.State.TheVariants.{Outside, Inside, Stuck}
use Rattle.scanning.specs.Reading.{numbers, unreadable, largest, is_digit, is_separator, outside, inside, reading_of}
use Rattle.scanning.specs.Read.{place_at}
use Rattle.scanning.specs.Steps.{after_of, ended_by, with_value}
use Rattle.scanning.specs.Faults.{digits_only, with_digits, bytes_from, may_begin, Foreign, TooLarge, Fault, UnreadableMeans}
use Rattle.scanning.proofs.ByteLaws.{digit_separates_not}
use Rattle.scanning.proofs.StepLaws.{prepend_all, prepend_append, prepend_none, prepend_stuck, onward, end_of, onward_end, onward_step}
use Rattle.scanning.proofs.BackLaws.{outside_digit}

abbrev Readable : List ℕ → Type 0
Readable text = (values : List ℕ) × (reading_of text ≡ numbers values)

-- one byte more behind digits
digits_more : (bytes : List ℕ) (byte : ℕ) → digits_only bytes ≡ true → is_digit byte ≡ true → digits_only (bytes ++ (byte ∷ [])) ≡ true
unfolding digits_only
digits_more [] byte p q = both_pass q refl
digits_more (first ∷ bytes) byte p q =
    let tests = both_true (is_digit first) (digits_only bytes) p in
    both_pass tests.0 (digits_more bytes byte tests.1 q)

value_more : (value : ℕ) (bytes : List ℕ) (byte : ℕ) → with_digits value (bytes ++ (byte ∷ [])) ≡ 10 * with_digits value bytes + (byte - 48)
unfolding with_digits
value_more value [] byte = refl
value_more value (first ∷ bytes) byte = value_more (10 * value + (first - 48)) bytes byte

-- a number from `start` to `at`, with what is known of it
record Number (text : List ℕ) (at start value : ℕ) : Type 0 where
  count : ℕ
  here : at ≡ start + count
  some : 0 < count
  begins : may_begin text start ≡ true
  digits : digits_only (bytes_from text start count) ≡ true
  value_is : value ≡ with_digits 0 (bytes_from text start count)
  last : is_digit (get_or text (at - 1) 0) ≡ true
  readable : Readable (take start text)

-- what is known in a state
Before : List ℕ → ℕ → State → Type 0
Before text at Outside = may_begin text at ≡ true
Before text at (Inside start value) = Number text at start.0 value
Before text at (Stuck place) = Fault text place.0

record Walk (text : List ℕ) (at : ℕ) : Type 0 where
  state : State
  found : List ℕ
  reach : (more : List ℕ) → reading_of (take at text ++ more) ≡ prepend_all found (onward state at more)
  before : Before text at state

-- bytes from a place on, one more
bytes_more : (text : List ℕ) (start count : ℕ) → start + count < length text →
    bytes_from text start (suc count) ≡ bytes_from text start count ++ (get_or text (start + count) 0 ∷ [])
bytes_more text start count h =
    take-suc (drop start text) count 0 (omega (arith, length-drop start text))
    ∙ ap (λ (byte : ℕ). take count (drop start text) ++ (byte ∷ [])) (get_or-drop start text count 0)

may_begin_behind : (text : List ℕ) (at : ℕ) → is_separator (get_or text at 0) ≡ true → may_begin text (suc at) ≡ true
unfolding may_begin
may_begin_behind text at p = let e : suc at - 1 ≡ at = omega arith in either_right (eqb (suc at) 0) (is_separator (get_or text (suc at - 1) 0)) (rw e p)

-- a walk that is not stuck has come through a text that can be read
readable_at : (text : List ℕ) (at : ℕ) (state : State) (found : List ℕ) →
    ((more : List ℕ) → reading_of (take at text ++ more) ≡ prepend_all found (onward state at more)) → end_of state ≡ numbers [] →
    Readable (take at text)
readable_at text at state found reach e = (
  found ++ ended_by state 32,
  ap reading_of (sym (append-nil (take at text)))
      ∙ reach []
      ∙ ap (prepend_all found) (onward_end state at)
      ∙ sym (prepend_append found (ended_by state 32) (end_of state))
      ∙ ap (prepend_all (found ++ ended_by state 32)) e
      ∙ prepend_none (found ++ ended_by state 32),
)

number_first : (text : List ℕ) (at : ℕ) → at < length text → is_digit (get_or text at 0) ≡ true → may_begin text at ≡ true →
    Readable (take at text) → Number text (suc at) at (get_or text at 0 - 48)
unfolding digits_only with_digits
number_first text at h p begins readable =
    let one : bytes_from text at 1 ≡ get_or text at 0 ∷ [] = ap (take 1) (drop-cons text at 0 h) in
    let back : suc at - 1 ≡ at = omega arith in
    record {
      count = 1;
      here = omega arith;
      some = omega arith;
      begins = begins;
      digits = ap digits_only one ∙ both_pass p refl;
      value_is = omega (arith, ap (with_digits 0) one);
      last = ap (λ (n : ℕ). is_digit (get_or text n 0)) back ∙ p;
      readable = readable;
    }

module _ (text : List ℕ) (at start value : ℕ) (h : at < length text) (n : Number text at start value) (p : is_digit (get_or text at 0) ≡ true) where
  more_bytes : bytes_from text start (suc n.count) ≡ bytes_from text start n.count ++ (get_or text at 0 ∷ [])
  more_bytes =
      bytes_more text start n.count (omega (arith, n.here))
      ∙ ap (λ (k : ℕ). bytes_from text start n.count ++ (get_or text k 0 ∷ [])) (sym n.here)

  more_digits : digits_only (bytes_from text start (suc n.count)) ≡ true
  more_digits = ap digits_only more_bytes ∙ digits_more (bytes_from text start n.count) (get_or text at 0) n.digits p

  more_value : 10 * value + (get_or text at 0 - 48) ≡ with_digits 0 (bytes_from text start (suc n.count))
  more_value = omega (arith, n.value_is, ap (with_digits 0) more_bytes, value_more 0 (bytes_from text start n.count) (get_or text at 0))

  number_more : Number text (suc at) start (10 * value + (get_or text at 0 - 48))
  number_more =
      let back : suc at - 1 ≡ at = omega arith in
      record {
        count = suc n.count;
        here = omega (arith, n.here, add-suc start n.count);
        some = omega arith;
        begins = n.begins;
        digits = more_digits;
        value_is = more_value;
        last = ap (λ (k : ℕ). is_digit (get_or text k 0)) back ∙ p;
        readable = n.readable;
      }

  number_large : largest < 10 * value + (get_or text at 0 - 48) → Fault text start
  number_large large =
      record {
        before = n.readable;
        here =
            inr (
              suc n.count,
              record {
                within = omega (arith, n.here, add-suc start n.count);
                begins = n.begins;
                digits = more_digits;
                large = omega (arith, more_value);
              },
            );
      }

-- one byte more
before_step : (text : List ℕ) (at : ℕ) (state : State) → at < length text → (end_of state ≡ numbers [] → Readable (take at text)) →
    Before text at state → Before text (suc at) (after_of state (place_at at) (get_or text at 0))
unfolding Before with_value
before_step text at Outside h readable before =
    elim (bool? (is_digit (get_or text at 0))) [
      | inl p ↦ rw p (number_first text at h p before (readable refl))
      | inr p ↦
          elim (bool? (is_separator (get_or text at 0))) [
            | inl q ↦ rw (p, q) (may_begin_behind text at q)
            | inr q ↦ rw (p, q) (record { before = readable refl; here = inl (record { within = h; no_digit = p; no_separator = q }) })
          ]
    ]
before_step text at (Inside start value) h readable before =
    elim (bool? (is_digit (get_or text at 0))) [
      | inl p ↦
          elim (bool? (leb (10 * value + (get_or text at 0 - 48)) largest)) [
            | inl q ↦ rw (p, q) (number_more text at start.0 value h before p)
            | inr q ↦ rw (p, q) (number_large text at start.0 value h before p (leb-false (10 * value + (get_or text at 0 - 48)) largest q))
          ]
      | inr p ↦
          elim (bool? (is_separator (get_or text at 0))) [
            | inl q ↦ rw (p, q) (may_begin_behind text at q)
            | inr q ↦ rw (p, q) (record { before = readable refl; here = inl (record { within = h; no_digit = p; no_separator = q }) })
          ]
    ]
before_step text at (Stuck place) h readable before = before

walk : (text : List ℕ) (at : ℕ) → at ≤ length text → Walk text at
unfolding Before may_begin onward prepend_all
walk text zero h = record { state = Outside; found = []; reach = λ more. refl; before = refl }
walk text (suc at) h = onto (walk text at (omega arith))
  where
    onto : Walk text at → Walk text (suc at)
    onto w =
        let byte = get_or text at 0 in
        record {
          state = after_of w.state (place_at at) byte;
          found = w.found ++ ended_by w.state byte;
          reach = λ more.
              ap (λ (xs : List ℕ). reading_of (xs ++ more)) (take-suc text at 0 (omega arith))
              ∙ ap reading_of (append_snoc (take at text) byte more)
              ∙ w.reach (byte ∷ more)
              ∙ ap (prepend_all w.found) (onward_step w.state at byte more)
              ∙ sym (prepend_append w.found (ended_by w.state byte) (onward (after_of w.state (place_at at) byte) (suc at) more));
          before = before_step text at w.state (omega arith) (readable_at text at w.state w.found w.reach) w.before;
        }

-- a list of numbers is not unreadable
differ : {values : List ℕ} {place : ℕ} → numbers values ≡ unreadable place → ⊥
differ e = let z : ◌≡◌ {A = ℕ} 0 1 = cc in omega arith

-- what the walk says of the whole text, and of the text before a place
told_at : (text : List ℕ) (place : ℕ) (state : State) (found : List ℕ) → prepend_all found (onward state (length text) []) ≡ unreadable place →
    Before text (length text) state → Fault text place
unfolding Before onward prepend_all
told_at text place Outside found e before =
    absurd (differ (sym (prepend_none found) ∙ ap (prepend_all found) (sym (onward_end Outside (length text))) ∙ e))
told_at text place (Inside start value) found e before =
    absurd
    (differ
    (sym (prepend_none (found ++ ended_by (Inside start value) 32))
    ∙ prepend_append found (ended_by (Inside start value) 32) (numbers [])
    ∙ ap (prepend_all found) (sym (onward_end (Inside start value) (length text)))
    ∙ e))
told_at text place (Stuck at) found e before =
    let same : unreadable at.0 ≡ unreadable place = sym (prepend_stuck found at.0) ∙ e in
    let here : at.0 ≡ place = cc in
    subst (Fault text) here before

fault_told : (text : List ℕ) (place : ℕ) → reading_of text ≡ unreadable place → Fault text place
fault_told text place e =
    let w = walk text (length text) (omega arith) in
    told_at text place w.state w.found
    (sym (w.reach []) ∙ ap reading_of (append-nil (take (length text) text) ∙ take-length text) ∙ e)
    w.before

fault_within : (text : List ℕ) (place : ℕ) → Fault text place → place < length text
unfolding with_digits
fault_within text place f = go f.here
  where
    go : Foreign text place ⊎ ((count : ℕ) × TooLarge text place count) → place < length text
    go (inl foreign) = foreign.within
    go (inr (zero, t)) = absurd (omega (arith, t.large))
    go (inr (suc count, t)) = omega (arith, t.within, add-suc place count)

-- digits that make a number too large
too_large : (bytes : List ℕ) (at start value : ℕ) (rest : List ℕ) → digits_only bytes ≡ true → value ≤ largest →
    largest < with_digits value bytes → inside at start value (bytes ++ rest) ≡ unreadable start
unfolding outside digits_only with_digits
too_large [] at start value rest p fits large = absurd (omega arith)
too_large (byte ∷ bytes) at start value rest p fits large =
    let tests = both_true (is_digit byte) (digits_only bytes) p in
    elim (bool? (leb (10 * value + (byte - 48)) largest)) [
      | inl q ↦
          rw (tests.0, q)
          (too_large bytes (suc at) start (10 * value + (byte - 48)) rest tests.1 (leb-true (10 * value + (byte - 48)) largest q) large)
      | inr q ↦ rw (tests.0, q)
    ]

too_large_begun : (bytes : List ℕ) (at : ℕ) (rest : List ℕ) → digits_only bytes ≡ true → largest < with_digits 0 bytes →
    outside at (bytes ++ rest) ≡ unreadable at
unfolding digits_only with_digits
too_large_begun [] at rest p large = absurd (omega arith)
too_large_begun (byte ∷ bytes) at rest p large =
    outside_digit at byte (bytes ++ rest) (both_true (is_digit byte) (digits_only bytes) p).0
    ∙ too_large (byte ∷ bytes) at at 0 rest p (omega arith) large

-- what a byte that can't be read does to the rest, and what a number that is too large does
foreign_onward : (text : List ℕ) (at : ℕ) (state : State) (rest : List ℕ) → end_of state ≡ numbers [] → Foreign text at →
    onward state at (get_or text at 0 ∷ rest) ≡ unreadable at
unfolding outside onward
foreign_onward text at Outside rest e f = rw (f.no_digit, f.no_separator)
foreign_onward text at (Inside start value) rest e f = rw (f.no_digit, f.no_separator)
foreign_onward text at (Stuck place) rest e f = absurd (differ (sym e))

large_onward : (text : List ℕ) (at : ℕ) (state : State) (count : ℕ) → end_of state ≡ numbers [] → Before text at state →
    TooLarge text at count → onward state at (drop at text) ≡ unreadable at
unfolding onward Before may_begin
large_onward text at Outside count e before t =
    ap (outside at) (sym (take-append-drop count (drop at text)))
    ∙ too_large_begun (bytes_from text at count) at (drop count (drop at text)) t.digits t.large
large_onward text at (Inside start value) count e before t =
    let not_first : eqb at 0 ≡ false = ne_eqb at 0 (λ z. omega (arith, before.here, before.some)) in
    let behind : is_separator (get_or text (at - 1) 0) ≡ true = either_true (eqb at 0) (is_separator (get_or text (at - 1) 0)) t.begins not_first in
    absurd (clash (is_separator (get_or text (at - 1) 0)) behind (digit_separates_not (get_or text (at - 1) 0) before.last))
large_onward text at (Stuck place) count e before t = absurd (differ (sym e))

-- a text that can be read is in no stuck state
not_stuck : (state : State) (at : ℕ) (found values : List ℕ) → prepend_all found (onward state at []) ≡ numbers values → end_of state ≡ numbers []
unfolding onward
not_stuck Outside at found values e = refl
not_stuck (Inside start value) at found values e = refl
not_stuck (Stuck place) at found values e = absurd (differ (sym e ∙ prepend_stuck found place.0))

all_told_law : (text : List ℕ) (place : ℕ) → Fault text place → reading_of text ≡ unreadable place
all_told_law text place f =
    ap reading_of (sym (take-append-drop place text))
    ∙ w.reach (drop place text)
    ∙ ap (prepend_all w.found) (go f.here)
    ∙ prepend_stuck w.found place
  where
    w : Walk text place
    w = walk text place (omega (arith, fault_within text place f))

    free : end_of w.state ≡ numbers []
    free =
        not_stuck w.state place w.found f.before.0
        (sym (w.reach []) ∙ ap reading_of (append-nil (take place text)) ∙ f.before.1)

    go : Foreign text place ⊎ ((count : ℕ) × TooLarge text place count) → onward w.state place (drop place text) ≡ unreadable place
    go (inl foreign) =
        ap (onward w.state place) (drop-cons text place 0 foreign.within)
        ∙ foreign_onward text place w.state (drop (suc place) text) free foreign
    go (inr (count, t)) = large_onward text place w.state count free w.before t

pub unreadable_means : UnreadableMeans
unreadable_means =
    record {
      told = fault_told;
      within = λ text place e. fault_within text place (fault_told text place e);
      all_told = all_told_law;
    }
