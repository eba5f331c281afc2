-- What is kept behind each word, each line and each byte.
-- Assumes nothing.
use Prim.Native.Nat.{ℕ, suc, ◌+◌, ◌-◌, ◌≤◌, ◌<◌}
use native.Mathlib.Omega.{arith}
use native.Mathlib.Numerals.{add-one}
use mathlib.Core.Path.{◌≡◌, refl, sym, ◌∙◌, ap}
use mathlib.Core.Bool.{Bool, true, false}
use mathlib.Core.Logic.{inl, inr}
use mathlib.Core.List.{List, [], ◌∷◌, ◌++◌, append-nil}
use lib.Dec.{eqb}
use lib.ListN.{length, take, get_or, length-set}
use lib.Seq.{sets, take-suc, take_all, length-sets}
use Rattle.model.specs.Choice.{pick}
use Rattle.model.proofs.Tests.{bool?}
use Rattle.words.specs.declared.Spot.{Spot}
use Rattle.words.specs.Words.{Event, word, line_end}
use Rattle.words.specs.Steps.{begun, settled_by, ends_word, word_by, line_by, heard_by, spot_by, heard_in, spot_after}
use Rattle.words.proofs.HeardLaws.{words_heard}
use Rattle.typing.specs.declared.lines.Kind.{Kind}
use Rattle.typing.specs.declared.lines.Kind.TheVariants.{VersionLine, TaskLine, JitterLine, DelaysLine, SectionLine}
use Rattle.typing.specs.declared.lines.Line.{Line}
use Rattle.typing.specs.declared.lines.Line.TheVariants.{Blank, Filling, Wrong}
use Rattle.typing.specs.declared.lines.Counts.{Counts}
use Rattle.typing.specs.declared.State.{State}
use Rattle.typing.specs.declared.Reader.{Reader}
use Rattle.typing.specs.Lines.{fields_after, is_whole, whole_line, ended_line}
use Rattle.typing.specs.Reading.{state_begun, state_heard, counts_with, state_ended, field}
use Rattle.typing.specs.Steps.{start, Bounded, slot_for, size_for, place_slot, numbers_at_end, places_at_end, Memory, memory, memory_by, memory_after}
use Rattle.typing.proofs.LineLaws.{fields_long}

pub begun_is : {spot : Spot} {state : State} → spot ≡ begun → state ≡ state_begun → ◌≡◌ {A = Reader} (record { spot = spot; state = state }) start
begun_is {spot} {state} p q = λ i. record { spot = p i; state = q i }

pub stored_is : (old fields : List ℕ) {at slot size count : ℕ} → at ≡ slot → size ≡ count → sets old at (take size fields) ≡ sets old slot (take count fields)
stored_is old fields {at} {slot} {size} {count} p q =
    ap (λ (n : ℕ). sets old n (take size fields)) p ∙ ap (λ (n : ℕ). sets old slot (take n fields)) q

memory_same : {state other : State} {fields more : List ℕ} {numbers others : List ℕ} {places spaces : List ℕ} → state ≡ other → fields ≡ more →
    numbers ≡ others → places ≡ spaces → memory state fields numbers places ≡ memory other more others spaces
memory_same p q r s = λ i. memory (p i) (q i) (r i) (s i)

pub memory_append : (kept : Memory) (xs ys : List Event) → memory_after kept (xs ++ ys) ≡ memory_after (memory_after kept xs) ys
unfolding memory_after
memory_append kept [] ys = refl
memory_append kept (x ∷ xs) ys = memory_append (memory_by kept x) xs ys

-- a line's end
pub line_ended : (state : State) (fields numbers places : List ℕ) (byte : ℕ) {result : State} {others spaces : List ℕ} → byte ≡ 10 →
    result ≡ state_ended state (field fields 0) → others ≡ numbers_at_end state.line state.counts fields numbers →
    spaces ≡ places_at_end state.line state.counts state.number places →
    memory result fields others spaces ≡ memory_after (memory state fields numbers places) (line_by byte)
unfolding memory_after
line_ended state fields numbers places byte lf p q r = rw lf (memory_same p refl q r)

-- a word, if it ends
word_taken : (ends : Bool) (state : State) (fields numbers places : List ℕ) (spelling amount : ℕ) {heard : State} {more : List ℕ} →
    heard ≡ pick ends (state_heard state spelling amount) state → more ≡ pick ends (fields_after state.line amount fields) fields →
    memory heard more numbers places ≡ memory_after (memory state fields numbers places) (pick ends (word spelling amount ∷ []) [])
unfolding memory_after
word_taken true state fields numbers places spelling amount p q = memory_same p q refl refl
word_taken false state fields numbers places spelling amount p q = memory_same p q refl refl

pub byte_taken : (spot : Spot) (byte : ℕ) (state : State) (fields numbers places : List ℕ) {settled : Spot} {heard result : State} {more others spaces : List ℕ} →
    settled ≡ settled_by spot byte →
    heard ≡ pick (ends_word settled byte) (state_heard state settled.spelling settled.amount) state →
    more ≡ pick (ends_word settled byte) (fields_after state.line settled.amount fields) fields →
    memory result more others spaces ≡ memory_after (memory heard more numbers places) (line_by byte) →
    memory result more others spaces ≡ memory_after (memory state fields numbers places) (heard_by spot byte)
unfolding heard_by
byte_taken spot byte state fields numbers places {settled} e p q r =
    r
    ∙ ap (λ (kept : Memory). memory_after kept (line_by byte))
    (word_taken (ends_word settled byte) state fields numbers places settled.spelling settled.amount p q)
    ∙ sym (memory_append (memory state fields numbers places) (word_by settled byte) (line_by byte))
    ∙ ap (λ (at : Spot). memory_after (memory state fields numbers places) (word_by at byte ++ line_by byte)) e

-- the counts and the line's number grow by one at most with each line
pub bounded_heard : (ends : Bool) (state : State) (spelling amount more : ℕ) {heard : State} → Bounded state more →
    heard ≡ pick ends (state_heard state spelling amount) state → Bounded heard more
unfolding state_heard
bounded_heard true state spelling amount more b p = rw p (record { tasks = b.tasks; sections = b.sections; most = b.most })
bounded_heard false state spelling amount more b p = rw p b

counts_more : (kind : Kind) (first : ℕ) (counts : Counts) (number : ℕ) → counts.tasks ≤ number → counts.sections ≤ number →
    ((counts_with kind first counts).tasks ≤ number + 1) × ((counts_with kind first counts).sections ≤ number + 1)
counts_more VersionLine first counts number p q = (omega (arith, p), omega (arith, q))
counts_more TaskLine first counts number p q = (omega (arith, p), omega (arith, q))
counts_more JitterLine first counts number p q = (omega (arith, p), omega (arith, q))
counts_more DelaysLine first counts number p q = (omega (arith, p), omega (arith, q))
counts_more SectionLine first counts number p q = (omega (arith, p), omega (arith, q))

bounded_ended : (counts : Counts) (line : Line) (number first more : ℕ) →
    Bounded (record { counts = counts; line = line; number = number }) (suc more) →
    Bounded (state_ended (record { counts = counts; line = line; number = number }) first) more
unfolding state_ended ended_line whole_line
bounded_ended counts Blank number first more b =
    record { tasks = omega (arith, b.tasks); sections = omega (arith, b.sections); most = omega (arith, b.most) }
bounded_ended counts (Filling kind count) number first more b =
    elim (bool? (is_whole kind count)) [
      | inl p ↦
          let grown = counts_more kind first counts number b.tasks b.sections in
          rw p (record { tasks = grown.0; sections = grown.1; most = omega (arith, b.most) })
      | inr p ↦ rw p (record { tasks = b.tasks; sections = b.sections; most = omega (arith, b.most) })
    ]
bounded_ended counts (Wrong fault) number first more b =
    record { tasks = b.tasks; sections = b.sections; most = omega (arith, b.most) }

bounded_less : {state : State} {more : ℕ} → Bounded state (suc more) → Bounded state more
bounded_less b = record { tasks = b.tasks; sections = b.sections; most = omega (arith, b.most) }

bounded_line : (kept : Memory) (byte more : ℕ) → Bounded kept.state (suc more) → Bounded (memory_after kept (line_by byte)).state more
unfolding memory_after
bounded_line kept byte more b =
    elim (bool? (eqb byte 10)) [
      | inl p ↦
          rw p (bounded_ended kept.state.counts kept.state.line kept.state.number (field kept.fields 0) more b)
      | inr p ↦ rw p (bounded_less b)
    ]

bounded_word : (kept : Memory) (ends : Bool) (spelling amount more : ℕ) → Bounded kept.state more →
    Bounded (memory_after kept (pick ends (word spelling amount ∷ []) [])).state more
unfolding memory_after
bounded_word kept true spelling amount more b = bounded_heard true kept.state spelling amount more b refl
bounded_word kept false spelling amount more b = b

pub bounded_byte : (kept : Memory) (spot : Spot) (byte more : ℕ) → Bounded kept.state (suc more) →
    Bounded (memory_after kept (heard_by spot byte)).state more
unfolding heard_by
bounded_byte kept spot byte more b =
    rw (memory_append kept (word_by (settled_by spot byte) byte) (line_by byte))
    (bounded_line (memory_after kept (word_by (settled_by spot byte) byte)) byte more
    (bounded_word kept (ends_word (settled_by spot byte) byte) (settled_by spot byte).spelling (settled_by spot byte).amount (suc more) b))

-- the slices keep their lengths
numbers_long : (line : Line) (counts : Counts) (fields numbers : List ℕ) → length (numbers_at_end line counts fields numbers) ≡ length numbers
numbers_long Blank counts fields numbers = refl
numbers_long (Filling kind count) counts fields numbers =
    elim (bool? (is_whole kind count)) [
      | inl p ↦ rw p (length-sets numbers (slot_for kind counts) (take (size_for kind) fields))
      | inr p ↦ rw p
    ]
numbers_long (Wrong fault) counts fields numbers = refl

places_long : (line : Line) (counts : Counts) (number : ℕ) (places : List ℕ) → length (places_at_end line counts number places) ≡ length places
places_long Blank counts number places = refl
places_long (Filling kind count) counts number places =
    elim (bool? (is_whole kind count)) [
      | inl p ↦ rw p (length-set places (place_slot kind counts) number)
      | inr p ↦ rw p
    ]
places_long (Wrong fault) counts number places = refl

-- six fields, and slices as long as before
pub record Sized (many lines : ℕ) (kept : Memory) : Type 0 where
  pub fields : length kept.fields ≡ 6
  pub numbers : length kept.numbers ≡ many
  pub places : length kept.places ≡ lines

pub sized_after : {many lines : ℕ} (kept : Memory) (events : List Event) → Sized many lines kept → Sized many lines (memory_after kept events)
unfolding memory_after
sized_after kept [] s = s
sized_after kept (word spelling amount ∷ events) s =
    sized_after (memory_by kept (word spelling amount)) events
    (record { fields = fields_long kept.state.line amount kept.fields s.fields; numbers = s.numbers; places = s.places })
sized_after kept (line_end ∷ events) s =
    sized_after (memory_by kept line_end) events
    (record {
      fields = s.fields;
      numbers = numbers_long kept.state.line kept.state.counts kept.fields kept.numbers ∙ s.numbers;
      places = places_long kept.state.line kept.state.counts kept.state.number kept.places ∙ s.places;
    })

-- The loop of `go_on`: what the first i bytes of the piece did.
pub record Going (reader : Reader) (piece fields numbers places : List ℕ) (i : ℕ) (next : Reader) (more others spaces : List ℕ) : Type 0 where
  pub most : i ≤ length piece
  pub spot_is : next.spot ≡ spot_after reader.spot (take i piece)
  pub memory_is : memory next.state more others spaces ≡ memory_after (memory reader.state fields numbers places) (heard_in reader.spot (take i piece))
  pub bounded : Bounded next.state (length piece - i)
  pub sized : Sized (length numbers) (length places) (memory next.state more others spaces)

pub going_none : (reader : Reader) (piece fields numbers places : List ℕ) → Bounded reader.state (length piece) → length fields ≡ 6 →
    Going reader piece fields numbers places 0 reader fields numbers places
unfolding heard_in spot_after memory_after
going_none reader piece fields numbers places b six =
    let all : length piece - 0 ≡ length piece = omega arith in
    record {
      most = omega arith;
      spot_is = refl;
      memory_is = refl;
      bounded = rw all b;
      sized = record { fields = six; numbers = refl; places = refl };
    }

module _ {reader : Reader} {piece fields numbers places : List ℕ} {i : ℕ} {next : Reader} {more others spaces : List ℕ} (g : Going reader piece fields numbers places i next more others spaces) where
  pub going_bounded : i < length piece → Bounded next.state 1
  going_bounded h = record { tasks = g.bounded.tasks; sections = g.bounded.sections; most = omega (arith, g.bounded.most) }

  pub going_more : {result : Reader} {mores othermore spacemore : List ℕ} → i < length piece →
      result.spot ≡ spot_by next.spot (get_or piece i 0) →
      memory result.state mores othermore spacemore ≡ memory_after (memory next.state more others spaces) (heard_by next.spot (get_or piece i 0)) →
      Going reader piece fields numbers places (i + 1) result mores othermore spacemore
  unfolding heard_in spot_after
  going_more {result} {mores} {othermore} {spacemore} h e m =
      let taken : take (i + 1) piece ≡ take i piece ++ (get_or piece i 0 ∷ []) = rw (add-one i) (take-suc piece i 0 h) in
      let left : length piece - i ≡ suc (length piece - (i + 1)) = omega arith in
      record {
        most = omega arith;
        spot_is =
            e
            ∙ ap (λ (spot : Spot). spot_by spot (get_or piece i 0)) g.spot_is
            ∙ sym (words_heard.spots reader.spot (take i piece) (get_or piece i 0 ∷ []))
            ∙ ap (spot_after reader.spot) (sym taken);
        memory_is =
            m
            ∙ ap (λ (kept : Memory). memory_after kept (heard_by next.spot (get_or piece i 0))) g.memory_is
            ∙ ap (λ (spot : Spot). memory_after (memory_after (memory reader.state fields numbers places) (heard_in reader.spot (take i piece))) (heard_by spot (get_or piece i 0))) g.spot_is
            ∙ ap (memory_after (memory_after (memory reader.state fields numbers places) (heard_in reader.spot (take i piece)))) (sym (append-nil _))
            ∙ sym (memory_append (memory reader.state fields numbers places) (heard_in reader.spot (take i piece)) _)
            ∙ ap (memory_after (memory reader.state fields numbers places)) (sym (words_heard.joins reader.spot (take i piece) (get_or piece i 0 ∷ [])))
            ∙ ap (λ (xs : List ℕ). memory_after (memory reader.state fields numbers places) (heard_in reader.spot xs)) (sym taken);
        bounded =
            rw (ap (λ (kept : Memory). kept.state) m)
            (bounded_byte (memory next.state more others spaces) next.spot (get_or piece i 0) (length piece - (i + 1)) (rw (← left) g.bounded));
        sized = rw m (sized_after (memory next.state more others spaces) (heard_by next.spot (get_or piece i 0)) g.sized);
      }

  pub going_all : length piece ≤ i →
      (next.spot ≡ spot_after reader.spot piece)
      × (memory next.state more others spaces ≡ memory_after (memory reader.state fields numbers places) (heard_in reader.spot piece))
  going_all h =
      let all : take i piece ≡ piece = take_all i piece h in (
        g.spot_is ∙ ap (spot_after reader.spot) all,
        g.memory_is ∙ ap (λ (xs : List ℕ). memory_after (memory reader.state fields numbers places) (heard_in reader.spot xs)) all,
      )

-- what `take_end` asks for, whether a word ended or not
pub word_bounded : (settled : Spot) (byte : ℕ) (state : State) {heard : State} → Bounded state 1 →
    heard ≡ pick (ends_word settled byte) (state_heard state settled.spelling settled.amount) state → Bounded heard 1
word_bounded settled byte state b p = bounded_heard (ends_word settled byte) state settled.spelling settled.amount 1 b p

fields_picked : (ends : Bool) (line : Line) (amount : ℕ) (fields : List ℕ) → length fields ≡ 6 →
    length (pick ends (fields_after line amount fields) fields) ≡ 6
fields_picked true line amount fields h = fields_long line amount fields h
fields_picked false line amount fields h = h

pub word_fields : (settled : Spot) (byte : ℕ) (line : Line) (fields : List ℕ) {more : List ℕ} → length fields ≡ 6 →
    more ≡ pick (ends_word settled byte) (fields_after line settled.amount fields) fields → length more ≡ 6
word_fields settled byte line fields h p = ap length p ∙ fields_picked (ends_word settled byte) line settled.amount fields h

-- and behind any bytes
pub bounded_piece : (kept : Memory) (spot : Spot) (piece : List ℕ) (more : ℕ) → Bounded kept.state (length piece + more) →
    Bounded (memory_after kept (heard_in spot piece)).state more
unfolding heard_in memory_after
bounded_piece kept spot [] more b =
    let e : 0 + more ≡ more = omega arith in
    rw (← e) b
bounded_piece kept spot (byte ∷ piece) more b =
    let e : suc (length piece) + more ≡ suc (length piece + more) = omega arith in
    rw (memory_append kept (heard_by spot byte) (heard_in (spot_by spot byte) piece))
    (bounded_piece (memory_after kept (heard_by spot byte)) (spot_by spot byte) piece more
    (bounded_byte kept spot byte (length piece + more) (rw (← e) b)))
