-- Walking over things of one width that stand end to end in the bytes, each as a slice of its own: what is read in the slice is read in the
-- bytes.
-- Assumes nothing.
use Prim.Native.Nat.{ℕ, ◌+◌, ◌*◌, ◌-◌, ◌≤◌, ◌<◌}
use native.Mathlib.Omega.{arith}
use native.Mathlib.Nat.{add_assoc, mul-le-mul_left}
use native.Mathlib.Decide.{dec_le}
use mathlib.Core.Path.{◌≡◌, sym, ◌∙◌, ap}
use mathlib.Core.List.{List}
use lib.ListN.{length, get_or, take, drop, length-drop, get_or-append}
use Rattle.std.proofs.lemmas.List.{take_all, get_or-drop, drop-drop, drop_at}
use Rattle.tables.specs.declared.layout.Layout.{Layout}
use Rattle.tables.specs.declared.layout.DelayFields.{DelayFields}
use Rattle.tables.specs.declared.layout.DelayFields.TheVariants.{Jitter, Pair}
use Rattle.tables.specs.Layout.{Sound, byte_at, word_at, latest_at, earliest_from, record_from, row_from}
use Rattle.tables.proofs.WalkLaws.{Turn}

-- before thing i of n is taken: `rest` begins with it, and `left` are still to be taken
pub record Ahead (bytes : List ℕ) (start width n size left i : ℕ) (rest : List ℕ) : Type 0 where
  pub sized : size ≡ width
  pub counted : left + i ≡ n
  pub inside : start + width * n ≤ length bytes
  pub here : rest ≡ drop (start + width * i) bytes

pub ahead_first : {bytes rest : List ℕ} {start width n size left : ℕ} → size ≡ width → left ≡ n → start + width * n ≤ length bytes →
    rest ≡ take (length bytes - start) (drop start bytes) → Ahead bytes start width n size left 0 rest
ahead_first {bytes} {rest} {start} {width} sized counted inside begins =
    record {
      sized = sized;
      counted = omega (arith, counted);
      inside = inside;
      here = begins ∙ take_all (length bytes - start) (drop start bytes) (omega (arith, length-drop start bytes)) ∙ ap (λ (at : ℕ). drop at bytes) (let e : start ≡ start + width * 0 = omega arith in e);
    }

module _ {bytes : List ℕ} {start width n size left i : ℕ} {rest : List ℕ} (a : Ahead bytes start width n size left i rest) where
  there : 0 < left → size ≤ length rest
  there some =
      let more : width * (i + 1) ≤ width * n = mul-le-mul_left width (omega (arith, a.counted)) in
      omega (arith, ap length a.here, length-drop (start + width * i) bytes, a.inside, a.sized)

  -- behind the last
  pub all_taken : (0 < left → length rest < size) → i ≡ n
  all_taken none =
      elim (dec_le 1 left) [
        | yes some ↦ absurd (omega (arith, none some, there some))
        | no past ↦ omega (arith, a.counted, past)
      ]

  module _ {found after : List ℕ} {kept less : ℕ} (t : Turn size left rest found kept less after) where
    pub found_long : length found ≡ width
    found_long = t.long ∙ a.sized

    byte_is : (k : ℕ) → k < width → byte_at found k ≡ byte_at bytes (start + width * i + k)
    byte_is k h =
        sym (get_or-append found after 0 k (omega (arith, found_long)))
        ∙ ap (λ (xs : List ℕ). get_or xs k 0) (sym t.cut ∙ a.here)
        ∙ get_or-drop (start + width * i) bytes k 0

    word_is : (k : ℕ) → k + 4 ≤ width → word_at found k ≡ word_at bytes (start + width * i + k)
    word_is k h =
        rw (
          byte_is k (omega arith),
          byte_is (k + 1) (omega arith),
          byte_is (k + 2) (omega arith),
          byte_is (k + 3) (omega arith),
          add_assoc (start + width * i) k 1,
          add_assoc (start + width * i) k 2,
          add_assoc (start + width * i) k 3,
        )

    latest_same : (delays : DelayFields) → latest_at delays + 4 ≤ width →
        word_at found (0 + latest_at delays) ≡ word_at bytes (start + width * i + latest_at delays)
    latest_same Jitter h = word_is 13 h
    latest_same Pair h = word_is 17 h

    earliest_same : (delays : DelayFields) → 17 ≤ width → earliest_from delays found 0 ≡ earliest_from delays bytes (start + width * i)
    earliest_same Jitter h = omega arith
    earliest_same Pair h = word_is 13 h

    pub record_same : {layout : Layout} → Sound layout → width ≡ layout.size →
        record_from layout found 0 ≡ record_from layout bytes (start + width * i)
    record_same {layout} sound e =
        let fields : 17 ≤ width = omega (arith, e, sound.fields) in
        rw (
          byte_is 0 (omega arith),
          word_is 1 (omega arith),
          word_is 5 (omega arith),
          word_is 9 (omega arith),
          earliest_same layout.delays fields,
          latest_same layout.delays (omega (arith, e, sound.latest_inside)),
        )

    pub row_same : 6 ≤ width → row_from found 0 ≡ row_from bytes (start + width * i)
    row_same h = rw (byte_is 0 (omega arith), byte_is 1 (omega arith), word_is 2 (omega arith))

    pub ahead_more : {next : ℕ} → next ≡ i + 1 → Ahead bytes start width n kept less next after
    ahead_more e =
        rw e
        (record {
          sized = t.same ∙ a.sized;
          counted = omega (arith, a.counted, t.taken);
          inside = a.inside;
          here =
              sym (drop_at found after width found_long)
              ∙ ap (drop width) (sym t.cut ∙ a.here)
              ∙ drop-drop width (start + width * i) bytes
              ∙ ap (λ (at : ℕ). drop at bytes) (let next_start : start + width * i + width ≡ start + width * (i + 1) = omega arith in next_start);
        })
