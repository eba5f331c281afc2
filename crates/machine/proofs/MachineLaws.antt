-- What the engine holds: its ready words say of each task whether work is left for it, and their trailing zeros find the first of those.
-- Assumes nothing.
use Prim.Native.Nat.{ℕ, zero, suc, ◌+◌, ◌-◌, ◌*◌, ◌/◌, ◌%◌, ◌^◌, ◌≤◌, ◌<◌, max}
use native.Mathlib.Nat.{add-zero, zero-mul, suc-mul, lt_of_le_of_lt}
use native.Mathlib.Decide.{ℕ_discrete, dec_le}
use native.Mathlib.Omega.{arith}
use mathlib.Core.Path.{◌≡◌, refl, sym, ◌∙◌, ap}
use mathlib.Core.Bool.{Bool, true, false}
use mathlib.Core.Logic.{inl, inr}
use borrow.Author.Tests.{lt-ltb, le-ltb, eq-eqb, ne_eqb}
use lib.Dec.{ltb, eqb, lit<}
use lib.Bits.{bit_and, or_lt, and_le_l}
use Rattle.model.specs.Choice.{both, on}
use Rattle.model.proofs.Tests.{bool?, ltb?, eqb?, on_high, both_fail}
use Rattle.machine.specs.Machine.{State, started, bit_of, bit_at, mask, is_due, left_with, raised, in_word, released, next_place, left_after, ready_after, after, place_served}
use Rattle.machine.proofs.BitLaws.{no_bits, single_small, set_own, set_other, clear_own, clear_other}
use Rattle.machine.proofs.WordLaws.{bit_of_zero, Lowest, lowest_next}

-- a bit is set for each of the n places where work is left, and for no other
pub record Mirrors (n : ℕ) (left : ℕ → ℕ) (ready : ℕ → ℕ) : Type 0 where
  pub bits : (p : ℕ) → bit_at ready p ≡ on (both (ltb p n) (ltb 0 (left p))) 1
  pub small : (w : ℕ) → ready w < 2 ^ 64

-- the first place where work is left
pub record Next (n : ℕ) (left : ℕ → ℕ) (place : ℕ) : Type 0 where
  pub is_place : place < n
  pub has_work : 1 ≤ left place
  pub first : (p : ℕ) → p < place → left p ≡ 0

-- the bit that place p should have, where x ticks of work are left for it
abbrev work_bit : (n p x : ℕ) → ℕ
work_bit n p x = on (both (ltb p n) (ltb 0 x)) 1

work_some : (n p x : ℕ) → p < n → 1 ≤ x → work_bit n p x ≡ 1
work_some n p x h l = rw (lt-ltb p n h, lt-ltb 0 x l)

work_none : (n p x : ℕ) → x ≡ 0 → work_bit n p x ≡ 0
work_none n p x e = rw (le-ltb 0 x (omega arith), both_fail (ltb p n) false refl)

work_past : (n p x : ℕ) → n ≤ p → work_bit n p x ≡ 0
work_past n p x h = rw (le-ltb p n h)

-- as much work, the same bit
work_same : (n p x y : ℕ) → (p < n → x ≡ y) → work_bit n p x ≡ work_bit n p y
work_same n p x y e =
    elim (ltb? p n) [ inl h ↦ ap (work_bit n p) (e h.1) | inr h ↦ work_past n p x h.1 ∙ sym (work_past n p y h.1) ]

-- what is left at the place that is served, and at another
pub after_own : (left : ℕ → ℕ) (q p : ℕ) → p ≡ q → left_after left q p ≡ left p - 1
after_own left q p e = rw (eq-eqb p q e)

pub after_other : (left : ℕ → ℕ) (q p : ℕ) → ¬ (p ≡ q) → left_after left q p ≡ left p
after_other left q p d = rw (ne_eqb p q d) (omega arith)

-- a word without a bit stays so
pub still_none : (last : Bool) (q : ℕ) (ready : ℕ → ℕ) (w : ℕ) → ready w ≡ 0 → ready_after last q ready w ≡ 0
still_none last q ready w e =
    elim (bool? (both last (eqb w (q / 64)))) [ inl h ↦ rw (h, e) | inr h ↦ rw (h, e) ]

-- and a word other than that of the place
pub other_word : (last : Bool) (q : ℕ) (ready : ℕ → ℕ) (w : ℕ) → ¬ (w ≡ q / 64) → ready_after last q ready w ≡ ready w
other_word last q ready w d = rw (ne_eqb w (q / 64) d, both_fail last false refl)

-- the words after a tick: where it takes the last of the work of place q, the word of q loses a bit
last_own : (q : ℕ) (ready : ℕ → ℕ) (w : ℕ) → w ≡ q / 64 → ready_after true q ready w ≡ bit_and (ready w) (18446744073709551615 - mask q)
last_own q ready w e = rw (eq-eqb w (q / 64) e)

module _ (n : ℕ) (few : n ≤ 256) (left : ℕ → ℕ) (ready : ℕ → ℕ) (mirrors : Mirrors n left ready) where
  -- what a bit says
  bit_set : (p : ℕ) → bit_at ready p ≡ 1 → (p < n) × (1 ≤ left p)
  bit_set p e =
      elim (dec_le n p) [
        | yes h ↦ absurd (omega (arith, mirrors.bits p, work_past n p (left p) h))
        | no h ↦ elim (ℕ_discrete (left p) 0) [
          | yes z ↦ absurd (omega (arith, mirrors.bits p, work_none n p (left p) z))
          | no z ↦ (omega arith, omega arith)
        ]
      ]

  bit_clear : (p : ℕ) → p < n → bit_at ready p ≡ 0 → left p ≡ 0
  bit_clear p h e =
      elim (ℕ_discrete (left p) 0) [
        | yes z ↦ z
        | no z ↦ absurd (omega (arith, mirrors.bits p, work_some n p (left p) h (omega arith)))
      ]

  lowest : Lowest ready (next_place ready)
  lowest = lowest_next ready mirrors.small

  -- without a bit no work is left
  none_left : next_place ready ≡ 256 → (p : ℕ) → p < n → left p ≡ 0
  none_left e p h = bit_clear p h (lowest.none_before p (omega arith))

  -- else the trailing zeros give the first place where work is left
  next_found : ¬ (next_place ready ≡ 256) → Next n left (next_place ready)
  next_found some =
      let own = bit_set (next_place ready) (lowest.found (omega (arith, lowest.within))) in
      record {
        is_place = own.0;
        has_work = own.1;
        first = λ p l. bit_clear p (omega (arith, own.0)) (lowest.none_before p l);
      }

  -- and without work there is no bit
  none_ready : ((p : ℕ) → p < n → left p ≡ 0) → next_place ready ≡ 256
  none_ready e =
      elim (ℕ_discrete (next_place ready) 256) [
        | yes z ↦ z
        | no d ↦ let next = next_found d in absurd (omega (arith, next.has_work, e (next_place ready) next.is_place))
      ]

  -- a word none of whose bits is set is 0
  no_word : (w : ℕ) → ((b : ℕ) → b < 64 → bit_at ready (64 * w + b) ≡ 0) → ready w ≡ 0
  no_word w none =
      no_bits 64 (ready w) (mirrors.small w) (λ b l.
      let at_word : (64 * w + b) / 64 ≡ w = omega arith in
      let at_bit : (64 * w + b) % 64 ≡ b = omega arith in
      rw (at_word, at_bit) at (none b l))

  -- so is a word of no task
  empty_word : (w : ℕ) → n ≤ 64 * w → ready w ≡ 0
  empty_word w h = no_word w (λ b l. mirrors.bits (64 * w + b) ∙ work_past n (64 * w + b) (left (64 * w + b)) (omega arith))

  -- a tick's service keeps words and work together: where there is nothing to serve,
  served_none : (last : Bool) (q : ℕ) → next_place ready ≡ 256 → n ≤ q → Mirrors n (left_after left q) (ready_after last q ready)
  served_none last q e past =
      record {
        bits = λ p. elim (dec_le n p) [
          | yes h ↦ unchanged p ∙ sym (work_past n p (left_after left q p) h)
          | no h ↦
              unchanged p
              ∙ sym (work_none n p (left_after left q p) (omega (arith, none_left e p (omega arith), after_other left q p (omega arith))))
        ];
        small = λ w. rw (still_none last q ready w (zero_word w)) (lit< tt);
      }
    where
      all_none : (p : ℕ) → bit_at ready p ≡ 0
      all_none p = mirrors.bits p ∙ elim (dec_le n p) [ yes h ↦ work_past n p (left p) h | no h ↦ work_none n p (left p) (none_left e p (omega arith)) ]

      zero_word : (w : ℕ) → ready w ≡ 0
      zero_word w = no_word w (λ b l. all_none (64 * w + b))

      unchanged : (p : ℕ) → bit_at (ready_after last q ready) p ≡ 0
      unchanged p = ap (λ (word : ℕ). bit_of word (p % 64)) (still_none last q ready (p / 64) (zero_word (p / 64))) ∙ bit_of_zero (p % 64)

  module _ (q : ℕ) (is_place : q < n) (has_work : 1 ≤ left q) where
    -- where it takes the last of the work,
    served_last : left q ≡ 1 → Mirrors n (left_after left q) (ready_after true q ready)
    served_last e = record { bits = go; small = low }
      where
        low : (w : ℕ) → ready_after true q ready w < 2 ^ 64
        low w =
            elim (ℕ_discrete w (q / 64)) [
              | yes s ↦ rw (last_own q ready w s) (lt_of_le_of_lt (and_le_l (ready w) (18446744073709551615 - mask q)) (mirrors.small w))
              | no d ↦ rw (other_word true q ready w d) (mirrors.small w)
            ]

        go : (p : ℕ) → bit_at (ready_after true q ready) p ≡ work_bit n p (left_after left q p)
        go p =
            elim (ℕ_discrete (p / 64) (q / 64)) [
              | no d ↦
                  ap (λ (word : ℕ). bit_of word (p % 64)) (other_word true q ready (p / 64) d)
                  ∙ rw (after_other left q p (λ s. d (ap (λ (x : ℕ). x / 64) s))) (mirrors.bits p)
              | yes s ↦
                  ap (λ (word : ℕ). bit_of word (p % 64)) (last_own q ready (p / 64) s)
                  ∙ elim (ℕ_discrete p q) [
                    | yes same ↦
                        clear_own 64 (ready (p / 64)) (q % 64) (p % 64) (omega arith) (ap (λ (x : ℕ). x % 64) same)
                        ∙ sym (work_none n p (left_after left q p) (after_own left q p same ∙ omega (arith, ap left same)))
                    | no other ↦
                        rw (after_other left q p other)
                        (clear_other 64 (ready (p / 64)) (q % 64) (p % 64) (omega arith) (omega arith) (λ bit. other (omega (arith, s, bit)))
                        ∙ mirrors.bits p)
                  ]
            ]

    -- and where some is left
    served_more : ¬ (left q ≡ 1) → Mirrors n (left_after left q) (ready_after false q ready)
    served_more e =
        record {
          bits = λ p. elim (ℕ_discrete p q) [
            | yes s ↦
                mirrors.bits p
                ∙ work_some n p (left p) (omega arith) (omega (arith, ap left s))
                ∙ sym (work_some n p (left_after left q p) (omega arith) (omega (arith, after_own left q p s, ap left s)))
            | no d ↦ rw (after_other left q p d) (mirrors.bits p)
          ];
          small = mirrors.small;
        }

  served_mirrors : Mirrors n (left_after left (next_place ready)) (ready_after (eqb (left (next_place ready)) 1) (next_place ready) ready)
  served_mirrors =
      elim (ℕ_discrete (next_place ready) 256) [
        | yes e ↦ served_none (eqb (left (next_place ready)) 1) (next_place ready) e (omega arith)
        | no d ↦
            let next = next_found d in
            elim (eqb? (left (next_place ready)) 1) [
              | inl e ↦ rw e.0 (served_last (next_place ready) next.is_place next.has_work e.1)
              | inr e ↦ rw e.0 (served_more (next_place ready) next.is_place next.has_work e.1)
            ]
      ]

-- the mask of a task of word w, counted within it
mask_in : (w m : ℕ) → m < 64 → mask (64 * w + m) ≡ 2 ^ m
mask_in w m h =
    let bit : (64 * w + m) % 64 ≡ m = omega arith in
    ap (λ (x : ℕ). 2 ^ x) bit

-- a tick's releases set the bits of the first m tasks of word w that are due
raised_bit : (due : ℕ → ℕ) (t w word m b : ℕ) → m ≤ 64 →
    bit_of (raised due t (64 * w) word m) b ≡ max (bit_of word b) (on (both (ltb b m) (is_due due t (64 * w + b))) 1)
unfolding raised
raised_bit due t w word zero b few = rw (le-ltb b 0 (omega arith)) (omega arith)
raised_bit due t w word (suc m) b few =
    rw (mask_in w m (omega arith)) (elim (ℕ_discrete b m) [
      | yes s ↦ elim (eqb? (due (64 * w + m)) t) [
        | inl e ↦
            rw (e.0, lt-ltb b (suc m) (omega arith), eq-eqb (due (64 * w + b)) t (ap (λ (x : ℕ). due (64 * w + x)) s ∙ e.1))
            (omega (arith, set_own (raised due t (64 * w) word m) m b s))
        | inr e ↦
            rw (e.0, lt-ltb b (suc m) (omega arith), ne_eqb (due (64 * w + b)) t (λ z. e.1 (sym (ap (λ (x : ℕ). due (64 * w + x)) s) ∙ z)))
            (omega (arith, rw (le-ltb b m (omega arith)) at (raised_bit due t w word m b (omega arith))))
      ]
      | no d ↦ rw (same d) (elim (bool? (is_due due t (64 * w + m))) [
        | inl e ↦ rw e (set_other (raised due t (64 * w) word m) m b d ∙ raised_bit due t w word m b (omega arith))
        | inr e ↦ rw e (raised_bit due t w word m b (omega arith))
      ])
    ])
  where
    same : ¬ (b ≡ m) → ltb b (suc m) ≡ ltb b m
    same d =
        elim (ltb? b m) [
          | inl h ↦ lt-ltb b (suc m) (omega arith) ∙ sym h.0
          | inr h ↦ le-ltb b (suc m) (omega arith) ∙ sym h.0
        ]

-- and the word stays one of 64 bits
raised_low : (due : ℕ → ℕ) (t w word m : ℕ) → m ≤ 64 → word < 2 ^ 64 → raised due t (64 * w) word m < 2 ^ 64
unfolding raised
raised_low due t w word zero h l = l
raised_low due t w word (suc m) h l =
    rw (mask_in w m (omega arith)) (elim (bool? (is_due due t (64 * w + m))) [
      | inl e ↦
          rw e
          (or_lt 64 (raised due t (64 * w) word m) (2 ^ m) (raised_low due t w word m (omega arith) l) (single_small 64 m (omega arith)))
      | inr e ↦ rw e (raised_low due t w word m (omega arith) l)
    ])

-- a tick's releases keep words and work together
released_mirrors : (cost : ℕ → ℕ) (n : ℕ) → ((p : ℕ) → p < n → 1 ≤ cost p) →
    (due : ℕ → ℕ) (t : ℕ) (left : ℕ → ℕ) (ready : ℕ → ℕ) → Mirrors n left ready →
    Mirrors n (left_with cost due t left) (λ w. raised due t (64 * w) (ready w) (in_word n w))
released_mirrors cost n cost_low due t left ready mirrors =
    record {
      bits = λ p.
          let place : 64 * (p / 64) + p % 64 ≡ p = omega arith in
          raised_bit due t (p / 64) (ready (p / 64)) (in_word n (p / 64)) (p % 64) (omega arith)
          ∙ ap (λ (x : ℕ). max (bit_at ready p) (on (both (ltb (p % 64) (in_word n (p / 64))) (is_due due t x)) 1)) place
          ∙ rw (inside p) (go p);
      small = λ w. raised_low due t w (ready w) (in_word n w) (omega arith) (mirrors.small w);
    }
  where
    inside : (p : ℕ) → ltb (p % 64) (in_word n (p / 64)) ≡ ltb p n
    inside p =
        elim (ltb? p n) [
          | inl h ↦ lt-ltb (p % 64) (in_word n (p / 64)) (omega arith) ∙ sym h.0
          | inr h ↦ le-ltb (p % 64) (in_word n (p / 64)) (omega arith) ∙ sym h.0
        ]

    go : (p : ℕ) → max (bit_at ready p) (on (both (ltb p n) (is_due due t p)) 1) ≡ work_bit n p (left_with cost due t left p)
    go p =
        elim (ltb? p n) [
          | inr h ↦ rw (mirrors.bits p, h.0)
          | inl h ↦ elim (bool? (is_due due t p)) [
            | inl e ↦
                rw (mirrors.bits p, h.0, e, lt-ltb 0 (left p + cost p) (omega (arith, cost_low p h.1)))
                (omega (arith, on_high (ltb 0 (left p)) 1))
            | inr e ↦ rw (mirrors.bits p, h.0, e, add-zero) (omega arith)
          ]
        ]

module _ (period cost : ℕ → ℕ) (n : ℕ) where
  -- what the engine holds in tick t, once that tick's releases are made
  abbrev pub in_tick : ℕ → State
  in_tick t = released period cost n t (after period cost n t)

  -- before the first tick
  pub first_held : after period cost n 0 ≡ started
  unfolding after
  first_held = refl

  -- from tick to tick
  pub left_step : (t p : ℕ) → (after period cost n (suc t)).left p ≡ left_after (in_tick t).left (place_served period cost n t) p
  unfolding after
  left_step t p = refl

  -- no more work is left than was released
  pub left_high_law : ((p : ℕ) → p < n → cost p ≤ 1000000) → (t p : ℕ) → p < n → (after period cost n t).left p ≤ 1000000 * t
  unfolding after
  left_high_law high zero p h = omega arith
  left_high_law high (suc t) p h =
      omega (
        arith,
        left_high_law high t p h,
        high p h,
        on_high (is_due (after period cost n t).due t p) (cost p),
      )

  -- the next release is the first multiple of the period that is not before t
  pub due_is_law : ((p : ℕ) → p < n → 1 ≤ period p) → (t p : ℕ) → p < n →
      (k : ℕ) × ((after period cost n t).due p ≡ k * period p) × (t ≤ (after period cost n t).due p)
      × ((after period cost n t).due p < t + period p)
  unfolding after
  due_is_law period_low zero p h = (0, sym (zero-mul (period p)), omega arith, omega (arith, period_low p h))
  due_is_law period_low (suc t) p h =
      let earlier = due_is_law period_low t p h in
      elim (eqb? ((after period cost n t).due p) t) [
        | inl e ↦
            rw e.0
            (suc earlier.0, rw suc-mul (omega (arith, earlier.1)), omega (arith, period_low p h), omega (arith, period_low p h))
        | inr e ↦
            rw (e.0, add-zero)
            (earlier.0, earlier.1, omega (arith, earlier.2), omega (arith, earlier.3))
      ]

  -- nothing of a task is released after tick 0 and before its period is over
  pub due_first : (t p : ℕ) → 1 ≤ t → t ≤ period p → (after period cost n t).due p ≡ period p
  unfolding after
  due_first zero p low high = absurd (omega arith)
  due_first (suc zero) p low high = omega arith
  due_first (suc (suc t)) p low high =
      let earlier = due_first (suc t) p (omega arith) (omega arith) in
      rw (earlier, ne_eqb (period p) (suc t) (omega arith)) (add-zero (period p))

  pub none_released : (t p : ℕ) → 1 ≤ t → t < period p → (in_tick t).left p ≡ (after period cost n t).left p
  none_released t p low high =
      rw (due_first t p low (omega arith), ne_eqb (period p) t (omega arith)) (add-zero ((after period cost n t).left p))

  -- so once its first job is done there is no work for it until then
  pub stays_done : (t p : ℕ) → t ≤ period p → (v : ℕ) → 1 ≤ v → v ≤ t → (after period cost n v).left p ≡ 0 →
      (after period cost n t).left p ≡ 0
  stays_done zero p short v low high e = absurd (omega arith)
  stays_done (suc t) p short v low high e =
      elim (ℕ_discrete v (suc t)) [
        | yes s ↦ ap (λ (x : ℕ). (after period cost n x).left p) (sym s) ∙ e
        | no d ↦
            omega (
              arith,
              left_step t p,
              none_released t p (omega arith) short,
              stays_done t p (omega arith) v low (omega arith) e,
            )
      ]

  module _ (few : n ≤ 256) (cost_low : (p : ℕ) → p < n → 1 ≤ cost p) where
    -- words and work are together before each tick, and once its releases are made
    releases_mirror : (t : ℕ) → Mirrors n (after period cost n t).left (after period cost n t).ready →
        Mirrors n (in_tick t).left (in_tick t).ready
    releases_mirror t =
        released_mirrors cost n cost_low (after period cost n t).due t (after period cost n t).left (after period cost n t).ready

    held_mirrors : (t : ℕ) → Mirrors n (after period cost n t).left (after period cost n t).ready
    unfolding after
    held_mirrors zero =
        record { bits = λ p. bit_of_zero (p % 64) ∙ sym (work_none n p 0 refl); small = λ w. lit< tt }
    held_mirrors (suc t) = served_mirrors n few (in_tick t).left (in_tick t).ready (releases_mirror t (held_mirrors t))

    tick_mirrors : (t : ℕ) → Mirrors n (in_tick t).left (in_tick t).ready
    tick_mirrors t = releases_mirror t (held_mirrors t)

    pub ready_bits : (t p : ℕ) → bit_at (after period cost n t).ready p ≡ on (both (ltb p n) (ltb 0 ((after period cost n t).left p))) 1
    ready_bits t = (held_mirrors t).bits

    -- no bit is set in a word of no task
    pub words_empty : (t w : ℕ) → n ≤ 64 * w → (after period cost n t).ready w ≡ 0
    words_empty t = empty_word n few (after period cost n t).left (after period cost n t).ready (held_mirrors t)

    pub tick_empty : (t w : ℕ) → n ≤ 64 * w → (in_tick t).ready w ≡ 0
    tick_empty t = empty_word n few (in_tick t).left (in_tick t).ready (tick_mirrors t)

    -- where a bit is set, the tick serves the first place where work is left
    pub the_next : (t : ℕ) → ¬ (place_served period cost n t ≡ 256) → Next n (in_tick t).left (place_served period cost n t)
    the_next t = next_found n few (in_tick t).left (in_tick t).ready (tick_mirrors t)

    -- where none is set, no work is left
    pub none_next : (t : ℕ) → place_served period cost n t ≡ 256 → (p : ℕ) → p < n → (in_tick t).left p ≡ 0
    none_next t = none_left n few (in_tick t).left (in_tick t).ready (tick_mirrors t)

    pub none_held : (t : ℕ) → next_place (after period cost n t).ready ≡ 256 → (p : ℕ) → p < n → (after period cost n t).left p ≡ 0
    none_held t = none_left n few (after period cost n t).left (after period cost n t).ready (held_mirrors t)

    -- and where no work is left, none is set, and no task's place is served
    pub next_none : (t : ℕ) → ((p : ℕ) → p < n → (in_tick t).left p ≡ 0) → place_served period cost n t ≡ 256
    next_none t = none_ready n few (in_tick t).left (in_tick t).ready (tick_mirrors t)

    -- there is one first place where work is left
    pub next_is : (t q : ℕ) → q < n → 1 ≤ (in_tick t).left q → ((p : ℕ) → p < q → (in_tick t).left p ≡ 0) →
        place_served period cost n t ≡ q
    next_is t q is_place has_work first =
        let next = the_next t (λ z. omega (arith, none_next t z q is_place)) in
        elim (dec_le (place_served period cost n t) q) [
          | no h ↦ absurd (omega (arith, next.first q (omega arith)))
          | yes h ↦ elim (ℕ_discrete (place_served period cost n t) q) [
            | yes e ↦ e
            | no d ↦ absurd (omega (arith, next.has_work, first (place_served period cost n t) (omega arith)))
          ]
        ]

    -- every task is released in tick 0, so there is work in it
    pub start_ready : 1 ≤ n → ¬ (place_served period cost n 0 ≡ 256)
    unfolding after
    start_ready some e = omega (arith, none_next 0 e 0 (omega arith), cost_low 0 (omega arith))

    -- what is ready before the releases is ready after them
    pub stay_ready : (t : ℕ) → ¬ (next_place (after period cost n t).ready ≡ 256) → ¬ (place_served period cost n t ≡ 256)
    stay_ready t some e =
        let next = next_found n few (after period cost n t).left (after period cost n t).ready (held_mirrors t) some in
        omega (arith, next.has_work, none_next t e (next_place (after period cost n t).ready) next.is_place)
