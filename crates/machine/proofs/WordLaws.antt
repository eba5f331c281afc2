-- The place that the ready words give: the lowest whose bit is set.
-- Assumes nothing.
use Prim.Native.Nat.{ℕ, zero, suc, ◌+◌, ◌-◌, ◌*◌, ◌/◌, ◌%◌, ◌^◌, ◌≤◌, ◌<◌}
use native.Mathlib.Nat.{one-mul, zero-div, zero-add, add-zero}
use native.Mathlib.Decide.{dec_lt, ℕ_discrete}
use native.Mathlib.Omega.{arith}
use mathlib.Core.Path.{◌≡◌, refl, sym, ◌∙◌, ap, fun_ext}
use mathlib.Core.Bool.{Bool, true, false, not}
use mathlib.Core.List.{List}
use lib.ListN.{length, take}
use Rattle.std.specs.Prelude.{Option, Some, None, IsSome, is_some, ◌==◌}
use Rattle.std.specs.List.{position}
use Rattle.std.proofs.lemmas.Bool.Decides.{nat_tests}
use Rattle.model.specs.declared.Place.{Place}
use Rattle.model.specs.Choice.{pick}
use Rattle.model.specs.Lists.{word_of}
use Rattle.model.proofs.Tests.{clash}
use lib.Count.{count_trailing_zeros}
use lib.Dec.{lit<}
use lib.Pow.{shl_exact}
use borrow.Author.Tests.{eq-eqb, ne_eqb}
use Rattle.machine.specs.Machine.{bit_of, bit_at, mask, next_from, next_place}
use Rattle.machine.specs.Slices.{place_or_none}
use Rattle.machine.proofs.Positions.{first_passes, none_passes}
use Rattle.machine.proofs.BitLaws.{no_bits, lowest_first, lowest_set}

-- a shift of 1 makes the mask
pub mask_is : (p : ℕ) → (1 * 2 ^ (p % 64)) % 2 ^ 64 ≡ mask p
mask_is p =
    let small : 1 < 2 ^ 1 = lit< tt in
    shl_exact 1 (p % 64) 64 small (omega arith) ∙ one-mul (2 ^ (p % 64))

-- a word without a bit
pub bit_of_zero : (b : ℕ) → bit_of 0 b ≡ 0
bit_of_zero b = ap (λ (x : ℕ). x % 2) (zero-div (2 ^ b))

-- a word that isn't 0 has its lowest bit within it
pub lowest_within : (word : ℕ) → word < 2 ^ 64 → ¬ (word ≡ 0) → count_trailing_zeros 64 word < 64
lowest_within word h some =
    elim (dec_lt (count_trailing_zeros 64 word) 64) [
      | yes l ↦ l
      | no l ↦ absurd (some (no_bits 64 word h (λ b k. lowest_first 64 word b (omega arith))))
    ]

-- the first place whose bit is set, or 256
pub record Lowest (ready : ℕ → ℕ) (place : ℕ) : Type 0 where
  pub within : place ≤ 256
  pub none_before : (p : ℕ) → p < place → bit_at ready p ≡ 0
  pub found : place < 256 → bit_at ready place ≡ 1

module _ (ready : ℕ → ℕ) where
  -- from word to word
  pub next_skip : (w k : ℕ) → ready w ≡ 0 → next_from ready w (suc k) ≡ next_from ready (suc w) k
  unfolding next_from
  next_skip w k e = rw (eq-eqb (ready w) 0 e)

  pub next_here : (w k : ℕ) → ¬ (ready w ≡ 0) → next_from ready w (suc k) ≡ 64 * w + count_trailing_zeros 64 (ready w)
  unfolding next_from
  next_here w k d = rw (ne_eqb (ready w) 0 d)

  pub next_end : (w : ℕ) → next_from ready w 0 ≡ 64 * w
  unfolding next_from
  next_end w = refl

  -- where no word has a bit
  pub next_none : (w k : ℕ) → ((v : ℕ) → w ≤ v → ready v ≡ 0) → next_from ready w k ≡ 64 * (w + k)
  next_none w zero none = next_end w ∙ omega arith
  next_none w (suc k) none =
      next_skip w k (none w (omega arith)) ∙ next_none (suc w) k (λ v h. none v (omega arith)) ∙ omega arith

  -- a place before word w, where no word before it has a bit
  before_word : (w p : ℕ) → ((v : ℕ) → v < w → ready v ≡ 0) → p < 64 * w → bit_at ready p ≡ 0
  before_word w p none h = ap (λ (word : ℕ). bit_of word (p % 64)) (none (p / 64) (omega arith)) ∙ bit_of_zero (p % 64)

  -- the first word that isn't 0 has the lowest place
  lowest_here : (w b : ℕ) → w < 4 → ((v : ℕ) → v < w → ready v ≡ 0) → b ≡ count_trailing_zeros 64 (ready w) → b < 64 → Lowest ready (64 * w + b)
  lowest_here w b small none e low =
      record {
        within = omega arith;
        none_before = λ p h. before p h (dec_lt p (64 * w));
        found = λ _. rw (at_word, at_bit, e) (lowest_set 64 (ready w) (omega arith));
      }
    where
      at_word : (64 * w + b) / 64 ≡ w
      at_word = omega arith

      at_bit : (64 * w + b) % 64 ≡ b
      at_bit = omega arith

      before : (p : ℕ) → p < 64 * w + b → Dec (p < 64 * w) → bit_at ready p ≡ 0
      before p h (yes l) = before_word w p none l
      before p h (no l) =
          let same : p / 64 ≡ w = omega arith in
          rw same (lowest_first 64 (ready w) (p % 64) (omega arith))

  module _ (small : (w : ℕ) → ready w < 2 ^ 64) where
    lowest_from : (w k : ℕ) → w + k ≡ 4 → ((v : ℕ) → v < w → ready v ≡ 0) → Lowest ready (next_from ready w k)
    lowest_from w zero all none =
        rw (next_end w) (record {
          within = omega arith;
          none_before = λ p h. before_word w p none h;
          found = λ h. absurd (omega arith);
        })
    lowest_from w (suc k) all none =
        elim (ℕ_discrete (ready w) 0) [
          | yes e ↦ rw (next_skip w k e) (lowest_from (suc w) k (omega arith) (λ v h. elim (ℕ_discrete v w) [
            | yes same ↦ ap ready same ∙ e
            | no other ↦ none v (omega arith)
          ]))
          | no d ↦
              rw (next_here w k d)
              (lowest_here w (count_trailing_zeros 64 (ready w)) (omega arith) none refl (lowest_within (ready w) (small w) d))
        ]

    pub lowest_next : Lowest ready (next_place ready)
    lowest_next = lowest_from 0 4 refl (λ v h. absurd (omega arith))

-- The first word that has a bit has the place: the words before it are passed over.
module _ (ready : ℕ → ℕ) where
  next_behind : (w k rest : ℕ) → ((v : ℕ) → w ≤ v → v < w + k → ready v ≡ 0) → next_from ready w (k + rest) ≡ next_from ready (w + k) rest
  next_behind w zero rest none = rw (zero-add rest, add-zero w) refl
  next_behind w (suc k) rest none =
      let on : suc k + rest ≡ suc (k + rest) = omega arith in
      let end : suc w + k ≡ w + suc k = omega arith in
      ap (next_from ready w) on
      ∙ next_skip ready w (k + rest) (none w (omega arith) (omega arith))
      ∙ next_behind (suc w) k rest (λ v low high. none v (omega arith) (omega arith))
      ∙ ap (λ (v : ℕ). next_from ready v rest) end

  pub place_here : (w b : ℕ) → w < 4 → ((v : ℕ) → v < w → ready v ≡ 0) → ¬ (ready w ≡ 0) → b ≡ count_trailing_zeros 64 (ready w) →
      64 * w + b ≡ next_place ready
  place_here w b small none some e =
      let all : 4 ≡ w + suc (3 - w) = omega arith in
      let here : 0 + w ≡ w = zero-add w in
      rw e
      (sym (ap (next_from ready 0) all
      ∙ next_behind 0 w (suc (3 - w)) (λ v low high. none v (omega arith))
      ∙ ap (λ (v : ℕ). next_from ready v (suc (3 - w))) here
      ∙ next_here ready w (3 - w) some))

-- a place as the code has it
pub place_some : (p q : ℕ) → p ≡ q → p < 256 → ◌≡◌ {A = Option Place} (Some (record { 0 = p })) (place_or_none q)
place_some p q e low = rw (← e) (rw (ne_eqb p 256 (omega arith)) refl)

pub place_none : (q : ℕ) → q ≡ 256 → None ≡ place_or_none q
place_none q e = rw (eq-eqb q 256 e) refl

module _ (place : Option Place) (q : ℕ) (e : place ≡ place_or_none q) where
  pub place_is : (p : Place) → place ≡ Some p → (p.0 ≡ q) × ¬ (q ≡ 256)
  place_is p is =
      elim (ℕ_discrete q 256) [
        | yes none ↦ absurd (let nothing = e ∙ sym (place_none q none) in cc)
        | no some ↦ (let found = e ∙ ap (λ (b : Bool). pick b None (Some (record { 0 = q }))) (ne_eqb q 256 some) in cc, some)
      ]

  pub is_place : ¬ (q ≡ 256) → IsSome place
  is_place some = rw e (rw (ne_eqb q 256 some) refl)

  pub no_place : is_some place ≡ false → q ≡ 256
  no_place none = elim (ℕ_discrete q 256) [ yes e ↦ e | no some ↦ absurd (clash (is_some place) (is_place some) none) ]

-- The words of n tasks are the first `count` of four, in a slice: none of them is used, or the first one that is used has the place.
module _ (words : List ℕ) (count : ℕ) (few : count ≤ 4) (room : count ≤ length words) (rest : (w : ℕ) → count ≤ w → word_of words w ≡ 0) where
  abbrev is_used : ℕ → Bool
  is_used word = not (word == 0)

  used_some : (word : ℕ) → is_used word ≡ true → ¬ (word ≡ 0)
  used_some word h = grind (arith, nat_tests)

  used_none : (word : ℕ) → is_used word ≡ false → word ≡ 0
  used_none word h = grind (arith, nat_tests)

  pub place_found : (w b : ℕ) → position is_used (take count words) ≡ Some w → b ≡ count_trailing_zeros 64 (word_of words w) → b < 64 →
      ◌≡◌ {A = Option Place} (Some (record { 0 = 64 * w + b })) (place_or_none (next_place (word_of words)))
  place_found w b found e low =
      let first = first_passes is_used words count room w found in
      place_some (64 * w + b) (next_place (word_of words))
      (place_here (word_of words) w b (omega (arith, first.0)) (λ v h. used_none (word_of words v) (first.2 v h)) (used_some (word_of words w) first.1) e)
      (omega (arith, first.0))

  pub place_missed : position is_used (take count words) ≡ None → None ≡ place_or_none (next_place (word_of words))
  place_missed missed = place_none (next_place (word_of words)) (next_none (word_of words) 0 4 (λ v h. none v))
    where
      none : (v : ℕ) → word_of words v ≡ 0
      none v =
          elim (dec_lt v count) [
            | yes h ↦ used_none (word_of words v) (none_passes is_used words count room missed v h)
            | no h ↦ rest v (omega arith)
          ]

-- the same words give the same place
pub next_same : (ready other : ℕ → ℕ) → ((w : ℕ) → ready w ≡ other w) → next_place ready ≡ next_place other
next_same ready other same = ap next_place (fun_ext same)
