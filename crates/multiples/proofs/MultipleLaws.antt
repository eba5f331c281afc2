-- The least common multiple: what the search finds, that there is no second, and one number more.
-- Assumes nothing.
use Prim.Native.Nat.{ℕ, zero, suc, ◌*◌, ◌/◌, ◌%◌, ◌≤◌, ◌∣◌}
use native.Mathlib.Omega.{arith}
use native.Mathlib.Decide.{dec_le}
use native.Mathlib.Nat.{le_trans, div-le_self, mul-le-mul, mul-pos, mul_assoc, mul_comm, mul-div_cancel', eq_of_mul-eq-mul_left, mod-lt, pos_of_dvd_of_pos, dvd_trans, dvd-mul_left, dvd-mul_right, dvd-mul_left_of_dvd, dvd-mod_iff, dvd_antisymm, mod-eq-zero_of_dvd, dvd_of_mod-eq-zero, dvd_of_mul-dvd-mul_right, mul-dvd-mul_left, dvd_refl, one-dvd}
use mathlib.Core.Path.{◌≡◌, refl, sym, ◌∙◌, ap, subst}
use mathlib.Core.Bool.{true}
use mathlib.Core.List.{List, [], ◌∷◌, ◌++◌}
use lib.Dec.{eqb}
use lib.ListN.{length, get_or, length-append, get_or-append}
use lib.Seq.{get_or-append_seam}
use borrow.Author.Tests.{eqb-true, eq-eqb}
use Rattle.model.specs.Search.{first_from}
use Rattle.model.proofs.Tests.{clash, both_true, both_pass}
use Rattle.model.proofs.Search.{Found, found, missed}
use Rattle.model.proofs.Append.{each_append}
use Rattle.multiples.specs.Divisors.{GreatestDivisor}
use Rattle.multiples.specs.Multiples.{is_multiple, product_of, least_multiple, AllDivide, IsLeastMultiple, AllPositive, LeastMultipleRight, NoSecondMultiple, OneMore}

-- the numbers of a list one after the other
all_first : (p : ℕ) (ps : List ℕ) (w : ℕ) → AllDivide (p ∷ ps) w → p ∣ w
all_first p ps w h = h 0 (omega arith)

all_later : (p : ℕ) (ps : List ℕ) (w : ℕ) → AllDivide (p ∷ ps) w → AllDivide ps w
all_later p ps w h i l = h (suc i) (omega arith)

all_none : (w : ℕ) → AllDivide [] w
all_none w i l = absurd (omega arith)

all_more : (p : ℕ) (ps : List ℕ) (w : ℕ) → p ∣ w → AllDivide ps w → AllDivide (p ∷ ps) w
all_more p ps w first later zero l = first
all_more p ps w first later (suc i) l = later i (omega arith)

all_both : (a b w : ℕ) → a ∣ w → b ∣ w → AllDivide (a ∷ (b ∷ [])) w
all_both a b w first second = all_more a (b ∷ []) w first (all_more b [] w second (all_none w))

-- the test passes exactly where every number divides
test_means : (ps : List ℕ) (w : ℕ) → is_multiple ps w ≡ true → AllDivide ps w
unfolding is_multiple
test_means [] w t = all_none w
test_means (p ∷ ps) w t =
    let tests = both_true (eqb (w % p) 0) (is_multiple ps w) t in
    all_more p ps w (dvd_of_mod-eq-zero p (eqb-true _ _ tests.0)) (test_means ps w tests.1)

test_holds : (ps : List ℕ) (w : ℕ) → AllDivide ps w → is_multiple ps w ≡ true
unfolding is_multiple
test_holds [] w h = refl
test_holds (p ∷ ps) w h =
    both_pass (eq-eqb (w % p) 0 (mod-eq-zero_of_dvd p (all_first p ps w h))) (test_holds ps w (all_later p ps w h))

-- the search's last number is one that every number divides
product_positive : (ps : List ℕ) → AllPositive ps → 1 ≤ product_of ps
unfolding product_of
product_positive [] h = omega arith
product_positive (p ∷ ps) h = mul-pos (h 0 (omega arith)) (product_positive ps (λ i l. h (suc i) (omega arith)))

product_multiple : (ps : List ℕ) → AllDivide ps (product_of ps)
unfolding product_of
product_multiple [] = all_none 1
product_multiple (p ∷ ps) =
    all_more p ps (p * product_of ps) (dvd-mul_right p (product_of ps))
    (λ i l. dvd-mul_left_of_dvd (get_or ps i 1) (product_multiple ps i l) p)

search_finds : (ps : List ℕ) → AllPositive ps → Found (is_multiple ps) 1 (product_of ps) (first_from (is_multiple ps) 1 (product_of ps))
search_finds ps h =
    elim (dec_le 1 (first_from (is_multiple ps) 1 (product_of ps))) [
      | yes some ↦ found (is_multiple ps) 1 (product_of ps) (omega arith) some
      | no none ↦
          absurd
          (clash (is_multiple ps (product_of ps)) (test_holds ps (product_of ps) (product_multiple ps))
          (missed (is_multiple ps) 1 (product_of ps) (omega arith) (omega arith) (product_of ps) (product_positive ps h) (omega arith)))
    ]

-- the least multiple divides every other: what is left of the other is a multiple below it
divides_others : (ps : List ℕ) (m : ℕ) → 1 ≤ m → AllDivide ps m → ((w : ℕ) → 1 ≤ w → AllDivide ps w → m ≤ w) →
    (w : ℕ) → AllDivide ps w → m ∣ w
divides_others ps m positive multiple least w h =
    elim (dec_le 1 (w % m)) [
      | yes some ↦
          absurd
          (omega (
            arith,
            mod-lt w {m = m} positive,
            least (w % m) some (λ i l. (dvd-mod_iff (get_or ps i 1) {m = w} {n = m} (multiple i l)).1 (h i l)),
          ))
      | no none ↦ dvd_of_mod-eq-zero m (omega arith)
    ]

pub least_multiple_right : LeastMultipleRight
unfolding least_multiple
least_multiple_right ps h =
    let m = first_from (is_multiple ps) 1 (product_of ps) in
    let f = search_finds ps h in
    record {
      positive = f.low;
      multiple = test_means ps m f.passes;
      least = least m f;
      divides = divides_others ps m f.low (test_means ps m f.passes) (least m f);
    }
  where
    least : (m : ℕ) → Found (is_multiple ps) 1 (product_of ps) m → (w : ℕ) → 1 ≤ w → AllDivide ps w → m ≤ w
    least m f w one all =
        elim (dec_le m w) [
          | yes l ↦ l
          | no l ↦ absurd (clash (is_multiple ps w) (test_holds ps w all) (f.first w one (omega arith)))
        ]

pub no_second_multiple : NoSecondMultiple
no_second_multiple ps m w a b =
    omega (arith, a.least w b.positive b.multiple, b.least m a.positive a.multiple)

-- where there is a least multiple, no number is 0, and the search finds it
pub is_found : (ps : List ℕ) (m : ℕ) → IsLeastMultiple ps m → m ≡ least_multiple ps
is_found ps m least =
    no_second_multiple ps m (least_multiple ps) least
    (least_multiple_right ps (λ i l. pos_of_dvd_of_pos (least.multiple i l) least.positive))

-- of no numbers it is 1
pub least_none : IsLeastMultiple [] 1
least_none =
    record { positive = omega arith; multiple = all_none 1; least = λ w one all. one; divides = λ w all. subst (λ (n : ℕ). 1 ∣ n) (omega arith) (dvd-mul_right 1 w) }

-- two numbers: their product divided by their common divisor
pub pair_right : (a b : ℕ) → 1 ≤ a → 1 ≤ b → IsLeastMultiple (a ∷ (b ∷ [])) (least_multiple (a ∷ (b ∷ [])))
pair_right a b one two = least_multiple_right (a ∷ (b ∷ [])) positive
  where
    positive : AllPositive (a ∷ (b ∷ []))
    positive zero l = one
    positive (suc zero) l = two
    positive (suc (suc i)) l = absurd (omega arith)

module _ (a b g : ℕ) (one : 1 ≤ a) (two : 1 ≤ b) (gcd : GreatestDivisor a b g) where
  pub divisor_positive : 1 ≤ g
  divisor_positive = pos_of_dvd_of_pos gcd.first one

  -- the quotient is a common multiple
  quotient_multiple : AllDivide (a ∷ (b ∷ [])) (a / g * b)
  quotient_multiple =
      let whole : g * (a / g) ≡ a = mul-div_cancel' g gcd.first in
      let part : g * (b / g) ≡ b = mul-div_cancel' g gcd.second in
      let same : a * (b / g) ≡ a / g * b = product (a / g) (b / g) whole part in
      all_both a b (a / g * b) (subst (λ (n : ℕ). a ∣ n) same (dvd-mul_right a (b / g))) (dvd-mul_left b (a / g))
    where
      product : (x y : ℕ) → g * x ≡ a → g * y ≡ b → a * y ≡ x * b
      product x y p q = rw (sym p, sym q) (omega arith)

  module _ (l : ℕ) (least : IsLeastMultiple (a ∷ (b ∷ [])) l) where
    -- the product divided by the least multiple is a common divisor
    abbrev rest : ℕ
    rest = a * b / l

    rest_whole : l * rest ≡ a * b
    rest_whole = mul-div_cancel' l (least.divides (a * b) (all_both a b (a * b) (dvd-mul_right a b) (dvd-mul_left b a)))

    rest_divides : (x y : ℕ) → 1 ≤ x → x * y ≡ a * b → x ∣ l → rest ∣ y
    rest_divides x y some product h =
        let part : x * (l / x) ≡ l = mul-div_cancel' x h in
        let same : x * (l / x * rest) ≡ x * y = sym (mul_assoc x (l / x) rest) ∙ ap (λ (n : ℕ). n * rest) part ∙ rest_whole ∙ sym product in
        subst (λ (n : ℕ). rest ∣ n) (eq_of_mul-eq-mul_left x some (l / x * rest) y same) (dvd-mul_left rest (l / x))

    rest_common : rest ∣ g
    rest_common =
        gcd.greatest rest
        (rest_divides b a two (mul_comm b a) (least.multiple 1 (omega arith)))
        (rest_divides a b one refl (least.multiple 0 (omega arith)))

    quotient_divides : a / g * b ∣ l
    quotient_divides =
        let whole : g * (a / g) ≡ a = mul-div_cancel' g gcd.first in
        let same : l * rest ≡ a / g * b * g = rest_whole ∙ ap (λ (n : ℕ). n * b) (sym whole) ∙ turned (a / g) in
        dvd_of_mul-dvd-mul_right (a / g * b) divisor_positive (subst (λ (n : ℕ). n ∣ l * g) same (mul-dvd-mul_left rest l rest_common))
      where
        turned : (x : ℕ) → g * x * b ≡ x * b * g
        turned x = omega arith

    quotient_least : a / g * b ≡ l
    quotient_least = dvd_antisymm quotient_divides (least.divides (a / g * b) quotient_multiple)

  pub joined_is : a / g * b ≡ least_multiple (a ∷ (b ∷ []))
  joined_is = quotient_least (least_multiple (a ∷ (b ∷ []))) (pair_right a b one two)

-- without Euclid's rule: the first number, and one that divides the other
pub joined_first : (b : ℕ) → 1 ≤ b → b ≡ least_multiple (1 ∷ (b ∷ []))
joined_first b two =
    let gcd : GreatestDivisor 1 b 1 = record { first = dvd_refl 1; second = one-dvd b; greatest = λ d p q. p } in
    let e : b ≡ 1 * b = omega arith in
    e ∙ joined_is 1 b 1 (omega arith) two gcd

pub joined_divided : (a b : ℕ) → 1 ≤ a → 1 ≤ b → a % b ≡ 0 → a ≡ least_multiple (a ∷ (b ∷ []))
joined_divided a b one two e =
    let h : b ∣ a = dvd_of_mod-eq-zero b e in
    let gcd : GreatestDivisor a b b = record { first = h; second = dvd_refl b; greatest = λ d p q. q } in
    sym (mul-div_cancel' b h) ∙ mul_comm b (a / b) ∙ joined_is a b b one two gcd

-- which fits 64 bits, where the numbers are not too large
pub joined_small : (a b g : ℕ) → a ≤ 1000000000000 → b ≤ 1000000 → a / g * b ≤ 1000000000000000000
joined_small a b g few less = mul-le-mul (le_trans (div-le_self a g) few) less

-- one number more
module _ (ps : List ℕ) (p w : ℕ) where
  all_before : AllDivide (ps ++ (p ∷ [])) w → AllDivide ps w
  all_before h i l =
      subst (λ (n : ℕ). n ∣ w) (get_or-append ps (p ∷ []) 1 i l) (h i (omega (arith, length-append ps (p ∷ []))))

  all_last : AllDivide (ps ++ (p ∷ [])) w → p ∣ w
  all_last h =
      subst (λ (n : ℕ). n ∣ w) (get_or-append_seam ps p [] 1) (h (length ps) (omega (arith, length-append ps (p ∷ []))))

  all_after : AllDivide ps w → p ∣ w → AllDivide (ps ++ (p ∷ [])) w
  all_after before last = each_append 1 (λ (n : ℕ). n ∣ w) ps (p ∷ []) before (all_more p [] w last (all_none w))

-- the multiple of those before and it is that of them all
pub least_more : (ps : List ℕ) (p m l : ℕ) → IsLeastMultiple ps m → IsLeastMultiple (m ∷ (p ∷ [])) l → IsLeastMultiple (ps ++ (p ∷ [])) l
least_more ps p m l before both =
    record {
      positive = both.positive;
      multiple = all_after ps p l (λ i h. dvd_trans (get_or ps i 1) (before.multiple i h) (both.multiple 0 (omega arith))) (both.multiple 1 (omega arith));
      least = λ w one all. both.least w one (pair w all);
      divides = λ w all. both.divides w (pair w all);
    }
  where
    pair : (w : ℕ) → AllDivide (ps ++ (p ∷ [])) w → AllDivide (m ∷ (p ∷ [])) w
    pair w all = all_both m p w (before.divides w (all_before ps p w all)) (all_last ps p w all)

pub one_more : OneMore
one_more ps p m g one before gcd =
    subst (λ (l : ℕ). IsLeastMultiple (ps ++ (p ∷ [])) l) (sym (joined_is m p g before.positive one gcd))
    (least_more ps p m (least_multiple (m ∷ (p ∷ []))) before (pair_right m p before.positive one))
