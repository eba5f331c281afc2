-- No other word is spelled as a word of at most seven letters.
-- Assumes nothing.
use Prim.Native.Nat.{ℕ, suc, ◌+◌, ◌*◌, ◌^◌, ◌≤◌, ◌<◌}
use native.Mathlib.Nat.{pow-suc, pow-le-pow_right, zero-lt-suc}
use native.Mathlib.Decide.{dec_le}
use native.Mathlib.Omega.{arith}
use mathlib.Core.Path.{◌≡◌, refl, sym, ◌∙◌, ap}
use mathlib.Core.List.{List, [], ◌∷◌}
use lib.ListN.{length}
use borrow.Author.Tests.{lt-ltb, le-ltb}
use Rattle.words.specs.Words.{many_letters, spelled_after, spelled_from, spelling_of}
use Rattle.words.specs.Heard.{Letters, SpelledApart}

power_more : (i j : ℕ) → i ≤ j → 256 ^ i ≤ 256 ^ j
power_more i j h = pow-le-pow_right (zero-lt-suc 255) h

letters_later : (letter : ℕ) (letters : List ℕ) → Letters (letter ∷ letters) → Letters letters
letters_later letter letters each i h = each (suc i) (omega arith)

-- the spelling of a word of k letters
record Sized (k spelling : ℕ) : Type 0 where
  least : 256 ^ k ≤ spelling
  most : spelling < 2 * 256 ^ k

after_few : (spelling letter : ℕ) → spelling < 72057594037927936 → spelled_after spelling letter ≡ 256 * spelling + letter
unfolding spelled_after
after_few spelling letter h = rw (lt-ltb spelling 72057594037927936 h)

after_many : (spelling letter : ℕ) → 72057594037927936 ≤ spelling → spelled_after spelling letter ≡ many_letters
unfolding spelled_after
after_many spelling letter h = rw (le-ltb spelling 72057594037927936 h)

-- fewer than seven letters leave room for one more
sized_few : (k spelling : ℕ) → k < 7 → Sized k spelling → spelling < 72057594037927936
sized_few k spelling h s =
    let six : 256 ^ 6 ≡ 281474976710656 = refl in
    omega (arith, power_more k 6 (omega arith), six, s.most)

sized_more : (k spelling letter : ℕ) → k < 7 → letter < 256 → Sized k spelling → Sized (suc k) (spelled_after spelling letter)
sized_more k spelling letter h small s =
    rw (after_few spelling letter (sized_few k spelling h s))
    (record { least = omega (arith, pow-suc 256 k, s.least); most = omega (arith, pow-suc 256 k, s.most, small) })

sized_all : (letters : List ℕ) (k spelling : ℕ) → Letters letters → k + length letters ≤ 7 → Sized k spelling →
    Sized (k + length letters) (spelled_from spelling letters)
unfolding spelled_from
sized_all [] k spelling each h s =
    let e : k + 0 ≡ k = omega arith in
    rw e s
sized_all (letter ∷ letters) k spelling each h s =
    let e : k + suc (length letters) ≡ suc k + length letters = omega arith in
    rw e
    (sized_all letters (suc k) (spelled_after spelling letter) (letters_later letter letters each) (omega arith)
    (sized_more k spelling letter (omega arith) (each 0 (omega arith)) s))

-- more than seven
many_stay : (letters : List ℕ) → spelled_from many_letters letters ≡ many_letters
unfolding spelled_from
many_stay [] = refl
many_stay (letter ∷ letters) = rw (after_many many_letters letter (omega arith)) (many_stay letters)

sized_many : (letters : List ℕ) (k spelling : ℕ) → Letters letters → k ≤ 7 → 7 < k + length letters → Sized k spelling →
    spelled_from spelling letters ≡ many_letters
unfolding spelled_from
sized_many [] k spelling each low h s = absurd (omega arith)
sized_many (letter ∷ letters) k spelling each low h s =
    elim (dec_le 7 k) [
      | yes full ↦
          let seven : 256 ^ 7 ≡ 72057594037927936 = refl in
          rw (after_many spelling letter (omega (arith, power_more 7 k full, seven, s.least))) (many_stay letters)
      | no room ↦
          sized_many letters (suc k) (spelled_after spelling letter) (letters_later letter letters each) (omega arith) (omega arith)
          (sized_more k spelling letter (omega arith) (each 0 (omega arith)) s)
    ]

-- a spelling has one number of letters
sizes_same : (i j spelling : ℕ) → Sized i spelling → Sized j spelling → i ≤ j
sizes_same i j spelling s t =
    elim (dec_le i j) [
      | yes h ↦ h
      | no h ↦ absurd (omega (arith, power_more (suc j) i (omega arith), pow-suc 256 j, s.least, t.most))
    ]

-- two words of as many letters
apart : (letters others : List ℕ) (spelling other : ℕ) → Letters letters → Letters others → length letters ≡ length others →
    spelled_from spelling letters ≡ spelled_from other others → spelled_from other others < many_letters → (spelling ≡ other) × (letters ≡ others)
unfolding spelled_from
apart [] [] spelling other each every long same few = (same, refl)
apart [] (y ∷ others) spelling other each every long same few = absurd (omega (arith, long))
apart (x ∷ letters) [] spelling other each every long same few = absurd (omega (arith, long))
apart (x ∷ letters) (y ∷ others) spelling other each every long same few =
    let rest = apart letters others (spelled_after spelling x) (spelled_after other y) (letters_later x letters each)
    (letters_later y others every) (omega (arith, long)) same few in
    elim (dec_le 72057594037927936 spelling) [
      | yes full ↦
          let many : spelled_from (spelled_after spelling x) letters ≡ many_letters = rw (after_many spelling x full) (many_stay letters) in
          absurd (omega (arith, many, same, few))
      | no some ↦
          elim (dec_le 72057594037927936 other) [
            | yes full ↦
                let many : spelled_from (spelled_after other y) others ≡ many_letters = rw (after_many other y full) (many_stay others) in
                absurd (omega (arith, many, few))
            | no more ↦
                let equal : 256 * spelling + x ≡ 256 * other + y =
                sym (after_few spelling x (omega arith)) ∙ rest.0 ∙ after_few other y (omega arith) in
                let small : x < 256 = each 0 (omega arith) in
                let low : y < 256 = every 0 (omega arith) in
                (omega (arith, equal, small, low), both_same (omega (arith, equal, small, low)) rest.1)
          ]
    ]
  where
    both_same : {x y : ℕ} {xs ys : List ℕ} → x ≡ y → xs ≡ ys → x ∷ xs ≡ y ∷ ys
    both_same {x} {y} {xs} {ys} p q = ap (λ (n : ℕ). n ∷ xs) p ∙ ap (λ (ns : List ℕ). y ∷ ns) q

sized_none : Sized 0 1
sized_none =
    let none : 256 ^ 0 ≡ 1 = refl in
    record { least = omega (arith, none); most = omega (arith, none) }

sized_whole : (letters : List ℕ) → Letters letters → length letters ≤ 7 → Sized (length letters) (spelling_of letters)
sized_whole letters each h =
    let e : 0 + length letters ≡ length letters = omega arith in
    rw (← e) (sized_all letters 0 1 each (omega arith) sized_none)

pub spelled_apart : SpelledApart
spelled_apart letters others each every short same =
    let other : Sized (length others) (spelling_of others) = sized_whole others every short in
    let few : spelling_of others < many_letters = omega (arith, power_more (length others) 7 short, seven, other.most) in
    elim (dec_le (length letters) 7) [
      | yes h ↦
          let size : Sized (length letters) (spelling_of others) = rw (← same) (sized_whole letters each h) in
          (apart letters others 1 1 each every
          (omega (arith, sizes_same (length letters) (length others) (spelling_of others) size other, sizes_same (length others) (length letters) (spelling_of others) other size))
          same few).1
      | no h ↦
          let many : spelling_of letters ≡ many_letters = sized_many letters 0 1 each (omega arith) (omega arith) sized_none in
          absurd (omega (arith, many, same, few))
    ]
  where
    seven : 256 ^ 7 ≡ 72057594037927936
    seven = refl
