-- The digits of a number are read as the number, and separators behind it end it.
-- Assumes nothing.
use Prim.Native.Nat.{ℕ, zero, suc, ◌+◌, ◌-◌, ◌*◌, ◌/◌, ◌%◌, ◌^◌, ◌≤◌, ◌<◌}
use native.Mathlib.Nat.{pow-suc, div-add-mod', mod-lt, zero-lt-suc}
use native.Mathlib.Omega.{arith}
use mathlib.Core.Path.{◌≡◌, refl, sym, ◌∙◌, ap}
use mathlib.Core.Bool.{true}
use mathlib.Core.List.{List, [], ◌∷◌, ◌++◌, map, append_assoc, append-nil}
use lib.ListN.{length}
use borrow.Author.Tests.{le-leb, lt-ltb, ltb-true}
use Rattle.io.specs.Digits.{hex_digit_ascii, last_digits}
use Rattle.model.proofs.Search.{found, missed}
use Rattle.model.proofs.Tests.{clash, both_true}
use Rattle.model.specs.Search.{first_from}
use Rattle.printing.specs.Text.{is_held, decimal_of}
use Rattle.printing.proofs.NumberLaws.{is_held_law}
use Rattle.scanning.specs.Reading.{Reading, numbers, largest, is_digit, is_separator, prepend, outside, inside, reading_of}
use Rattle.scanning.specs.Back.{separators_only, Spaced, spaced, value_in, Apart, EachApart, spaced_text, lines_of, EachFits, ReadsBack}
use Rattle.scanning.proofs.ByteLaws.{digit_range, digit_here, separator_counts_not}

-- one digit more, of a number that stays small enough
inside_digit : (at start value byte : ℕ) (rest : List ℕ) → is_digit byte ≡ true → 10 * value + (byte - 48) ≤ largest →
    inside at start value (byte ∷ rest) ≡ inside (suc at) start (10 * value + (byte - 48)) rest
unfolding outside
inside_digit at start value byte rest p h = rw (p, le-leb (10 * value + (byte - 48)) largest h)

-- the first digit, as the digit of a number that is 0 so far
pub outside_digit : (at byte : ℕ) (rest : List ℕ) → is_digit byte ≡ true → outside at (byte ∷ rest) ≡ inside at at 0 (byte ∷ rest)
unfolding outside
outside_digit at byte rest p =
    let e : 10 * 0 + (byte - 48) ≡ byte - 48 = omega arith in
    sym (inside_digit at at 0 byte rest p (omega (arith, digit_range byte p)) ∙ ap (λ (v : ℕ). inside (suc at) at v rest) e ∙ sym (rw p))

pub glyph_is : (d : ℕ) → d < 10 → hex_digit_ascii d ≡ 48 + d
glyph_is d h = rw (lt-ltb d 10 h)

pub glyph_digit : (n : ℕ) → is_digit (hex_digit_ascii (n % 10)) ≡ true
glyph_digit n =
    let small : n % 10 < 10 = mod-lt n (zero-lt-suc 9) in
    rw (glyph_is (n % 10) small) (digit_here (48 + n % 10) (omega arith) (omega arith))

one_place : (value k : ℕ) → value * 10 ^ suc k ≡ 10 * (value * 10 ^ k)
one_place value k = ap (λ (n : ℕ). value * n) (pow-suc 10 k) ∙ omega arith

-- the last digit
digit_last : (k n at start value : ℕ) (rest : List ℕ) → value * 10 ^ suc k + n ≤ largest →
    inside at start (value * 10 ^ k + n / 10) (hex_digit_ascii (n % 10) ∷ rest) ≡ inside (suc at) start (value * 10 ^ suc k + n) rest
digit_last k n at start value rest fits =
    let small : n % 10 < 10 = mod-lt n (zero-lt-suc 9) in
    let e : 10 * (value * 10 ^ k + n / 10) + (hex_digit_ascii (n % 10) - 48) ≡ value * 10 ^ suc k + n =
    omega (arith, glyph_is (n % 10) small, div-add-mod' n 10, one_place value k)
    in
    inside_digit at start (value * 10 ^ k + n / 10) (hex_digit_ascii (n % 10)) rest (glyph_digit n) (omega arith)
    ∙ ap (λ (v : ℕ). inside (suc at) start v rest) e

-- Digits inside of a number. What follows them is read as the same wherever it stands, and so what is read does not depend on the place.
digits_inside : (k n start value : ℕ) (rest : List ℕ) (reading : Reading) → n < 10 ^ k → value * 10 ^ k + n ≤ largest →
    ((at : ℕ) → inside at start (value * 10 ^ k + n) rest ≡ reading) → (at : ℕ) → inside at start value (last_digits 10 k n ++ rest) ≡ reading
digits_inside zero n start value rest reading small fits after at =
    let one : 10 ^ 0 ≡ 1 = refl in
    let e : value ≡ value * 10 ^ 0 + n = omega (arith, one) in
    ap (λ (v : ℕ). inside at start v rest) e ∙ after at
digits_inside (suc k) n start value rest reading small fits after at =
    ap (inside at start value) (append_assoc (last_digits 10 k (n / 10)) (hex_digit_ascii (n % 10) ∷ []) rest)
    ∙ digits_inside k (n / 10) start value (hex_digit_ascii (n % 10) ∷ rest) reading
    (omega (arith, div-add-mod' n 10, pow-suc 10 k))
    (omega (arith, div-add-mod' n 10, one_place value k))
    (λ there. digit_last k n there start value rest fits ∙ after (suc there))
    at

digits_begin : (k n at : ℕ) (rest : List ℕ) → outside at (last_digits 10 (suc k) n ++ rest) ≡ inside at at 0 (last_digits 10 (suc k) n ++ rest)
digits_begin zero n at rest = outside_digit at (hex_digit_ascii (n % 10)) rest (glyph_digit n)
digits_begin (suc k) n at rest =
    rw (append_assoc (last_digits 10 (suc k) (n / 10)) (hex_digit_ascii (n % 10) ∷ []) rest) (digits_begin k (n / 10) at (hex_digit_ascii (n % 10) ∷ rest))

-- how many digits a number has
pub digits_of : (word : ℕ) → word ≤ largest → (k : ℕ) × (decimal_of word ≡ last_digits 10 (suc k) word) × (word < 10 ^ suc k)
unfolding decimal_of
digits_of word fits = go (first_from (is_held word) 1 20) refl
  where
    go : (count : ℕ) → count ≡ first_from (is_held word) 1 20 → (k : ℕ) × (decimal_of word ≡ last_digits 10 (suc k) word) × (word < 10 ^ suc k)
    go zero e =
        let large : 10 ^ 20 ≡ 100000000000000000000 = refl in
        absurd
        (clash (is_held word 20) (is_held_law word 20 (omega (arith, large))) (missed (is_held word) 1 20 (omega arith) (sym e) 20 (omega arith) (omega arith)))
    go (suc k) e =
        let f = found (is_held word) 1 20 (omega arith) (omega (arith, e)) in
        (k, ap (λ (n : ℕ). last_digits 10 n word) (sym e), ltb-true word (10 ^ suc k) (ap (is_held word) e ∙ f.passes))

-- a number's digits, and what follows them
number_read : (word : ℕ) (rest : List ℕ) (reading : Reading) → word ≤ largest → ((at start : ℕ) → inside at start word rest ≡ reading) →
    (at : ℕ) → outside at (decimal_of word ++ rest) ≡ reading
number_read word rest reading fits after at =
    let d = digits_of word fits in
    let e : 0 * 10 ^ suc d.0 + word ≡ word = omega arith in
    ap (λ (xs : List ℕ). outside at (xs ++ rest)) d.1
    ∙ digits_begin d.0 word at rest
    ∙ digits_inside (suc d.0) word at 0 rest reading d.2 (omega arith)
    (λ there. ap (λ (v : ℕ). inside there at v rest) e ∙ after there at) at

-- separators before what follows, outside of a number and behind one
gap_outside : (gap rest : List ℕ) (reading : Reading) → separators_only gap ≡ true → ((at : ℕ) → outside at rest ≡ reading) →
    (at : ℕ) → outside at (gap ++ rest) ≡ reading
unfolding outside separators_only
gap_outside [] rest reading p after at = after at
gap_outside (byte ∷ gap) rest reading p after at =
    let tests = both_true (is_separator byte) (separators_only gap) p in
    rw (separator_counts_not byte tests.0, tests.0) (gap_outside gap rest reading tests.1 after (suc at))

gap_behind : (gap rest : List ℕ) (word : ℕ) (reading : Reading) → 0 < length gap → separators_only gap ≡ true →
    ((at : ℕ) → outside at rest ≡ reading) → (at start : ℕ) → inside at start word (gap ++ rest) ≡ prepend word reading
unfolding outside separators_only
gap_behind [] rest word reading some p after at start = absurd (omega arith)
gap_behind (byte ∷ gap) rest word reading some p after at start =
    let tests = both_true (is_separator byte) (separators_only gap) p in
    rw (separator_counts_not byte tests.0, tests.0) (ap (prepend word) (gap_outside gap rest reading tests.1 after (suc at)))

-- numbers, each with its gap, and what follows them
parts_read : (parts : List Spaced) (rest values : List ℕ) → EachApart parts → ((at : ℕ) → outside at rest ≡ numbers values) →
    (at : ℕ) → outside at (spaced_text parts ++ rest) ≡ numbers (map value_in parts ++ values)
unfolding spaced_text
parts_read [] rest values each after at = after at
parts_read (part ∷ parts) rest values each after at =
    let first : Apart part = each 0 (omega arith) in
    rw (append_assoc (decimal_of part.value) (part.gap ++ spaced_text parts) rest, append_assoc part.gap (spaced_text parts) rest)
    (number_read part.value (part.gap ++ (spaced_text parts ++ rest)) (numbers (part.value ∷ (map value_in parts ++ values))) first.fits
    (gap_behind part.gap (spaced_text parts ++ rest) part.value (numbers (map value_in parts ++ values)) (omega (arith, first.some)) first.separates
    (parts_read parts rest values (λ i h. each (suc i) (omega arith)) after))
    at)

read_nothing : (at : ℕ) → outside at [] ≡ numbers []
unfolding outside
read_nothing at = refl

read_last : (word : ℕ) → word ≤ largest → (at : ℕ) → outside at (decimal_of word) ≡ numbers (word ∷ [])
unfolding outside
read_last word fits at = ap (outside at) (sym (append-nil (decimal_of word))) ∙ number_read word [] (numbers (word ∷ [])) fits (λ there start. refl) at

-- lines are parts whose gaps are single line ends
abbrev on_line : ℕ → Spaced
on_line word = spaced word (10 ∷ [])

lines_text : (words : List ℕ) → lines_of words ≡ spaced_text (map on_line words)
unfolding lines_of spaced_text
lines_text [] = refl
lines_text (word ∷ words) = ap (λ (xs : List ℕ). decimal_of word ++ (10 ∷ xs)) (lines_text words)

lines_values : (words : List ℕ) → map value_in (map on_line words) ≡ words
lines_values [] = refl
lines_values (word ∷ words) = ap (λ (xs : List ℕ). word ∷ xs) (lines_values words)

line_apart : (word : ℕ) → word ≤ largest → Apart (on_line word)
unfolding separators_only is_separator
line_apart word fits = record { fits = fits; some = omega arith; separates = refl }

lines_apart : (words : List ℕ) → EachFits words → EachApart (map on_line words)
lines_apart [] each i h = absurd (omega arith)
lines_apart (word ∷ words) each zero h = line_apart word (each 0 (omega arith))
lines_apart (word ∷ words) each (suc i) h = lines_apart words (λ j l. each (suc j) (omega arith)) i (omega arith)

any_gaps_law : (lead : List ℕ) (parts : List Spaced) → separators_only lead ≡ true → EachApart parts →
    reading_of (lead ++ spaced_text parts) ≡ numbers (map value_in parts)
any_gaps_law lead parts p each =
    gap_outside lead (spaced_text parts) (numbers (map value_in parts)) p
    (λ at.
    ap (outside at) (sym (append-nil (spaced_text parts)))
    ∙ parts_read parts [] [] each read_nothing at
    ∙ ap numbers (append-nil (map value_in parts)))
    0

pub reads_back : ReadsBack
unfolding separators_only
reads_back =
    record {
      lines = λ words each.
          ap reading_of (lines_text words)
          ∙ any_gaps_law [] (map on_line words) refl (lines_apart words each)
          ∙ ap numbers (lines_values words);
      any_gaps = any_gaps_law;
      last = λ lead parts word p each fits.
          gap_outside lead (spaced_text parts ++ decimal_of word) (numbers (map value_in parts ++ (word ∷ []))) p
          (parts_read parts (decimal_of word) (word ∷ []) each (read_last word fits)) 0;
    }
