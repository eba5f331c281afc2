-- How long the parts of a text are: a number by its digits, a refusal's line, a task's line, and the lines of any number of tasks.
-- Assumes nothing.
use Prim.Native.Nat.{ℕ, zero, suc, ◌+◌, ◌*◌, ◌/◌, ◌%◌, ◌^◌, ◌≤◌, ◌<◌}
use native.Mathlib.Omega.{arith}
use native.Mathlib.Decide.{dec_le}
use mathlib.Core.Path.{◌≡◌, refl, ◌∙◌}
use mathlib.Core.Logic.{inl, inr}
use mathlib.Core.List.{List, [], ◌∷◌, ◌++◌}
use lib.ListN.{length, get_or, length-append}
use Rattle.io.specs.Digits.{last_digits, hex_digit_ascii}
use Rattle.model.specs.Lists.{total}
use Rattle.model.specs.Search.{first_from}
use Rattle.model.proofs.Search.{found}
use Rattle.model.proofs.Tests.{eqb?, clash}
use Rattle.model.specs.Tables.{open_word}
use Rattle.printing.specs.Text.{bytes_of, is_held, decimal_of, with_number, line_with_number, refusal_line, response_text, task_line, deadline_shown, task_lines}
use Rattle.printing.proofs.NumberLaws.{is_held_law}

digits_long : (base count number : ℕ) → length (last_digits base count number) ≡ count
digits_long base zero number = refl
digits_long base (suc count) number =
    length-append (last_digits base count (number / base)) (hex_digit_ascii (number % base) ∷ []) ∙ omega (arith, digits_long base count (number / base))

-- how many digits a number has
abbrev pub digit_count : ℕ → ℕ
digit_count number = length (decimal_of number)

-- no more than hold it
pub few_digits : (number count : ℕ) → 1 ≤ count → number < 10 ^ count → digit_count number ≤ count
unfolding decimal_of
few_digits number count one small =
    let fewest = first_from (is_held number) 1 20 in
    let e : digit_count number ≡ fewest = digits_long 10 fewest number in
    elim (dec_le fewest count) [
      | yes h ↦ omega (arith, e)
      | no h ↦
          absurd
          (clash (is_held number count) (is_held_law number count small)
          ((found (is_held number) 1 20 (omega arith) (omega arith)).first count one (omega arith)))
    ]

-- and never more than twenty
pub twenty_digits : (number : ℕ) → digit_count number ≤ 20
unfolding decimal_of
twenty_digits number =
    let fewest = first_from (is_held number) 1 20 in
    let e : digit_count number ≡ fewest = digits_long 10 fewest number in
    elim (dec_le fewest 20) [
      | yes h ↦ omega (arith, e)
      | no h ↦ absurd (omega (arith, h, (found (is_held number) 1 20 (omega arith) (omega (arith, h))).high))
    ]

pub seven_digits : (number : ℕ) → number ≤ 1000000 → digit_count number ≤ 7
seven_digits number h =
    let value : 10 ^ 7 ≡ 10000000 = refl in few_digits number 7 (omega arith) (omega (arith, value))

pub number_long : (word : List ℕ) (number : ℕ) → length (with_number word number) ≡ length word + digit_count number
number_long word number = length-append word (decimal_of number)

pub line_long : (word : List ℕ) (number : ℕ) → length (line_with_number word number) ≡ length word + digit_count number + 1
line_long word number = length-append (with_number word number) (bytes_of "\n") ∙ omega (arith, number_long word number)

-- a line that ends in a place of a table
pub place_line_long : (word : List ℕ) (place : ℕ) → place < 65536 → length (line_with_number word place) ≤ length word + 6
place_line_long word place h = omega (arith, line_long word place, few_digits place 5 (omega arith) (omega arith))

-- a refusal's line, by the digits of its number
pub refusal_long : (number place count : ℕ) → digit_count number ≤ count → place < 65536 → length (refusal_line number place) ≤ 18 + count
refusal_long number place count few h =
    omega (
      arith,
      length-append (with_number (bytes_of "refused ") number) (line_with_number (bytes_of " at ") place),
      number_long (bytes_of "refused ") number,
      place_line_long (bytes_of " at ") place h,
    )

-- what is said of a task's answer: ` open` is shorter than an answer may be
response_long : (answer : ℕ) → ((answer ≡ open_word → ⊥) → answer ≤ 1000000) → length (response_text answer) ≤ 17
response_long answer h =
    elim (eqb? answer 0) [
      | inl p ↦ rw p.0 (omega arith)
      | inr p ↦
          elim (eqb? answer open_word) [
            | inl q ↦ rw (p.0, q.0) (omega arith)
            | inr q ↦ rw (p.0, q.0) (omega (arith, number_long (bytes_of " response ") answer, seven_digits answer (h q.1)))
          ]
    ]

-- what the words of a line say: an answer that is not open is at most 1,000,000, and the last number has at most `width` digits
pub record Small (width answer count : ℕ) : Type 0 where
  pub answer_small : (answer ≡ open_word → ⊥) → answer ≤ 1000000
  pub count_small : digit_count count ≤ width

-- the bytes of a task's line besides its place, where its deadline is at most 1,000,000
abbrev pub line_room : List ℕ → ℕ → ℕ
line_room word width = 35 + length word + width

task_line_long : (word : List ℕ) (place answer deadline count width : ℕ) → Small width answer count → deadline ≤ 1000000 →
    length (task_line word place answer deadline count) ≤ line_room word width + digit_count place
task_line_long word place answer deadline count width s h =
    omega (
      arith,
      length-append (decimal_of place ++ response_text answer ++ with_number (bytes_of " deadline ") deadline) (line_with_number word count),
      length-append (decimal_of place ++ response_text answer) (with_number (bytes_of " deadline ") deadline),
      length-append (decimal_of place) (response_text answer),
      response_long answer s.answer_small,
      number_long (bytes_of " deadline ") deadline,
      seven_digits deadline h,
      line_long word count,
      s.count_small,
    )

-- the lines of n tasks: so many bytes for each, and the digits of their places
module _ (word bytes answers counts : List ℕ) (width : ℕ) where
  pub lines_long : (n : ℕ) → ((i : ℕ) → i < n → Small width (get_or answers i 0) (get_or counts i 0)) →
      ((i : ℕ) → i < n → deadline_shown bytes i ≤ 1000000) →
      length (task_lines word bytes answers counts n) ≤ n * line_room word width + total digit_count n
  unfolding task_lines total
  lines_long zero small due = omega arith
  lines_long (suc n) small due =
      omega (
        arith,
        length-append (task_lines word bytes answers counts n) (task_line word n (get_or answers n 0) (deadline_shown bytes n) (get_or counts n 0)),
        lines_long n (λ i h. small i (omega arith)) (λ i h. due i (omega arith)),
        task_line_long word n (get_or answers n 0) (deadline_shown bytes n) (get_or counts n 0) width (small n (omega arith))
            (due n (omega arith)),
      )
