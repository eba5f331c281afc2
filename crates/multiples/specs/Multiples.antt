-- The least common multiple of numbers, and of a table's periods (SPECIFICATION 13.12; document 02, L10).
-- Assumes nothing.
use Rattle.std.specs.Prelude.{ℕ, ◌*◌, ◌/◌, ◌%◌, ◌≤◌, ◌<◌, ◌≡◌, Bool, true, List, [], ◌∷◌, ◌++◌, map, eqb, leb, length, get_or, Option, Some, None}
use Rattle.std.specs.Int.{◌∣◌}
use Rattle.model.specs.Choice.{pick, both}
use Rattle.model.specs.Search.{first_from}
use Rattle.model.specs.Tables.{Task}
use Rattle.tables.specs.Layout.{tasks_of}
use Rattle.tables.specs.Meaning.{TableRight}
use Rattle.multiples.specs.Divisors.{GreatestDivisor}

-- does every number of the list divide w?
unfoldable pub is_multiple : List ℕ → ℕ → Bool
is_multiple [] w = true
is_multiple (p ∷ ps) w = both (eqb (w % p) 0) (is_multiple ps w)

-- every number of the list divides this one: the search need not go farther
unfoldable pub product_of : List ℕ → ℕ
product_of [] = 1
product_of (p ∷ ps) = p * product_of ps

-- the "least common multiple" by a search: the first number, from 1 on, that all of them divide
unfoldable pub least_multiple : List ℕ → ℕ
least_multiple ps = first_from (is_multiple ps) 1 (product_of ps)

-- The same said without a search. Each number of the list divides w:
abbrev pub AllDivide : List ℕ → ℕ → Type 0
AllDivide ps w = (i : ℕ) → i < length ps → get_or ps i 1 ∣ w

-- m is the "least common multiple": at least 1, and no greater than any other of at least 1. It divides every other.
pub record IsLeastMultiple (ps : List ℕ) (m : ℕ) : Type 0 where
  pub positive : 1 ≤ m
  pub multiple : AllDivide ps m
  pub least : (w : ℕ) → 1 ≤ w → AllDivide ps w → m ≤ w
  pub divides : (w : ℕ) → AllDivide ps w → m ∣ w

-- no number of the list is 0
abbrev pub AllPositive : List ℕ → Type 0
AllPositive ps = (i : ℕ) → i < length ps → 1 ≤ get_or ps i 1

-- what the search finds, for any numbers
abbrev pub LeastMultipleRight : Type 0
LeastMultipleRight = (ps : List ℕ) → AllPositive ps → IsLeastMultiple ps (least_multiple ps)

-- and there is only one
abbrev pub NoSecondMultiple : Type 0
NoSecondMultiple = (ps : List ℕ) (m w : ℕ) → IsLeastMultiple ps m → IsLeastMultiple ps w → m ≡ w

-- one number more: its product with the multiple of those before, divided by their common divisor
abbrev pub OneMore : Type 0
OneMore =
    (ps : List ℕ) (p m g : ℕ) → 1 ≤ p → IsLeastMultiple ps m → GreatestDivisor m p g → IsLeastMultiple (ps ++ (p ∷ [])) (m / g * p)

-- "above 10^12 print "over"": 10^12 itself is a number, and above it there is none
abbrev pub shown : ℕ → Option ℕ
shown m = pick (leb m 1000000000000) (Some m) None

-- at both sides of it. (10^12 is no table's: it is 2^12 · 5^12, and 5^12 is above every period.)
abbrev pub ShownDrawn : Type 0
ShownDrawn = (shown 1000000000000 ≡ Some 1000000000000) × (shown 1000000000001 ≡ None)

abbrev pub period_of : Task → ℕ
period_of t = t.period

-- "the periods' least common multiple"
abbrev pub hyperperiod_of : List Task → Option ℕ
hyperperiod_of tasks = shown (least_multiple (map period_of tasks))

-- no period of an accepted table is 0
abbrev pub TablePeriods : Type 0
TablePeriods = (bytes : List ℕ) → TableRight bytes → AllPositive (map period_of (tasks_of bytes))
