-- The laws of the equation, as named statements: each for any list of loads. Their proofs are in proofs/.
-- Assumes nothing.
use Rattle.std.specs.Prelude.{ℕ, suc, ◌+◌, ◌*◌, ◌-◌, ◌≤◌, ◌<◌, ◌≡◌, true, false, List, length, get_or}
use Rattle.model.specs.Lists.{sum_of}
use Rattle.model.specs.Tables.{Load}
use Rattle.equation.specs.Rounding.{ceil_div}
use Rattle.equation.specs.Demand.{demand}
use Rattle.equation.specs.Answer.{smallest, answer}
use Rattle.equation.specs.Sequence.{term, stops, rounds}

-- Rounding up is the least k with k · d ≥ n; it is monotone; and it is exact at multiples.
pub record RoundingUp : Type 0 where
  pub enough : (n d : ℕ) → 1 ≤ d → n ≤ ceil_div n d * d
  pub least : (n d k : ℕ) → 1 ≤ d → n ≤ k * d → ceil_div n d ≤ k
  pub monotone : (m n d : ℕ) → m ≤ n → ceil_div m d ≤ ceil_div n d
  pub exact : (k d : ℕ) → 1 ≤ d → ceil_div (k * d) d ≡ k

-- Demand is monotone in w, and at least base.
pub record DemandGrows : Type 0 where
  pub monotone : (base : ℕ) (loads : List Load) (v w : ℕ) → v ≤ w → demand base loads v ≤ demand base loads w
  pub at_least_base : (base : ℕ) (loads : List Load) (w : ℕ) → base ≤ demand base loads w

-- "The task's w is the smallest whole number of at least 1 with demand(i, w) = w", said without a search.
pub record IsSmallest (base : ℕ) (loads : List Load) (w : ℕ) : Type 0 where
  pub positive : 1 ≤ w
  pub solution : demand base loads w ≡ w
  pub least : (v : ℕ) → 1 ≤ v → demand base loads v ≡ v → w ≤ v

-- What the search of the definition finds, and that it misses nothing up to its limit.
pub record SmallestMeans : Type 0 where
  pub found : (base : ℕ) (loads : List Load) (limit : ℕ) →
      1 ≤ smallest base loads limit → IsSmallest base loads (smallest base loads limit)
  pub limited : (base : ℕ) (loads : List Load) (limit : ℕ) → smallest base loads limit ≤ limit
  pub complete : (base : ℕ) (loads : List Load) (limit w : ℕ) →
      IsSmallest base loads w → w ≤ limit → smallest base loads limit ≡ w

-- "Its answer is w + J_i if such a w exists and w + J_i ≤ D_i; else 0."
pub record AnswerMeans : Type 0 where
  pub answered : (base : ℕ) (loads : List Load) (late deadline w : ℕ) →
      IsSmallest base loads w → w + late ≤ deadline → answer base loads late deadline ≡ w + late
  pub positive : (base : ℕ) (loads : List Load) (late deadline : ℕ) → 1 ≤ answer base loads late deadline →
      (w : ℕ) × IsSmallest base loads w × (w + late ≤ deadline) × (answer base loads late deadline ≡ w + late)

-- If demand(w) ≤ w for some w ≥ 1, a smallest solution exists and is at most that w.
abbrev pub SmallestExists : Type 0
SmallestExists =
    (base : ℕ) (loads : List Load) (w : ℕ) → 1 ≤ base → 1 ≤ w → demand base loads w ≤ w →
    (v : ℕ) × IsSmallest base loads v × (v ≤ w)

-- So, if that w with the delay is within the deadline, the task has an answer, and it is no later.
abbrev pub EnoughInTime : Type 0
EnoughInTime =
    (base : ℕ) (loads : List Load) (late deadline w : ℕ) → 1 ≤ base → 1 ≤ w → demand base loads w ≤ w → w + late ≤ deadline →
    (1 ≤ answer base loads late deadline) × (answer base loads late deadline ≤ w + late)

-- A start that is above no solution: where the sequence may begin.
abbrev pub NotAbove : ℕ → List Load → ℕ → Type 0
NotAbove base loads start = (w : ℕ) → 1 ≤ w → demand base loads w ≡ w → start ≤ w

-- Where the base is raised, every solution is raised by no less: so the smallest solution, raised by as much, is such a start for the raised base.
abbrev pub RaisedNotAbove : Type 0
RaisedNotAbove =
    (base : ℕ) (loads : List Load) (more w : ℕ) → 1 ≤ base → IsSmallest base loads w → NotAbove (base + more) loads (w + more)

-- The sequence from such a start: no term passes a solution; it rises strictly until it stops; so it reaches the smallest
-- solution, in at most as many steps as lie between.
pub record SequenceReaches : Type 0 where
  pub passes_none : (base : ℕ) (loads : List Load) (start w k : ℕ) →
      start ≤ w → demand base loads w ≡ w → term base loads start k ≤ w
  pub rises : (base : ℕ) (loads : List Load) (start k : ℕ) → 1 ≤ base → NotAbove base loads start →
      (term base loads start (suc k) ≡ term base loads start k → ⊥) → term base loads start k < term base loads start (suc k)
  pub reaches : (base : ℕ) (loads : List Load) (start w : ℕ) → 1 ≤ base → start ≤ w →
      IsSmallest base loads w → term base loads start (w - start) ≡ w

-- "The sources start at C (000), at 0 (004) and at the sum of costs (002). All reach the same w."
abbrev pub cost_of : Load → ℕ
cost_of l = l.cost

-- a load that asks for nothing: what stands past the end of a list of loads
abbrev pub no_load : Load
no_load = record { period = 1; cost = 0; spread = 0 }

abbrev pub ThreeStarts : Type 0
ThreeStarts =
    (base : ℕ) (loads : List Load) (w : ℕ) → 1 ≤ base →
    ((k : ℕ) → k < length loads → 1 ≤ (get_or loads k no_load).period) →
    IsSmallest base loads w →
    (term base loads 0 (w - 0) ≡ w)
    × (term base loads base (w - base) ≡ w)
    × (term base loads (base + sum_of cost_of loads) (w - (base + sum_of cost_of loads)) ≡ w)

-- "Rounds is the smallest k ≥ 1 with x_k = x_(k−1) or x_k + J_i > D_i", said without a search.
pub record RoundsMean : Type 0 where
  pub stop : (base : ℕ) (loads : List Load) (start late deadline : ℕ) → 1 ≤ base → NotAbove base loads start →
      stops base loads start late deadline (rounds base loads start late deadline) ≡ true
  pub first : (base : ℕ) (loads : List Load) (start late deadline k : ℕ) → 1 ≤ k →
      k < rounds base loads start late deadline → stops base loads start late deadline k ≡ false

-- "Show that rounds is at most D_i − J_i − x0 + 1 when x0 + J_i ≤ D_i, and is 1 otherwise."
pub record RoundsBound : Type 0 where
  pub positive : (base : ℕ) (loads : List Load) (start late deadline : ℕ) → 1 ≤ base → NotAbove base loads start →
      1 ≤ rounds base loads start late deadline
  pub within : (base : ℕ) (loads : List Load) (start late deadline : ℕ) → 1 ≤ base → NotAbove base loads start →
      start + late ≤ deadline → rounds base loads start late deadline ≤ deadline - late - start + 1
  pub otherwise : (base : ℕ) (loads : List Load) (start late deadline : ℕ) → 1 ≤ base → NotAbove base loads start →
      deadline < start + late → rounds base loads start late deadline ≡ 1
