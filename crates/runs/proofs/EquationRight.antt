-- Demand 3 over any list of tasks: no job of any run exceeds the answer of the equation; and for a task whose priority no other task has the
-- answer is the longest response time, no other number is, and the run in which all is released together is one that takes that long.
-- Assumes nothing.
use Prim.Native.Nat.{ℕ, zero, suc, ◌+◌, ◌-◌, ◌≤◌, ◌<◌}
use native.Mathlib.Nat.{le_trans, le_refl, le_of_eq, add-zero}
use native.Mathlib.Omega.{arith}
use mathlib.Core.Path.{◌≡◌, refl, ◌∙◌}
use mathlib.Core.List.{List}
use lib.ListN.{length}
use Rattle.model.specs.Tables.{Task, task_of, loads_of, Alone}
use Rattle.equation.specs.Demand.{demand}
use Rattle.equation.specs.Laws.{IsSmallest}
use Rattle.equation.proofs.Laws.{answer_means, smallest_exists}
use Rattle.runs.specs.Jobs.{Job, job_of, TasksFit, NoDelay}
use Rattle.runs.specs.Schedule.{Schedule, Finished, LegalSchedule, Run}
use Rattle.runs.specs.Scheduler.{schedule_of}
use Rattle.runs.specs.Statement.{response_of, OwnJob, release_of, FinishedAt, NoneExceeds, Answers, EnoughInRuns, EquationRight, OnlyAnswer}
use Rattle.runs.specs.Synchronous.{synchronous, FirstJob, SynchronousIsWorst}
use Rattle.runs.proofs.Served.{served_grows}
use Rattle.runs.proofs.Upper.{finished_in_time}
use Rattle.runs.proofs.Together.{synchronous_legal, first_job_law}
use Rattle.runs.proofs.Lower.{finished_demand}
use Rattle.runs.proofs.Compute.{schedule_exists}

module _ (tasks : List Task) (fit : TasksFit tasks) (calm : NoDelay tasks) (i : ℕ) (is_task : i < length tasks) where
  -- w is the smallest solution
  abbrev Smallest : ℕ → Type 0
  Smallest w = IsSmallest (task_of tasks i).cost (loads_of tasks i) w

  -- where the answer is above 0, it is the smallest solution, and within the deadline
  answered : 1 ≤ response_of tasks i → Smallest (response_of tasks i) × (response_of tasks i ≤ (task_of tasks i).deadline)
  answered low =
      let found = answer_means.positive (task_of tasks i).cost (loads_of tasks i) 0 (task_of tasks i).deadline low in
      let same : response_of tasks i ≡ found.0 = found.3 ∙ add-zero found.0 in
      (rw same found.1, omega (arith, found.2))

  -- no job of any run exceeds a w that is enough, whoever shares the task's priority
  enough : (w : ℕ) → w ≤ (task_of tasks i).period → demand (task_of tasks i).cost (loads_of tasks i) w ≤ w → NoneExceeds tasks i w
  enough w short holds low run job h =
      finished_in_time tasks fit.period_low run.ticks run.jobs run.legal_jobs calm i is_task run.schedule run.legal_schedule
      job.number w job.is_job job.is_own low short holds h

  -- so none exceeds the answer
  none_exceeds : NoneExceeds tasks i (response_of tasks i)
  none_exceeds low =
      let best = answered low in
      enough (response_of tasks i) (le_trans best.1 (fit.deadline_high i is_task)) (le_of_eq best.0.solution) low

  -- the run of so many ticks in which all is released together, with any legal schedule
  together : (ticks : ℕ) (s : Schedule) → LegalSchedule tasks ticks (synchronous tasks ticks) s → Run tasks
  together ticks s law =
      record {
        ticks = ticks;
        jobs = synchronous tasks ticks;
        schedule = s;
        legal_jobs = synchronous_legal tasks fit ticks;
        legal_schedule = law;
      }

  -- its first job of i
  first_own : (ticks : ℕ) (s : Schedule) (law : LegalSchedule tasks ticks (synchronous tasks ticks) s) (j : ℕ) →
      FirstJob (synchronous tasks ticks) i j → OwnJob tasks i (together ticks s law)
  unfolding together
  first_own ticks s law j own = record { number = j; is_job = own.is_job; is_own = own.is_own }

  module _ (ticks : ℕ) (s : Schedule) (law : LegalSchedule tasks ticks (synchronous tasks ticks) s) (j : ℕ)
      (own : FirstJob (synchronous tasks ticks) i j) (x : ℕ) (in_run : x ≤ ticks) where
    abbrev jobs : List Job
    jobs = synchronous tasks ticks

    -- where all is released together, the first job of i is finished from the answer on
    in_time_law : 1 ≤ response_of tasks i → response_of tasks i ≤ x → Finished jobs s j x
    unfolding together first_own
    in_time_law low enough =
        le_trans (none_exceeds low (together ticks s law) (first_own ticks s law j own) (omega (arith, own.at_once)))
        (served_grows s j ((job_of jobs j).release + response_of tasks i) x (omega (arith, own.at_once)))

    -- and, if no other task has the priority of i, at no tick before
    not_before_law : Alone tasks i → x ≤ (task_of tasks i).deadline → Finished jobs s j x → (1 ≤ response_of tasks i) × (response_of tasks i ≤ x)
    not_before_law alone short done =
        let found =
        finished_demand tasks fit ticks s law i j is_task alone own calm x in_run (le_trans short (fit.deadline_high i is_task)) done in
        let least = smallest_exists (task_of tasks i).cost (loads_of tasks i) found.0 (fit.cost_low i is_task) found.1 found.3 in
        let v : ℕ = least.0 in
        let early : v ≤ x = le_trans least.2 found.2 in
        let same : response_of tasks i ≡ v + 0 =
        answer_means.answered (task_of tasks i).cost (loads_of tasks i) 0 (task_of tasks i).deadline v least.1 (omega arith) in
        omega (arith, least.1.positive)

  -- the run in which all is released together, with the computed schedule
  worst : ℕ → Run tasks
  worst ticks = together ticks (schedule_of tasks (synchronous tasks ticks)) (schedule_exists tasks ticks (synchronous tasks ticks))

  module _ (alone : Alone tasks i) where
    -- up to the deadline it has a job, released at 0, that is finished at no tick before the answer, and at none if the answer is 0
    late : (ticks : ℕ) → 1 ≤ ticks → ticks ≤ (task_of tasks i).deadline → (job : OwnJob tasks i (worst ticks)) × (release_of job ≡ 0) ×
        ((x : ℕ) → x ≤ ticks → FinishedAt job x → (1 ≤ response_of tasks i) × (response_of tasks i ≤ x))
    unfolding together first_own worst
    late ticks low short =
        let s : Schedule = schedule_of tasks (synchronous tasks ticks) in
        let law : LegalSchedule tasks ticks (synchronous tasks ticks) s = schedule_exists tasks ticks (synchronous tasks ticks) in
        let found = first_job_law tasks fit ticks low i is_task in (
          first_own ticks s law found.0 found.1,
          found.1.at_once,
          λ x h. not_before_law ticks s law found.0 found.1 x h alone (le_trans h short),
        )

    answers : Answers tasks i (response_of tasks i)
    unfolding together worst
    answers =
        record {
          upper = none_exceeds;
          needs_all = λ low. let one = late (response_of tasks i) low (answered low).1 in (
            worst (response_of tasks i),
            one.0,
            omega (arith, one.1),
            λ done. omega (arith, one.2 _ (omega (arith, one.1)) done, one.1),
          );
          missed = λ none. let one = late (task_of tasks i).deadline (fit.deadline_low i is_task) (le_refl (task_of tasks i).deadline) in (
            worst (task_of tasks i).deadline,
            one.0,
            omega (arith, one.1),
            λ done. omega (arith, one.2 _ (omega (arith, one.1)) done),
          );
        }

pub enough_in_runs : EnoughInRuns
enough_in_runs = enough

pub equation_right : EquationRight
equation_right = record { first_half = none_exceeds; both_halves = answers }

pub synchronous_is_worst : SynchronousIsWorst
synchronous_is_worst tasks fit calm ticks s law i j is_task alone own x h short =
    record {
      in_time = in_time_law tasks fit calm i is_task ticks s law j own x h;
      not_before = not_before_law tasks fit calm i is_task ticks s law j own x h alone short;
    }

module _ (tasks : List Task) (i : ℕ) where
  -- of two such numbers that are not 0 none is the smaller
  not_smaller : (R other : ℕ) → Answers tasks i R → Answers tasks i other → 1 ≤ R → ¬ (R < other)
  not_smaller R other small large low less =
      let worst = large.needs_all (omega arith) in
      let run = worst.0 in
      let job = worst.1 in
      let r : ℕ = release_of job in
      let in_run : r + other ≤ run.ticks = worst.2 in
      worst.3 (le_trans (small.upper low run job (omega arith))
      (served_grows run.schedule job.number (r + R) (r + other - 1) (omega arith)))

  -- a number that is not 0 and within the deadline says that no job is late
  not_missed : (R : ℕ) → R ≤ (task_of tasks i).deadline → Answers tasks i R → 1 ≤ R → Answers tasks i 0 → ⊥
  not_missed R short large low none =
      let late = none.missed refl in
      let run = late.0 in
      let job = late.1 in
      let r : ℕ = release_of job in
      let in_run : r + (task_of tasks i).deadline ≤ run.ticks = late.2 in
      late.3 (le_trans (large.upper low run job (omega arith))
      (served_grows run.schedule job.number (r + R) (r + (task_of tasks i).deadline) (omega arith)))

pub only_answer : OnlyAnswer
only_answer tasks i zero zero short near one two = refl
only_answer tasks i zero (suc other) short near one two = absurd (not_missed tasks i (suc other) near two (omega arith) one)
only_answer tasks i (suc R) zero short near one two = absurd (not_missed tasks i (suc R) short one (omega arith) two)
only_answer tasks i (suc R) (suc other) short near one two =
    omega (arith, not_smaller tasks i (suc R) (suc other) one two (omega arith), not_smaller tasks i (suc other) (suc R) two one (omega arith))
