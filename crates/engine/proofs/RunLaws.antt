-- The engine beside the run in which all tasks are released together: the same work at every tick, and the equation's answers.
-- Assumes nothing.
use Prim.Native.Nat.{ℕ, zero, suc, ◌+◌, ◌*◌, ◌-◌, ◌≤◌, ◌<◌}
use native.Mathlib.Nat.{mul-le-mul_right, mul-zero, mul-one, le_refl}
use native.Mathlib.Decide.{ℕ_discrete, dec_le}
use native.Mathlib.Omega.{arith}
use mathlib.Core.Path.{◌≡◌, refl, sym, ◌∙◌, ap}
use mathlib.Core.Bool.{Bool, false}
use mathlib.Core.Logic.{inl, inr}
use mathlib.Core.List.{List}
use lib.Dec.{eqb}
use lib.ListN.{length}
use borrow.Author.Tests.{eq-eqb, ne_eqb}
use Rattle.model.specs.Choice.{on}
use Rattle.model.specs.Search.{first_from}
use Rattle.model.specs.Tables.{Task, task_of, loads_of, Falling}
use Rattle.model.proofs.Loads.{falling_alone}
use Rattle.model.proofs.Tests.{eqb?, clash}
use Rattle.model.proofs.Search.{found, finds, none, missed}
use Rattle.equation.specs.Rounding.{ceil_div}
use Rattle.equation.proofs.Laws.{rounding_up, answer_means}
use Rattle.machine.specs.Machine.{State, is_due, is_done, played, is_quiet, ticks_played}
use Rattle.machine.proofs.MachineLaws.{in_tick, first_held, left_step, due_is_law, ready_bits, next_none, next_is}
use Rattle.runs.specs.Jobs.{Job, job_of, TasksFit, NoDelay}
use Rattle.runs.specs.Schedule.{Service, idle, serves, Schedule, LegalSchedule}
use Rattle.runs.specs.Scheduler.{schedule_of}
use Rattle.runs.specs.Statement.{response_of}
use Rattle.runs.specs.Synchronous.{synchronous, work_left}
use Rattle.runs.proofs.TickLaws.{fresh, served_place, work_none, work_next, work_serves, work_idle, first_done}
use Rattle.runs.proofs.Together.{first_job_law}
use Rattle.runs.proofs.EquationRight.{synchronous_is_worst}
use Rattle.runs.proofs.Compute.{schedule_exists}
use Rattle.engine.specs.Run.{periods_of, costs_of, engine_after, engine_serves, engine_answer, EveryTick, EveryLimit, FirstJobDone, PlayedIsAnswer}

-- a multiple of d that is not before n, and less than d after it, is n rounded up
rounds_to : (n d k : ℕ) → 1 ≤ d → n ≤ k * d → k * d < n + d → ceil_div n d ≡ k
rounds_to n d k low enough near =
    let most : ceil_div n d ≤ k = rounding_up.least n d k low enough in
    elim (dec_le k (ceil_div n d)) [
      | yes h ↦ omega arith
      | no h ↦
          let less : suc (ceil_div n d) ≤ k = omega arith in
          absurd (omega (arith, rounding_up.enough n d low, mul-le-mul_right d less))
    ]

-- a release at the multiples of d adds the cost as often as rounding up rises from t to the next number: once or not at all
begins : (t d cost : ℕ) → 1 ≤ d → on (eqb (ceil_div t d * d) t) cost ≡ cost * (ceil_div (suc t) d - ceil_div t d)
begins t d cost low =
    let rounded : ℕ = ceil_div t d in
    elim (eqb? (rounded * d) t) [
      | inl e ↦
          let next = rounds_to (suc t) d (suc rounded) low (omega (arith, e.1)) (omega (arith, e.1)) in
          let more : ceil_div (suc t) d - rounded ≡ 1 = omega (arith, next) in
          rw (e.0, more) (sym (mul-one cost))
      | inr e ↦
          let next = rounding_up.least (suc t) d rounded low (omega (arith, rounding_up.enough t d low, e.1)) in
          let more : ceil_div (suc t) d - rounded ≡ 0 = omega (arith, next) in
          rw (e.0, more) (sym (mul-zero cost))
    ]

module _ (tasks : List Task) (fit : TasksFit tasks) where
  -- the engine's next release of a task is t rounded up to a multiple of the period
  next_release : (t p : ℕ) → p < length tasks →
      (engine_after tasks t).due p ≡ ceil_div t (task_of tasks p).period * (task_of tasks p).period
  next_release t p is_task =
      let next = due_is_law (periods_of tasks) (costs_of tasks) (length tasks) fit.period_low t p is_task in
      let rounded = rounds_to t (task_of tasks p).period next.0 (fit.period_low p is_task)
      (omega (arith, next.1, next.2)) (omega (arith, next.1, next.3)) in
      next.1 ∙ ap (λ (k : ℕ). k * (task_of tasks p).period) (sym rounded)

  -- so what its releases add is what is fresh in the run
  released_fresh : (t p : ℕ) → p < length tasks → on (is_due (engine_after tasks t).due t p) (task_of tasks p).cost ≡ fresh tasks t p
  released_fresh t p is_task =
      ap (λ (due : ℕ). on (eqb due t) (task_of tasks p).cost) (next_release t p is_task)
      ∙ begins t (task_of tasks p).period (task_of tasks p).cost (fit.period_low p is_task)

  module _ (falling : Falling tasks) (few : length tasks ≤ 200) (ticks : ℕ) (s : Schedule) (law : LegalSchedule tasks ticks (synchronous tasks ticks) s) where
    abbrev jobs : List Job
    jobs = synchronous tasks ticks

    -- the engine has left at each place what the run has left
    abbrev SameWork : ℕ → Type 0
    SameWork t = (p : ℕ) → p < length tasks → (engine_after tasks t).left p ≡ work_left jobs s t p

    -- a tick of the run, before which they have the same
    module _ (t : ℕ) (in_run : t < ticks) (same : SameWork t) where
      abbrev left_in : ℕ → ℕ
      left_in = (in_tick (periods_of tasks) (costs_of tasks) (length tasks) t).left

      -- they have the same once its releases are made
      same_released : (p : ℕ) → p < length tasks → left_in p ≡ work_left jobs s t p + fresh tasks t p
      same_released p is_task = omega (arith, same p is_task, released_fresh t p is_task)

      -- it serves the place of the job that the schedule serves, or none
      serves_job : (j : ℕ) → s t ≡ serves j → engine_serves tasks t ≡ (job_of jobs j).place
      serves_job j e =
          let found = work_serves tasks fit falling ticks s law t j in_run e in
          let place : ℕ = (job_of jobs j).place in
          next_is (periods_of tasks) (costs_of tasks) (length tasks) (omega (arith, few)) fit.cost_low t place found.0
          (omega (arith, same_released place found.0, found.1))
          (λ p l. same_released p (omega (arith, found.0)) ∙ found.2 p l)

      serves_none : s t ≡ idle → engine_serves tasks t ≡ 256
      serves_none e =
          next_none (periods_of tasks) (costs_of tasks) (length tasks) (omega (arith, few)) fit.cost_low t
          (λ p is_task. same_released p is_task ∙ work_idle tasks fit ticks s law t in_run e p is_task)

      -- so it takes as much from each place
      same_served : (p : ℕ) → p < length tasks → (v : Service) → s t ≡ v → on (eqb p (engine_serves tasks t)) 1 ≡ served_place jobs v p
      same_served p is_task idle e = rw (ne_eqb p (engine_serves tasks t) (omega (arith, serves_none e))) refl
      same_served p is_task (serves j) e =
          elim (eqb? (job_of jobs j).place p) [
            | inl y ↦ rw (y.0, eq-eqb p (engine_serves tasks t) (omega (arith, serves_job j e, y.1))) refl
            | inr n ↦ rw (n.0, ne_eqb p (engine_serves tasks t) (omega (arith, serves_job j e, n.1))) refl
          ]

      -- and they have the same after it
      same_next : SameWork (suc t)
      same_next p is_task =
          omega (
            arith,
            left_step (periods_of tasks) (costs_of tasks) (length tasks) t p,
            same_released p is_task,
            same_served p is_task (s t) refl,
            work_next tasks fit ticks s law t p in_run is_task,
          )

    -- so they have the same at every tick of the run
    same_work : (t : ℕ) → t ≤ ticks → SameWork t
    same_work zero h p is_task =
        ap (λ (state : State). state.left p) (first_held (periods_of tasks) (costs_of tasks) (length tasks))
        ∙ sym (work_none tasks fit ticks s law p)
    same_work (suc t) h p is_task = same_next t h (same_work t (omega arith)) p is_task

module _ (period cost : ℕ → ℕ) (n : ℕ) where
  abbrev quiet : ℕ → Bool
  quiet = is_quiet period cost n

  -- a play that finds no quiet tick goes to its limit, and one that finds one stops there
  plays_all : (limit : ℕ) → first_from quiet 1 limit ≡ 0 → ticks_played period cost n limit ≡ limit
  unfolding ticks_played
  plays_all limit nothing = rw nothing

  plays_some : (limit : ℕ) → ¬ (first_from quiet 1 limit ≡ 0) → ticks_played period cost n limit ≡ first_from quiet 1 limit
  unfolding ticks_played
  plays_some limit some = rw (ne_eqb (first_from quiet 1 limit) 0 some)

  -- no tick before where a play stops is quiet
  plays_busy : (limit v : ℕ) → 1 ≤ v → v < ticks_played period cost n limit → quiet v ≡ false
  plays_busy limit v low h =
      elim (ℕ_discrete (first_from quiet 1 limit) 0) [
        | yes nothing ↦ missed quiet 1 limit (omega arith) nothing v low (omega (arith, plays_all limit nothing))
        | no some ↦ (found quiet 1 limit (omega arith) (omega arith)).first v low (omega (arith, plays_some limit some))
      ]

  every_limit_law : (limit t : ℕ) → t ≤ ticks_played period cost n limit → ticks_played period cost n t ≡ t
  every_limit_law limit t h =
      elim (ℕ_discrete (first_from quiet 1 t) 0) [
        | yes nothing ↦ plays_all t nothing
        | no some ↦
            let stop = found quiet 1 t (omega arith) (omega arith) in
            elim (ℕ_discrete (first_from quiet 1 t) t) [
              | yes e ↦ plays_some t some ∙ e
              | no d ↦
                  absurd (clash (quiet (first_from quiet 1 t)) stop.passes
                  (plays_busy limit (first_from quiet 1 t) stop.low (omega (arith, stop.high))))
            ]
      ]

pub every_limit : EveryLimit
every_limit = every_limit_law

pub every_tick : EveryTick
every_tick tasks fit falling few ticks s law t h =
    let same = same_work tasks fit falling few ticks s law t h in
    record {
      work = same;
      ready = ready_bits (periods_of tasks) (costs_of tasks) (length tasks) (omega (arith, few)) fit.cost_low t;
      served = λ j in_run. serves_job tasks fit falling few ticks s law t in_run same j;
      none = λ in_run. serves_none tasks fit falling few ticks s law t in_run same;
    }

pub first_job_done : FirstJobDone
first_job_done tasks fit falling few ticks s law i j is_task first x low short h =
    let same = (every_tick tasks fit falling few ticks s law x h).work i is_task in
    let done = first_done tasks fit ticks s law i j x is_task first low (omega (arith, fit.deadline_high i is_task)) h in
    record { finished = λ e. done.0 (sym same ∙ e); no_work = λ finished. same ∙ done.1 finished }

module _ (tasks : List Task) (fit : TasksFit tasks) (falling : Falling tasks) (calm : NoDelay tasks) (few : length tasks ≤ 200) (i : ℕ) (is_task : i < length tasks) where
  -- its deadline, its answer, and the test that the engine searches by
  abbrev deadline : ℕ
  deadline = (task_of tasks i).deadline

  abbrev answer : ℕ
  answer = response_of tasks i

  abbrev test : ℕ → Bool
  test = is_done (periods_of tasks) (costs_of tasks) (length tasks) i

  -- up to the deadline no work is left exactly from the answer on, if it is not 0
  done_from : (x : ℕ) → 1 ≤ x → x ≤ deadline →
      (1 ≤ answer → answer ≤ x → (engine_after tasks x).left i ≡ 0) × ((engine_after tasks x).left i ≡ 0 → (1 ≤ answer) × (answer ≤ x))
  done_from x low short =
      let first = first_job_law tasks fit deadline (fit.deadline_low i is_task) i is_task in
      let law = schedule_exists tasks deadline (synchronous tasks deadline) in
      let s : Schedule = schedule_of tasks (synchronous tasks deadline) in
      let alone = falling_alone tasks falling i is_task in
      let worst = synchronous_is_worst tasks fit calm deadline s law i first.0 is_task alone first.1 x short short in
      let done = first_job_done tasks fit falling few deadline s law i first.0 is_task first.1 x low short short in
      (λ some enough. done.no_work (worst.in_time some enough), λ e. worst.not_before (done.finished e))

  -- the engine's test fails at each tick before the answer, and at each up to the deadline if the answer is 0
  fails : (x : ℕ) → 1 ≤ x → x ≤ deadline → (1 ≤ answer → x < answer) → test x ≡ false
  fails x low short before =
      ne_eqb ((engine_after tasks x).left i) 0
      (λ e. let done = (done_from x low short).1 e in omega (arith, before done.0, done.1))

  -- so the engine's search finds the answer
  search_answer : engine_answer tasks i ≡ answer
  unfolding played
  search_answer =
      elim (ℕ_discrete answer 0) [
        | yes z ↦ none test 1 deadline (λ x l h. fails x l (omega arith) (λ some. absurd (omega arith))) ∙ sym z
        | no d ↦
            let some : 1 ≤ answer = omega arith in
            let found = answer_means.positive (task_of tasks i).cost (loads_of tasks i) 0 deadline some in
            let short : answer ≤ deadline = omega (arith, found.2, found.3) in
            finds test 1 deadline answer
            (record {
              passes = eq-eqb ((engine_after tasks answer).left i) 0 ((done_from answer some short).0 some (le_refl answer));
              low = some;
              high = omega arith;
              first = λ x l h. fails x l (omega arith) (λ some. h);
            })
      ]

pub played_is_answer : PlayedIsAnswer
played_is_answer = search_answer
