-- What a set of jobs weighs that is released in a window of ticks: windows put together, and sets put together.
-- Assumes nothing.
use Prim.Native.Nat.{ℕ, ◌+◌, ◌≤◌, ◌<◌}
use native.Mathlib.Nat.{add-zero, zero-add}
use native.Mathlib.Omega.{arith}
use mathlib.Core.Path.{◌≡◌, refl, sym, ◌∙◌, ap}
use mathlib.Core.Logic.{◌⊎◌, inl, inr}
use mathlib.Core.Bool.{Bool, true}
use mathlib.Core.List.{List}
use lib.ListN.{length}
use lib.Dec.{leb, ltb, eqb}
use borrow.Author.Tests.{lt-ltb, lt-leb, le-leb, eq-eqb}
use Rattle.model.specs.Choice.{pick, both, on}
use Rattle.model.specs.Lists.{total}
use Rattle.model.proofs.Tests.{bool?, leb?, ltb?}
use Rattle.runs.specs.Jobs.{Job, job_of}
use Rattle.model.proofs.Totals.{total_mono, total_same, total_add}
use Rattle.runs.proofs.Sums.{total_zero, total_apart, total_swap, total_on}

-- a job's weight, if it is of the set and released in the ticks from `from` and before `to`; else 0
unfoldable pub within : (Job → Bool) → (Job → ℕ) → ℕ → ℕ → Job → ℕ
within set weight from to job =
    pick (both (set job) (both (leb from job.release) (ltb job.release to))) (weight job) 0

-- the weight of all such jobs
abbrev pub released : (Job → Bool) → (Job → ℕ) → List Job → ℕ → ℕ → ℕ
released set weight jobs from to = total (λ j. within set weight from to (job_of jobs j)) (length jobs)

abbrev pub need_of : Job → ℕ
need_of job = job.need

abbrev pub one : Job → ℕ
one job = 1

pub record IsWithin (set : Job → Bool) (from to : ℕ) (job : Job) : Type 0 where
  pub is_in : set job ≡ true
  pub late : from ≤ job.release
  pub early : job.release < to

module _ (set : Job → Bool) (weight : Job → ℕ) where
  pub within_is : (from to : ℕ) (job : Job) → IsWithin set from to job → within set weight from to job ≡ weight job
  unfolding within
  within_is from to job i = rw (i.is_in, le-leb from job.release i.late, lt-ltb job.release to i.early) refl

  -- a job counts or it does not
  pub within? : (from to : ℕ) (job : Job) → IsWithin set from to job ⊎ (within set weight from to job ≡ 0)
  unfolding within
  within? from to job =
      elim (bool? (set job)) [
        | inr p ↦ inr (rw p refl)
        | inl p ↦ elim (leb? from job.release) [
          | inr q ↦ inr (rw (p, q.0) refl)
          | inl q ↦ elim (ltb? job.release to) [
            | inr u ↦ inr (rw (p, q.0, u.0) refl)
            | inl u ↦ inl (record { is_in = p; late = q.1; early = u.1 })
          ]
        ]
      ]

  pub within_split : (a b c : ℕ) (job : Job) → a ≤ b → b ≤ c →
      within set weight a c job ≡ within set weight a b job + within set weight b c job
  unfolding within
  within_split a b c job h k =
      elim (bool? (set job)) [
        | inr p ↦ rw p refl
        | inl p ↦ elim (leb? a job.release) [
          | inr q ↦ rw (p, q.0, lt-leb b job.release (omega arith)) refl
          | inl q ↦ elim (ltb? job.release b) [
            | inl u ↦
                rw (p, q.0, u.0, lt-leb b job.release (omega arith), lt-ltb job.release c (omega arith)) (sym (add-zero (weight job)))
            | inr u ↦ rw (p, q.0, u.0, le-leb b job.release (omega arith)) (sym (zero-add (pick (ltb job.release c) (weight job) 0)))
          ]
        ]
      ]

  pub released_split : (jobs : List Job) (a b c : ℕ) → a ≤ b → b ≤ c →
      released set weight jobs a c ≡ released set weight jobs a b + released set weight jobs b c
  released_split jobs a b c h k =
      total_same (λ j. within set weight a c (job_of jobs j))
      (λ j. within set weight a b (job_of jobs j) + within set weight b c (job_of jobs j)) (length jobs)
      (λ j l. within_split a b c (job_of jobs j) h k)
      ∙ total_add (λ j. within set weight a b (job_of jobs j)) (λ j. within set weight b c (job_of jobs j)) (length jobs)

  pub released_empty : (jobs : List Job) (a : ℕ) → released set weight jobs a a ≡ 0
  released_empty jobs a =
      total_zero (λ j. within set weight a a (job_of jobs j)) (length jobs)
      (λ j l. elim (within? a a (job_of jobs j)) [ inl i ↦ absurd (omega arith) | inr z ↦ z ])

-- the jobs of one place, and those of the places that pass a test
abbrev pub is_of : ℕ → Job → Bool
is_of p job = eqb job.place p

abbrev pub of_places : (ℕ → Bool) → Job → Bool
of_places test job = test job.place

module _ (test : ℕ → Bool) (weight : Job → ℕ) (a b m : ℕ) where
  -- what a job weighs in the set of a place, if the place passes the test
  abbrev weighed : Job → ℕ → ℕ
  weighed job p = on (test p) (within (is_of p) weight a b job)

  -- a job of a place before m that passes the test weighs as much in the set of its place
  within_place : (job : Job) → job.place < m → within (of_places test) weight a b job ≤ total (weighed job) m
  within_place job l =
      elim (within? (of_places test) weight a b job) [
        | inr z ↦ omega arith
        | inl i ↦
            omega (
              arith,
              within_is (of_places test) weight a b job i,
              within_is (is_of job.place) weight a b job
                  (record { is_in = eq-eqb job.place job.place refl; late = i.late; early = i.early }),
              ap (λ (c : Bool). on c (within (is_of job.place) weight a b job)) i.is_in,
              total_apart test (λ p. within (is_of p) weight a b job) job.place m l,
            )
      ]

  -- where all jobs are of places before m, those that pass weigh at most what each such place weighs, put together
  pub released_places : (jobs : List Job) → ((j : ℕ) → j < length jobs → (job_of jobs j).place < m) →
      released (of_places test) weight jobs a b ≤ total (λ p. on (test p) (released (is_of p) weight jobs a b)) m
  released_places jobs inside =
      omega (
        arith,
        total_mono (λ j. within (of_places test) weight a b (job_of jobs j)) (λ j. total (weighed (job_of jobs j)) m) (length jobs)
            (λ j l. within_place (job_of jobs j) (inside j l)),
        total_swap (λ j. weighed (job_of jobs j)) m (length jobs),
        total_same (λ p. total (λ j. weighed (job_of jobs j) p) (length jobs)) (λ p. on (test p) (released (is_of p) weight jobs a b)) m
            (λ p l. total_on (test p) (λ j. within (is_of p) weight a b (job_of jobs j)) (length jobs)),
      )
