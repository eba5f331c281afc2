-- The sweep from the last row and the last task: what is kept of each semaphore gives B of each task.
-- Assumes nothing.
use Prim.Native.Nat.{ℕ, zero, suc, ◌+◌, ◌-◌, ◌≤◌, ◌<◌, max}
use native.Mathlib.Omega.{arith}
use native.Mathlib.Decide.{ℕ_discrete, dec_le, dec_lt}
use native.Mathlib.Nat.{le_refl}
use mathlib.Core.Path.{◌≡◌, refl, sym, ◌∙◌, ap, subst}
use mathlib.Core.Bool.{Bool, false}
use mathlib.Core.List.{List}
use mathlib.Core.Logic.{inl, inr}
use lib.Dec.{eqb, leb, ltb}
use lib.ListN.{length, get_or, set, length-set, replicate, length-replicate, get_or-replicate}
use lib.Seq.{get_or-set_same, get_or-set_other}
use borrow.Author.Tests.{eq-eqb, ne_eqb, lt-ltb, le-ltb, le-leb, lt-leb}
use Rattle.model.specs.Choice.{both, on}
use Rattle.model.specs.Lists.{total, largest_to, filled, word_of}
use Rattle.model.proofs.Lists.{largest_more, largest_none, largest_high, largest_low, largest_same}
use Rattle.model.proofs.Totals.{total_none, total_more, total_high}
use Rattle.model.proofs.Tests.{leb?, eqb?, on_high, both_fail}
use Rattle.model.proofs.Filling.{is_filled}
use Rattle.blocking.specs.Slices.{owner_at, claim_at, ceiling_in, section_at, blocking_at, RowsHeld}
use Rattle.blocking.specs.Sweep.{uses_at, rows_of, kept_with, SemaphoresHeld, Zeros}

-- the largest, where one of them has become larger
pub largest_raised : (f g : ℕ → ℕ) (n at v : ℕ) → at < n → f at ≡ max (g at) v → ((k : ℕ) → k < n → (k ≡ at → ⊥) → f k ≡ g k) →
    largest_to f n ≡ max (largest_to g n) v
unfolding largest_to
largest_raised f g zero at v h own other = absurd (omega arith)
largest_raised f g (suc n) at v h own other =
    elim (ℕ_discrete at n) [
      | yes e ↦
          let here : f n ≡ max (g n) v = subst (λ (k : ℕ). f k ≡ max (g k) v) e own in
          omega (arith, here, largest_same f g n (λ k l. other k (omega arith) (omega arith)))
      | no e ↦
          omega (arith, other n (omega arith) (omega arith), largest_raised f g n at v (omega arith) own (λ k l d. other k (omega arith) d))
    ]

-- what no next one exceeds, no later one does
pub falling : (f : ℕ → ℕ) (n : ℕ) → ((k : ℕ) → suc k < n → f (suc k) ≤ f k) → (j k : ℕ) → j ≤ k → k < n → f k ≤ f j
falling f n next zero zero h l = le_refl (f 0)
falling f n next (suc j) zero h l = absurd (omega arith)
falling f n next j (suc k) h l =
    elim (ℕ_discrete j (suc k)) [
      | yes e ↦ rw e (le_refl (f (suc k)))
      | no d ↦ omega (arith, falling f n next j k (omega arith) (omega arith), next k l)
    ]

-- the rows of each semaphore among the first k
module _ (semaphores : List ℕ) where
  pub record Counted (count k : ℕ) (found : List ℕ) : Type 0 where
    pub within : k ≤ count
    pub long : length found ≡ 17
    pub each : (s : ℕ) → s < 17 → get_or found s 0 ≡ rows_of semaphores s k

  pub counted_none : (count : ℕ) → Counted count 0 (replicate 17 0)
  counted_none count =
      record {
        within = omega arith;
        long = length-replicate {A = ℕ} 17 0;
        each = λ s h. get_or-replicate {A = ℕ} 17 s 0 0 h ∙ sym (total_none (uses_at semaphores s));
      }

  -- with one row more
  rows_own : (k : ℕ) → rows_of semaphores (get_or semaphores k 0) (k + 1) ≡ rows_of semaphores (get_or semaphores k 0) k + 1
  rows_own k = rw (total_more, eq-eqb (get_or semaphores k 0) (get_or semaphores k 0) refl)

  rows_other : (k s : ℕ) → (s ≡ get_or semaphores k 0 → ⊥) → rows_of semaphores s (k + 1) ≡ rows_of semaphores s k
  rows_other k s other =
      rw (total_more, ne_eqb (get_or semaphores k 0) s (λ (q : get_or semaphores k 0 ≡ s). other (sym q))) (omega arith)

  pub counted_more : (count k : ℕ) (found : List ℕ) → Counted count k found → k < count → get_or semaphores k 0 ≤ 16 →
      Counted count (k + 1) (set found (get_or semaphores k 0) (get_or found (get_or semaphores k 0) 0 + 1))
  counted_more count k found r h low =
      let own = get_or semaphores k 0 in
      record {
        within = omega arith;
        long = length-set found own (get_or found own 0 + 1) ∙ r.long;
        each = λ s below.
            elim (ℕ_discrete s own) [
              | yes same ↦
                  subst (λ (t : ℕ). get_or (set found own (get_or found own 0 + 1)) t 0 ≡ rows_of semaphores t (k + 1)) (sym same)
                  (get_or-set_same found own (get_or found own 0 + 1) 0 (omega (arith, r.long))
                  ∙ omega (arith, rows_own k, r.each own (omega arith)))
              | no other ↦ get_or-set_other found own s (get_or found own 0 + 1) 0 other ∙ r.each s below ∙ sym (rows_other k s other)
            ];
      }

  pub counted_all : (count k : ℕ) (found : List ℕ) → Counted count k found → count ≤ k →
      (s : ℕ) → s < 17 → get_or found s 0 ≡ rows_of semaphores s count
  counted_all count k found r h s below =
      let all : k ≡ count = omega (arith, r.within) in
      rw all at (r.each s below)

  -- a count of rows fits a word
  pub rows_high : (count k : ℕ) (found : List ℕ) → Counted count k found → (s : ℕ) → s ≤ 16 → get_or found s 0 ≤ k
  rows_high count k found r s low =
      omega (
        arith,
        r.each s (omega arith),
        total_high (uses_at semaphores s) k 1 (λ j l. on_high (eqb (get_or semaphores j 0) s) 1),
      )

-- the largest of the first s words that are kept
pub record Looked (kept : List ℕ) (s most : ℕ) : Type 0 where
  pub within : s ≤ 17
  pub is : most ≡ largest_to (word_of kept) s

module _ (kept : List ℕ) where
  pub looked_none : Looked kept 0 0
  looked_none = record { within = omega arith; is = sym (largest_none (word_of kept)) }

  pub looked_more : (s most next : ℕ) → Looked kept s most → s < 17 → next ≡ max most (get_or kept s 0) → Looked kept (s + 1) next
  looked_more s most next l h e = record { within = omega arith; is = rw (largest_more, ← l.is) e }

  pub looked_all : (s most : ℕ) → Looked kept s most → 17 ≤ s → most ≡ largest_to (word_of kept) 17
  looked_all s most l h =
      let all : s ≡ 17 = omega (arith, l.within) in
      rw all at l.is

-- a row taken in, at its semaphore
module _ (kept : List ℕ) (long : length kept ≡ 17) (semaphore : ℕ) (low : semaphore < 17) where
  pub taken_last : (rest section : ℕ) → rest ≡ 0 → set kept semaphore 0 ≡ set kept semaphore (kept_with rest section (word_of kept semaphore))
  taken_last rest section none = rw (eq-eqb rest 0 none)

  module _ (rest section : ℕ) (some : rest ≡ 0 → ⊥) (v : ℕ) (is : v ≡ max (get_or kept semaphore 0) section) where
    pub taken_on : set kept semaphore v ≡ set kept semaphore (kept_with rest section (word_of kept semaphore))
    taken_on = rw (ne_eqb rest 0 some, is)

    pub most_on : (most next : ℕ) → most ≡ largest_to (word_of kept) 17 → next ≡ max most section → next ≡ largest_to (word_of (set kept semaphore v)) 17
    most_on most next before e =
        e
        ∙ ap (λ (x : ℕ). max x section) before
        ∙ sym
        (largest_raised (word_of (set kept semaphore v)) (word_of kept) 17 semaphore section low
        (get_or-set_same kept semaphore v 0 (omega arith) ∙ is)
        (λ k l other. get_or-set_other kept semaphore k v 0 other))

-- Rows `left` to m − 1 have been taken in.
module _ (semaphores longest : List ℕ) (m : ℕ) where
  abbrev pub section_from : ℕ → ℕ → ℕ → ℕ
  section_from left s k = on (both (leb left k) (eqb (get_or semaphores k 0) s)) (get_or longest k 0)

  -- what is kept of semaphore s: the longest of its sections, as long as one of its rows is left
  abbrev pub kept_at : ℕ → ℕ → ℕ
  kept_at left s = on (ltb 0 (rows_of semaphores s left)) (largest_to (section_from left s) m)

  kept_none : (s : ℕ) → kept_at m s ≡ 0
  kept_none s =
      let none = largest_high (section_from m s) m 0 (λ k h. rw (lt-leb m k h) (omega arith)) in
      omega (arith, on_high (ltb 0 (rows_of semaphores s m)) (largest_to (section_from m s) m))

  -- a row more changes the section of that row alone
  from_other : (row s k : ℕ) → (k ≡ row → ⊥) → section_from row s k ≡ section_from (row + 1) s k
  from_other row s k other =
      elim (dec_lt row k) [
        | yes h ↦ rw (le-leb row k (omega arith), le-leb (row + 1) k (omega arith))
        | no h ↦ rw (lt-leb row k (omega arith), lt-leb (row + 1) k (omega arith))
      ]

  kept_own : (row : ℕ) → row < m →
      kept_with (rows_of semaphores (get_or semaphores row 0) row) (get_or longest row 0) (kept_at (row + 1) (get_or semaphores row 0))
      ≡ kept_at row (get_or semaphores row 0)
  kept_own row h =
      let s = get_or semaphores row 0 in
      elim (ℕ_discrete (rows_of semaphores s row) 0) [
        | yes e ↦ rw (eq-eqb (rows_of semaphores s row) 0 e, le-ltb 0 (rows_of semaphores s row) (omega arith))
        | no e ↦
            rw (
              ne_eqb (rows_of semaphores s row) 0 e,
              lt-ltb 0 (rows_of semaphores s row) (omega arith),
              lt-ltb 0 (rows_of semaphores s (row + 1)) (omega (arith, rows_own semaphores row)),
            )
            (sym
            (largest_raised (section_from row s) (section_from (row + 1) s) m row (get_or longest row 0) h
            (rw (le-leb row row (omega arith), lt-leb (row + 1) row (omega arith), eq-eqb s s refl) (omega arith))
            (λ k l other. from_other row s k other)))
      ]

  kept_other : (row s : ℕ) → (s ≡ get_or semaphores row 0 → ⊥) → kept_at (row + 1) s ≡ kept_at row s
  kept_other row s other =
      rw (rows_other semaphores row s other)
      (ap (on (ltb 0 (rows_of semaphores s row)))
      (largest_same (section_from (row + 1) s) (section_from row s) m
      (λ k h. elim (ℕ_discrete k row) [
        | yes e ↦
            rw (e, ne_eqb (get_or semaphores row 0) s (λ (q : get_or semaphores row 0 ≡ s). other (sym q)), both_none (leb (row + 1) row), both_none (leb row row))
        | no e ↦ sym (from_other row s k e)
      ])))
    where
      both_none : (b : Bool) → both b false ≡ false
      both_none b = both_fail b false refl

-- a semaphore that no row names
unused : (semaphores : List ℕ) (s left : ℕ) → rows_of semaphores s left ≡ 0 → (k : ℕ) → k < left → eqb (get_or semaphores k 0) s ≡ false
unfolding total
unused semaphores s zero none k h = absurd (omega arith)
unused semaphores s (suc left) none k h =
    elim (eqb? (get_or semaphores left 0) s) [
      | inl q ↦ let one : uses_at semaphores s left ≡ 1 = rw q.0 in absurd (omega (arith, none))
      | inr q ↦
          elim (ℕ_discrete k left) [
            | yes e ↦ rw e q.0
            | no e ↦ unused semaphores s left (omega (arith, none)) k (omega arith)
          ]
    ]

module _ (priorities places semaphores : List ℕ) where
  -- the ceiling of one that some row names, where no row's task is below p
  used : (s p left : ℕ) → 1 ≤ rows_of semaphores s left → ((k : ℕ) → k < left → p ≤ owner_at priorities places k) →
      p ≤ ceiling_in priorities places semaphores left s
  unfolding total largest_to
  used s p zero some above = absurd (omega (arith, some))
  used s p (suc left) some above =
      elim (eqb? (get_or semaphores left 0) s) [
        | inl q ↦
            let claim : claim_at priorities places semaphores s left ≡ owner_at priorities places left = rw q.0 in
            omega (arith, above left (omega arith))
        | inr q ↦
            let none : uses_at semaphores s left ≡ 0 = rw q.0 in
            omega (arith, used s p left (omega (arith, some)) (λ k h. above k (omega arith)))
      ]

  ceiling_more : (s left m : ℕ) → left ≤ m → ceiling_in priorities places semaphores left s ≤ ceiling_in priorities places semaphores m s
  ceiling_more s left m h =
      largest_high (claim_at priorities places semaphores s) left (ceiling_in priorities places semaphores m s)
      (λ k l. largest_low (claim_at priorities places semaphores s) m k (omega arith))

  -- Rows `left` to m − 1 are those whose tasks are below p. Then what is kept gives B of a task of priority p.
  module _ (longest : List ℕ) (m : ℕ) (low : (k : ℕ) → k < m → get_or semaphores k 0 ≤ 16) (left p : ℕ) (few : left ≤ m)
      (below : (k : ℕ) → left ≤ k → k < m → owner_at priorities places k < p) (above : (k : ℕ) → k < left → p ≤ owner_at priorities places k) where
    -- the ceiling of a semaphore of which no row is left
    passed : (s : ℕ) → rows_of semaphores s left ≡ 0 → 1 ≤ p → ceiling_in priorities places semaphores m s < p
    passed s none one =
        let high =
        largest_high (claim_at priorities places semaphores s) m (p - 1)
        (λ k h. elim (dec_lt k left) [
          | yes l ↦ rw (unused semaphores s left none k l) (omega arith)
          | no l ↦ omega (arith, on_high (eqb (get_or semaphores k 0) s) (owner_at priorities places k), below k (omega arith) h)
        ]) in
        omega arith

    -- and of one of which a row is left
    reaches : (s : ℕ) → 1 ≤ rows_of semaphores s left → p ≤ ceiling_in priorities places semaphores m s
    reaches s some = omega (arith, used s p left some above, ceiling_more s left m few)

    sections_kept : (k : ℕ) → k < m → section_at priorities places semaphores longest m p k ≤ largest_to (kept_at semaphores longest m left) 17
    sections_kept k h =
        let s = get_or semaphores k 0 in
        elim (dec_lt k left) [
          | yes l ↦ rw (le-ltb (owner_at priorities places k) p (above k l)) (omega arith)
          | no l ↦
              elim (ℕ_discrete (rows_of semaphores s left) 0) [
                | yes none ↦
                    rw (
                      lt-ltb (owner_at priorities places k) p (below k (omega arith) h),
                      lt-leb p (ceiling_in priorities places semaphores m s) (passed s none (omega (arith, below k (omega arith) h))),
                    )
                    (omega arith)
                | no some ↦
                    let own : section_from semaphores longest m left s k ≡ get_or longest k 0 = rw (le-leb left k (omega arith), eq-eqb s s refl) in
                    let all : kept_at semaphores longest m left s ≡ largest_to (section_from semaphores longest m left s) m =
                    rw (lt-ltb 0 (rows_of semaphores s left) (omega arith)) in
                    omega (
                      arith,
                      on_high (both (ltb (owner_at priorities places k) p) (leb p (ceiling_in priorities places semaphores m s))) (get_or longest k 0),
                      largest_low (section_from semaphores longest m left s) m k h,
                      largest_low (kept_at semaphores longest m left) 17 s (omega (arith, low k h)),
                    )
              ]
        ]

    kept_sections : (s : ℕ) → s < 17 →
        kept_at semaphores longest m left s ≤ largest_to (section_at priorities places semaphores longest m p) m
    kept_sections s within =
        elim (ℕ_discrete (rows_of semaphores s left) 0) [
          | yes none ↦ rw (le-ltb 0 (rows_of semaphores s left) (omega arith)) (omega arith)
          | no some ↦
              rw (lt-ltb 0 (rows_of semaphores s left) (omega arith))
              (largest_high (section_from semaphores longest m left s) m (largest_to (section_at priorities places semaphores longest m p) m)
              (λ k h. elim (leb? left k) [
                | inr l ↦ rw l.0 (omega arith)
                | inl l ↦
                    elim (eqb? (get_or semaphores k 0) s) [
                      | inr q ↦ rw (l.0, q.0) (omega arith)
                      | inl q ↦
                          let reached = reaches s (omega arith) in
                          let section : section_at priorities places semaphores longest m p k ≡ get_or longest k 0 =
                          rw (
                            lt-ltb (owner_at priorities places k) p (below k l.1 h),
                            q.1,
                            le-leb p (ceiling_in priorities places semaphores m s) reached,
                          ) in
                          omega (
                            arith,
                            on_high (both (leb left k) (eqb (get_or semaphores k 0) s)) (get_or longest k 0),
                            largest_low (section_at priorities places semaphores longest m p) m k h,
                          )
                    ]
              ]))
        ]

    pub kept_is_law : largest_to (section_at priorities places semaphores longest m p) m ≡ largest_to (kept_at semaphores longest m left) 17
    kept_is_law =
        omega (
          arith,
          largest_high (section_at priorities places semaphores longest m p) m (largest_to (kept_at semaphores longest m left) 17) sections_kept,
          largest_high (kept_at semaphores longest m left) 17 (largest_to (section_at priorities places semaphores longest m p) m) kept_sections,
        )

-- Before the next task or row is looked at: the tasks from place i on are answered, and rows `left` to m − 1 are taken in.
pub record Swept (priorities places semaphores longest : List ℕ) (n m : ℕ) (old held rows kept : List ℕ) (most left i : ℕ) : Type 0 where
  pub within : i ≤ n
  pub few : left ≤ m
  pub rows_long : length rows ≡ 17
  pub rows_left : (s : ℕ) → s < 17 → get_or rows s 0 ≡ rows_of semaphores s left
  pub kept_long : length kept ≡ 17
  pub kept_is : (s : ℕ) → s < 17 → get_or kept s 0 ≡ kept_at semaphores longest m left s
  pub most_is : most ≡ largest_to (word_of kept) 17
  -- the rows that are taken in block none of their own group
  pub below : (k : ℕ) → left ≤ k → k < m → (j : ℕ) → j < i → owner_at priorities places k < get_or priorities j 0
  pub long : length held ≡ length old
  pub answered : (j : ℕ) → i ≤ j → j < n → get_or held j 0 ≡ blocking_at priorities places semaphores longest m j
  pub waiting : (j : ℕ) → j < i → get_or held j 0 ≡ get_or old j 0
  pub later : (j : ℕ) → n ≤ j → get_or held j 0 ≡ get_or old j 0

module _ (priorities places semaphores longest : List ℕ) (n m : ℕ) (r : RowsHeld priorities places semaphores longest n m) where
  priorities_fall : (j k : ℕ) → j ≤ k → k < n → get_or priorities k 0 ≤ get_or priorities j 0
  priorities_fall j k h l = falling (word_of priorities) n r.not_rising j k h l

  owners_fall : (j k : ℕ) → j ≤ k → k < m → owner_at priorities places k ≤ owner_at priorities places j
  owners_fall j k h l =
      falling (owner_at priorities places) m
      (λ row inside. priorities_fall (get_or places row 0) (get_or places (suc row) 0) (r.not_falling row inside) (r.places_low (suc row) inside))
      j k h l

  pub semaphores_held : SemaphoresHeld semaphores m
  semaphores_held = record { few = r.few; long = r.semaphores_long; low = r.semaphores_low }

  -- where no row is left, no task that waits is blocked
  none_blocks : (i : ℕ) → ((k : ℕ) → k < m → (j : ℕ) → j < i → owner_at priorities places k < get_or priorities j 0) → (j : ℕ) → j < i →
      blocking_at priorities places semaphores longest m j ≡ 0
  unfolding blocking_at
  none_blocks i below j h =
      let nothing =
      largest_high (kept_at semaphores longest m 0) 17 0
      (λ s l. rw (total_none (uses_at semaphores s)) (omega arith)) in
      omega (
        arith,
        kept_is_law priorities places semaphores longest m r.semaphores_low 0 (get_or priorities j 0) (omega arith) (λ k _ l. below k l j h)
            (λ k l. absurd (omega arith)),
      )

  module _ (old : List ℕ) (zeros : Zeros old n) where
    pub swept_none : (rows : List ℕ) → length rows ≡ 17 → ((s : ℕ) → s < 17 → get_or rows s 0 ≡ rows_of semaphores s m) →
        Swept priorities places semaphores longest n m old old rows (replicate 17 0) 0 m n
    swept_none rows rows_long rows_left =
        record {
          within = omega arith;
          few = omega arith;
          rows_long = rows_long;
          rows_left = rows_left;
          kept_long = length-replicate {A = ℕ} 17 0;
          kept_is = λ s h. get_or-replicate {A = ℕ} 17 s 0 0 h ∙ sym (kept_none semaphores longest m s);
          most_is =
              let none = largest_high (word_of (replicate 17 0)) 17 0 (λ s h. omega (arith, get_or-replicate {A = ℕ} 17 s 0 0 h)) in
              omega arith;
          below = λ k h l. absurd (omega arith);
          long = refl;
          answered = λ j h l. absurd (omega arith);
          waiting = λ j h. refl;
          later = λ j h. refl;
        }

    module _ (held rows kept : List ℕ) (most left i : ℕ) (a : Swept priorities places semaphores longest n m old held rows kept most left i) where
      -- no row is left
      pub swept_out : left ≡ 0 → held ≡ filled (blocking_at priorities places semaphores longest m) n old
      swept_out none =
          is_filled (blocking_at priorities places semaphores longest m) n old held zeros.long a.long
          (λ j h. elim (dec_lt j i) [
            | yes l ↦ a.waiting j l ∙ zeros.each j h ∙ sym (none_blocks i (λ k g. a.below k (omega arith) g) j l)
            | no l ↦ a.answered j (omega arith) h
          ])
          a.later

      -- no task is left
      pub swept_all : i ≤ 0 → held ≡ filled (blocking_at priorities places semaphores longest m) n old
      swept_all none =
          is_filled (blocking_at priorities places semaphores longest m) n old held zeros.long a.long
          (λ j h. a.answered j (omega arith) h) a.later

      -- the last row that is left, where its task is less urgent than the one that waits
      module _ (some : left ≡ 0 → ⊥) where
        row_left : left - 1 < m
        row_left = omega (arith, a.few)

        pub semaphore_low : get_or semaphores (left - 1) 0 < 17
        semaphore_low = omega (arith, r.semaphores_low (left - 1) row_left)

        back : left - 1 + 1 ≡ left
        back = omega arith

        -- its semaphore has it to count
        pub one_left : get_or rows (get_or semaphores (left - 1) 0) 0 ≡ rows_of semaphores (get_or semaphores (left - 1) 0) (left - 1) + 1
        one_left =
            a.rows_left (get_or semaphores (left - 1) 0) semaphore_low
            ∙ ap (rows_of semaphores (get_or semaphores (left - 1) 0)) (sym back)
            ∙ rows_own semaphores (left - 1)

        pub swept_row : 0 < i → owner_at priorities places (left - 1) < get_or priorities (i - 1) 0 → (kept_next : List ℕ) (next : ℕ) →
            kept_next ≡ set kept (get_or semaphores (left - 1) 0)
            (kept_with (get_or rows (get_or semaphores (left - 1) 0) 0 - 1) (get_or longest (left - 1) 0) (get_or kept (get_or semaphores (left - 1) 0) 0)) →
            next ≡ largest_to (word_of kept_next) 17 →
            Swept priorities places semaphores longest n m old held
            (set rows (get_or semaphores (left - 1) 0) (get_or rows (get_or semaphores (left - 1) 0) 0 - 1)) kept_next next (left - 1) i
        swept_row waits less kept_next next kept_set next_is =
            let s = get_or semaphores (left - 1) 0 in
            let rest = get_or rows s 0 - 1 in
            let v = kept_with rest (get_or longest (left - 1) 0) (get_or kept s 0) in
            let rest_is : rest ≡ rows_of semaphores s (left - 1) = omega (arith, one_left) in
            let before : get_or kept s 0 ≡ kept_at semaphores longest m (left - 1 + 1) s =
            a.kept_is s semaphore_low ∙ ap (λ (x : ℕ). kept_at semaphores longest m x s) (sym back) in
            let own : v ≡ kept_at semaphores longest m (left - 1) s =
            rw (rest_is, before) (kept_own semaphores longest m (left - 1) row_left) in
            record {
              within = a.within;
              few = omega (arith, a.few);
              rows_long = length-set rows s rest ∙ a.rows_long;
              rows_left = λ t h.
                  elim (ℕ_discrete t s) [
                    | yes e ↦
                        subst (λ (u : ℕ). get_or (set rows s rest) u 0 ≡ rows_of semaphores u (left - 1)) (sym e)
                        (get_or-set_same rows s rest 0 (omega (arith, a.rows_long, semaphore_low)) ∙ rest_is)
                    | no e ↦
                        get_or-set_other rows s t rest 0 e
                        ∙ a.rows_left t h
                        ∙ ap (rows_of semaphores t) (sym back)
                        ∙ rows_other semaphores (left - 1) t e
                  ];
              kept_long = ap length kept_set ∙ length-set kept s v ∙ a.kept_long;
              kept_is = λ t h.
                  rw kept_set
                  (elim (ℕ_discrete t s) [
                    | yes e ↦
                        subst (λ (u : ℕ). get_or (set kept s v) u 0 ≡ kept_at semaphores longest m (left - 1) u) (sym e)
                        (get_or-set_same kept s v 0 (omega (arith, a.kept_long, semaphore_low)) ∙ own)
                    | no e ↦
                        get_or-set_other kept s t v 0 e
                        ∙ a.kept_is t h
                        ∙ ap (λ (x : ℕ). kept_at semaphores longest m x t) (sym back)
                        ∙ kept_other semaphores longest m (left - 1) t e
                  ]);
              most_is = next_is;
              below = λ k h l j g.
                  elim (dec_le left k) [
                    | yes q ↦ a.below k q l j g
                    | no q ↦
                        let same : k ≡ left - 1 = omega arith in
                        rw same (omega (arith, less, priorities_fall j (i - 1) (omega arith) (omega (arith, a.within))))
                  ];
              long = a.long;
              answered = a.answered;
              waiting = a.waiting;
              later = a.later;
            }

        -- and where it is not, all rows of less urgent tasks are taken in, and the task is answered
        pub swept_task : 0 < i → get_or priorities (i - 1) 0 ≤ owner_at priorities places (left - 1) →
            Swept priorities places semaphores longest n m old (set held (i - 1) most) rows kept most left (i - 1)
        unfolding blocking_at
        swept_task waits not_less =
            let inside : i - 1 < length held = omega (arith, a.long, a.within, zeros.long) in
            record {
              within = omega (arith, a.within);
              few = a.few;
              rows_long = a.rows_long;
              rows_left = a.rows_left;
              kept_long = a.kept_long;
              kept_is = a.kept_is;
              most_is = a.most_is;
              below = λ k h l j g. a.below k h l j (omega arith);
              long = length-set held (i - 1) most ∙ a.long;
              answered = λ j h l.
                  elim (ℕ_discrete j (i - 1)) [
                    | yes e ↦
                        subst
                        (λ (u : ℕ). get_or (set held (i - 1) most) u 0 ≡ largest_to (section_at priorities places semaphores longest m (get_or priorities u 0)) m)
                        (sym e)
                        (get_or-set_same held (i - 1) most 0 inside
                        ∙ a.most_is
                        ∙ largest_same (word_of kept) (kept_at semaphores longest m left) 17 a.kept_is
                        ∙ sym
                        (kept_is_law priorities places semaphores longest m r.semaphores_low left (get_or priorities (i - 1) 0) a.few
                        (λ k g q. a.below k g q (i - 1) (omega arith))
                        (λ k g. omega (arith, not_less, owners_fall k (left - 1) (omega arith) row_left))))
                    | no e ↦ get_or-set_other held (i - 1) j most 0 e ∙ a.answered j (omega arith) l
                  ];
              waiting = λ j h. get_or-set_other held (i - 1) j most 0 (omega arith) ∙ a.waiting j (omega arith);
              later = λ j h. get_or-set_other held (i - 1) j most 0 (omega (arith, a.within)) ∙ a.later j h;
            }
