-- The sentences of demand 2 leave no second result.
-- Assumes nothing.
use Prim.Native.Nat.{ℕ, ◌≤◌, ◌<◌}
use native.Mathlib.Omega.{arith}
use native.Mathlib.Decide.{dec_le}
use mathlib.Core.Path.{◌≡◌, refl, sym, ◌∙◌, ap}
use mathlib.Core.Logic.{inl, inr}
use mathlib.Core.List.{List}
use lib.ListN.{length}
use lib.Seq.{ext_get_or}
use Rattle.model.specs.Lists.{word_of}
use Rattle.model.specs.Tables.{Table}
use Rattle.model.specs.declared.Place.{Place}
use Rattle.tables.specs.Layout.{task_count, table_of}
use Rattle.equation.specs.declared.Start.{Start}
use Rattle.answering.specs.declared.Verdict.{Verdict}
use Rattle.answering.specs.declared.Verdict.TheVariants as verdict
use Rattle.response.specs.Statements.{AnswerRight, RoundsRight, ResultRight, OnlyWritten}
use Rattle.response.proofs.Demands.{same_left}

module _ (table : Table) (i : ℕ) where
  -- no answer is found and missed
  never : (found missed : ℕ) → AnswerRight table i found → AnswerRight table i missed → 1 ≤ found → missed ≡ 0 → ⊥
  never found missed f m one none =
      let w = f.answered one in
      omega (arith, w.2, w.3, m.late none w.0 w.1)

  -- and two that are found are one
  found_once : (R other : ℕ) → AnswerRight table i R → AnswerRight table i other → 1 ≤ R → 1 ≤ other → R ≡ other
  found_once R other a b one two =
      let v = a.answered one in
      let w = b.answered two in
      omega (
        arith,
        v.2,
        w.2,
        v.1.least w.0 w.1.positive w.1.solution,
        w.1.least v.0 v.1.positive v.1.solution,
      )

  only_answer : (R other : ℕ) → AnswerRight table i R → AnswerRight table i other → R ≡ other
  only_answer R other a b =
      elim (dec_le 1 R) [
        | yes one ↦
            elim (dec_le 1 other) [
              | yes two ↦ found_once R other a b one two
              | no none ↦ absurd (never R other a b one (omega arith))
            ]
        | no none ↦
            elim (dec_le 1 other) [
              | yes two ↦ absurd (never other R b a two (omega arith))
              | no neither ↦ omega arith
            ]
      ]

  -- of two rounds neither is the smaller
  only_rounds : (start : Start) (k other : ℕ) → RoundsRight start table i k → RoundsRight start table i other → k ≡ other
  only_rounds start k other a b = omega (arith, not_below k other a b, not_below other k b a)
    where
      not_below : (first second : ℕ) → RoundsRight start table i first → RoundsRight start table i second → second ≤ first
      not_below first second f s =
          elim (dec_le second first) [
            | yes h ↦ h
            | no h ↦
                let on = s.first first f.positive (omega arith) in
                elim f.last [
                  | inl same ↦ absurd (on.0 same)
                  | inr late ↦ absurd (omega (arith, late, on.1))
                ]
          ]

-- and so is the verdict, by the first answer that is 0
only_verdict : (answers : ℕ → ℕ) (n : ℕ) (v w : Verdict) → ResultRight answers n v → ResultRight answers n w → v ≡ w
only_verdict answers n (verdict.Refused r) w a b = absurd a
only_verdict answers n verdict.Schedulable (verdict.Refused r) a b = absurd b
only_verdict answers n verdict.Schedulable verdict.Schedulable a b = refl
only_verdict answers n verdict.Schedulable (verdict.Late p) a b = absurd (omega (arith, a p.0 b.0, b.1))
only_verdict answers n (verdict.Late p) (verdict.Refused r) a b = absurd b
only_verdict answers n (verdict.Late p) verdict.Schedulable a b = absurd (omega (arith, b p.0 a.0, a.1))
only_verdict answers n (verdict.Late p) (verdict.Late q) a b =
    ap verdict.Late (same_place p q (omega (arith, not_before_law p q a b, not_before_law q p b a)))
  where
    same_place : (p q : Place) → p.0 ≡ q.0 → p ≡ q
    same_place p q e = λ i. record { 0 = e i }

    not_before_law : (p q : Place) → ResultRight answers n (verdict.Late p) → ResultRight answers n (verdict.Late q) → q.0 ≤ p.0
    not_before_law p q late later =
        elim (dec_le q.0 p.0) [
          | yes h ↦ h
          | no h ↦ absurd (omega (arith, late.1, later.2 p.0 (omega arith)))
        ]

-- words that are determined up to n and stay behind it
only_words : (n : ℕ) (old new other : List ℕ) → length new ≡ length old → length other ≡ length old →
    ((i : ℕ) → i < n → word_of new i ≡ word_of other i) →
    ((i : ℕ) → n ≤ i → word_of new i ≡ word_of old i) → ((i : ℕ) → n ≤ i → word_of other i ≡ word_of old i) → new ≡ other
only_words n old new other long same each stay stays =
    ext_get_or 0 new other (long ∙ sym same)
    (λ i h.
    elim (dec_le n i) [
      | yes past ↦ stay i past ∙ sym (stays i past)
      | no here ↦ each i (omega arith)
    ])

pub only_written : OnlyWritten
only_written start lent result other a b =
    same_left result other verdicts answers rounds
  where
    n : ℕ
    n = task_count lent.bytes

    answers : result.answers ≡ other.answers
    answers =
        only_words n lent.answers result.answers other.answers a.answers_long b.answers_long
        (λ i h. only_answer (table_of lent.bytes) i _ _ (a.answers_right i h) (b.answers_right i h)) a.answers_stay b.answers_stay

    rounds : result.rounds ≡ other.rounds
    rounds =
        only_words n lent.rounds result.rounds other.rounds a.rounds_long b.rounds_long
        (λ i h. only_rounds (table_of lent.bytes) i start _ _ (a.rounds_right i h) (b.rounds_right i h)) a.rounds_stay b.rounds_stay

    verdicts : result.verdict ≡ other.verdict
    verdicts =
        only_verdict (word_of other.answers) n result.verdict other.verdict (rw answers at a.verdict_right) b.verdict_right
