-- The first five bytes: which refusal the tests lead to.
-- Assumes nothing.
use Rattle.std.specs.Prelude.{Ok, Err}
use Prim.Native.Nat.{ℕ, ◌+◌, ◌*◌, ◌≤◌, ◌<◌}
use native.Mathlib.Omega.{arith}
use mathlib.Core.Path.{◌≡◌, sym, ◌∙◌, ap, subst}
use mathlib.Core.Bool.{Bool, true, false}
use mathlib.Core.List.{List}
use lib.Dec.{eqb}
use lib.ListN.{length}
use borrow.Author.Tests.{le-leb, lt-leb, eq-eqb, ne_eqb}
use Rattle.model.proofs.Tests.{both_fail}
use Rattle.tables.specs.declared.layout.Layout.{Layout}
use Rattle.tables.specs.declared.Refusal.{Refusal}
use Rattle.tables.specs.declared.Refusal.TheVariants.{TooShort, UnknownVersion, CountOutOfRange, LengthsDiffer}
use Rattle.tables.specs.Layout.{layout_of, task_count, row_count, stated_length, length_for, Sound}
use Rattle.tables.specs.Refusals.{offset, first_in, unless, or_else, fields_check}
use Rattle.tables.specs.Rules.{between, count_test, lengths_agree}
use Rattle.tables.specs.Checks.{counts_check, head_check}
use Rattle.tables.proofs.LayoutLaws.{known_means, layout_sound, start_small}
use Rattle.tables.proofs.MeaningLaws.{between_means}

module _ (bytes : List ℕ) where
  pub head_short : length bytes < 5 → Err TooShort ≡ head_check bytes
  unfolding first_in head_check unless or_else
  head_short h = rw (lt-leb 5 (length bytes) h)

  module _ (layout : Layout) (decided : layout ≡ layout_of bytes) (long : 5 ≤ length bytes) where
    knows : {known : Bool} → layout.known ≡ known → (layout_of bytes).known ≡ known
    knows h = sym (ap (λ (l : Layout). l.known) decided) ∙ h

    pub head_version : layout.known ≡ false → Err UnknownVersion ≡ head_check bytes
    unfolding first_in head_check unless or_else
    head_version h = rw (le-leb 5 (length bytes) long, knows h)

    module _ (version : layout.known ≡ true) where
      head_counts : (r : Refusal) → counts_check bytes ≡ Err r → Err r ≡ head_check bytes
      unfolding first_in head_check unless or_else
      head_counts r h = rw (le-leb 5 (length bytes) long, knows version, h)

      -- the test of n, as the code has read it, is the rule's
      n_test : {n : ℕ} {fits : Bool} → n ≡ task_count bytes → between 1 layout.most n ≡ fits → between 1 (layout_of bytes).most (task_count bytes) ≡ fits
      n_test {n} tasks h =
          sym (ap (between 1 (layout_of bytes).most) tasks) ∙ sym (ap (λ (l : Layout). between 1 l.most n) decided) ∙ h

      -- n is out of range
      pub head_tasks : (n : ℕ) → n ≡ task_count bytes → between 1 layout.most n ≡ false → Err (CountOutOfRange (offset 3)) ≡ head_check bytes
      unfolding counts_check fields_check first_in unless or_else count_test
      head_tasks n e h = head_counts (CountOutOfRange (offset 3)) (rw (n_test e h))

      -- n is in range, and m is not
      pub head_rows : (n m : ℕ) → n ≡ task_count bytes → m ≡ row_count bytes → between 1 layout.most n ≡ true → between 0 64 m ≡ false →
          Err (CountOutOfRange (offset 4)) ≡ head_check bytes
      unfolding counts_check fields_check first_in unless or_else count_test
      head_rows n m tasks rows n_fits h =
          head_counts (CountOutOfRange (offset 4)) (rw (n_test tasks n_fits, sym (ap (between 0 64) rows) ∙ h))

      module _ (n m : ℕ) (tasks : n ≡ task_count bytes) (rows : m ≡ row_count bytes) (n_fits : between 1 layout.most n ≡ true)
          (m_fits : between 0 64 m ≡ true) where
        counts : counts_check bytes ≡ Ok tt
        unfolding counts_check fields_check first_in unless or_else count_test
        counts = rw (n_test tasks n_fits, sym (ap (between 0 64) rows) ∙ m_fits)

        pub head_lengths : lengths_agree bytes ≡ false → Err LengthsDiffer ≡ head_check bytes
        unfolding first_in head_check unless or_else
        head_lengths h = rw (le-leb 5 (length bytes) long, knows version, counts, h)

        pub head_stated : (stated_length bytes ≡ length bytes → ⊥) → Err LengthsDiffer ≡ head_check bytes
        unfolding lengths_agree
        head_stated h = head_lengths (rw (ne_eqb (stated_length bytes) (length bytes) h))

        -- the length that the code has summed up is the rule's
        summed_is : 5 + layout.size * n + 6 * m ≡ length_for (layout_of bytes) (task_count bytes) (row_count bytes)
        summed_is =
            ap (λ (l : Layout). length_for l n m) decided
            ∙ ap (λ (t : ℕ). length_for (layout_of bytes) t m) tasks
            ∙ ap (length_for (layout_of bytes) (task_count bytes)) rows

        pub head_summed : (5 + layout.size * n + 6 * m ≡ length bytes → ⊥) → Err LengthsDiffer ≡ head_check bytes
        unfolding lengths_agree
        head_summed h =
            head_lengths
            (both_fail (eqb (stated_length bytes) (length bytes)) _
            (ne_eqb (length_for (layout_of bytes) (task_count bytes) (row_count bytes)) (length bytes) (λ e. h (summed_is ∙ e))))

        pub head_clean : stated_length bytes ≡ length bytes → 5 + layout.size * n + 6 * m ≡ length bytes → Ok tt ≡ head_check bytes
        unfolding first_in head_check lengths_agree unless or_else
        head_clean stated summed =
            rw (
              le-leb 5 (length bytes) long,
              knows version,
              counts,
              eq-eqb (stated_length bytes) (length bytes) stated,
              eq-eqb (length_for (layout_of bytes) (task_count bytes) (row_count bytes)) (length bytes) (sym summed_is ∙ summed),
            )

    -- the length does not run away while it is summed up
    pub summed_small : (n : ℕ) → n ≡ task_count bytes → between 1 layout.most n ≡ true → layout.known ≡ true → layout.size * n ≤ 5355
    summed_small n tasks n_fits known =
        let version = known_means bytes (knows known) in
        let sound = subst Sound (sym decided) (layout_sound bytes version) in
        omega (arith, start_small layout sound {n = n} (omega (arith, (between_means 1 layout.most n n_fits).high, sound.few)))
