-- What is known before each read.
-- Assumes nothing.
use Prim.Native.Nat.{ℕ, ◌+◌, ◌<◌}
use native.Mathlib.Omega.{arith}
use mathlib.Core.Path.{◌≡◌, sym, ◌∙◌, subst}
use mathlib.Core.List.{List, ◌++◌}
use lib.ListN.{length, take, length-append}
use Rattle.io.specs.Counts.{IsPrefixLen}
use Rattle.intake.specs.Intake.{Condition, State, held, Takes}
use Rattle.intake.specs.Events.{Keeps}
use Rattle.intake.proofs.EventLaws.{keeps_taken}

-- The loop of `take_all`: so many bytes are read.
pub record Sofar (store₀ store : List ℕ) (fill : ℕ) (piece : List ℕ) (total : ℕ) : Type 0 where
  pub bytes : List ℕ
  pub long : length bytes ≡ total
  pub keeps : Keeps bytes (held store fill)
  pub most : total < 4590 + 4096
  pub piece_long : length piece ≡ 4096
  pub store_long : length store ≡ length store₀

pub sofar_more : {store₀ store piece kept : List ℕ} {fill next total : ℕ} {condition : Condition} → Sofar store₀ store fill piece total →
    (got : List ℕ) (count : ℕ) → length got ≡ 4096 → IsPrefixLen count got → total < 4590 →
    Takes (held store fill) (take count got) condition (held kept next) → length kept ≡ length store →
    Sofar store₀ kept next got (total + count)
sofar_more {store₀} {store} {piece} {kept} {fill} {next} s got count room counts h t k =
    record {
      bytes = s.bytes ++ take count got;
      long = omega (arith, length-append s.bytes (take count got), s.long, counts.1);
      keeps =
          subst (λ (state : State). Keeps (s.bytes ++ take count got) state) (sym t.state_is)
          (keeps_taken (held store fill) (take count got) s.keeps);
      most = omega (arith, h, counts.0, room);
      piece_long = room;
      store_long = k ∙ s.store_long;
    }
