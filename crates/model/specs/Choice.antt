-- A case picked by a test.
-- Assumes nothing.
use Rattle.std.specs.Prelude.{ℕ, Bool, true, false}

-- x where the test passes, y where it fails
abbrev pub pick : {A : Type 0} → Bool → A → A → A
pick true x y = x
pick false x y = y

-- both tests pass
abbrev pub both : Bool → Bool → Bool
both true b = b
both false b = false

-- at least one of two tests passes
abbrev pub either : Bool → Bool → Bool
either true b = true
either false b = b

-- n where the test passes, 0 where it fails
abbrev pub on : Bool → ℕ → ℕ
on b n = pick b n 0
