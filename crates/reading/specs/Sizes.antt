-- The sizes of what an entry lends, as the const parameters of a generic entry state them.
-- Assumes nothing.
use Rattle.std.specs.Prelude.{ℕ, ◌+◌, ◌*◌, ◌≡◌, ◌≤◌}

-- columns for `room` tasks take so many bytes and words (`reading::read`); no version has more than 200 tasks
pub record Sizes (room bytes words : ℕ) : Type 0 where
  pub most : room ≤ 200
  pub bytes_are : bytes ≡ room + 128
  pub words_are : words ≡ 5 * room + 64
