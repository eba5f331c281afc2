-- Four ready words, drawn by hand: where bits stand, and which task they give (SPECIFICATION 9; document 02, L9).
-- Assumes nothing.
use Rattle.std.specs.Prelude.{ℕ, ◌≡◌, true, List, [], ◌∷◌, map, eqb}
use Rattle.model.specs.Choice.{pick, either}
use Rattle.model.specs.Lists.{tabulate, word_of}
use Rattle.machine.specs.Machine.{bit_at, mask, raised, in_word, next_place, ready_after, next_in}
use Rattle.machine.specs.Slices.{words_for}

-- the tasks at the places 66, 191 and 192 have work
abbrev pub drawn : List ℕ
drawn = 0 ∷ 4 ∷ 9223372036854775808 ∷ 1 ∷ []

-- what is left of them once the place's work is done
abbrev pub without : ℕ → List ℕ → List ℕ
without place words = tabulate (ready_after true place (word_of words)) 4

-- of 200 tasks that at the places 130 and 199 is due at 7, and the others later
abbrev pub due_at : ℕ → ℕ
due_at p = pick (either (eqb p 130) (eqb p 199)) 7 9

pub record WordsDrawn : Type 0 where
  -- "a shift makes each task's mask": the places 0, 63, 64 and 199
  pub masks : map mask (0 ∷ 63 ∷ 64 ∷ 199 ∷ []) ≡ 1 ∷ 9223372036854775808 ∷ 1 ∷ 128 ∷ []
  pub bits : map (bit_at (word_of drawn)) (2 ∷ 65 ∷ 66 ∷ 191 ∷ 192 ∷ 193 ∷ []) ≡ 0 ∷ 0 ∷ 1 ∷ 1 ∷ 1 ∷ 0 ∷ []
  -- the first of them, and the next ones as their work is done, up to none
  pub first : next_place (word_of drawn) ≡ 66
  pub second : next_place (word_of (without 66 drawn)) ≡ 191
  pub third : next_place (word_of (without 191 (without 66 drawn))) ≡ 192
  pub none : next_place (word_of (without 192 (without 191 (without 66 drawn)))) ≡ 256
  -- a bit is cleared in its own word alone: place 2 has bit 2 of the first word, place 66 that of the second
  pub own : without 2 drawn ≡ drawn
  -- 200 tasks take four words, the last of which has 8 of them, and 64 take one
  pub counts : map words_for (1 ∷ 64 ∷ 65 ∷ 192 ∷ 193 ∷ 200 ∷ []) ≡ 1 ∷ 1 ∷ 2 ∷ 3 ∷ 4 ∷ 4 ∷ []
  pub shares : tabulate (in_word 200) 4 ≡ 64 ∷ 64 ∷ 64 ∷ 8 ∷ []
  -- tick 7 releases two of 200 tasks, in the third and the fourth word, and no other word has one due
  pub nexts : tabulate (next_in due_at 200) 4 ≡ 9 ∷ 9 ∷ 7 ∷ 7 ∷ []
  pub released : raised due_at 7 128 0 64 ∷ raised due_at 7 192 1 8 ∷ [] ≡ 4 ∷ 129 ∷ []
