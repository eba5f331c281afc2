-- What a method that appends to a page leaves of it: the text grows as `Appended` says, and the page keeps its buffer.
-- Assumes nothing.
use Rattle.std.specs.Prelude.{ℕ, ◌≡◌, List}
use Rattle.printing.specs.declared.page.Page.{Page}
use Rattle.printing.specs.Appended.{Appended}

pub record Wrote (old : Page) (more : List ℕ) (new : Page) : Type 0 where
  pub appended : Appended old.out.now old.at more new.at new.out.now
  pub same_buffer : new.out.ghost_name ≡ old.out.ghost_name
