-- The turns of a loop.
use Rattle.std.specs.Prelude.{ℕ, ℤ}
use Rattle.gen_tree.specs.Tree.{Int}
use Rattle.design_core.specs.Design.{Gens}
use Rattle.elab_core.specs.Walk.{Walk, Gives, ◌>>=◌}
use Rattle.elab_core.specs.Numbers.{two_numbers, turn_count}

-- the number of the first turn, and how many there are
unfoldable pub turns_at : ℕ → Gens → Int → Int → Walk (ℤ × ℕ)
turns_at line gens from to = do
  range ← two_numbers line gens from to
  count ← turn_count line range.0 range.1
  Gives (range.0, count)
