-- A comparison of two integers.
use Rattle.std.specs.Prelude.{ℕ, Bool}
use Rattle.gen_tree.specs.Tree.{Int}
use Rattle.gen_tree.specs.declared.Cmp.{Cmp}
use Rattle.design_core.specs.Design.{Gens}
use Rattle.elab_core.specs.Walk.{Walk, Gives, ◌>>=◌}
use Rattle.elab_core.specs.Numbers.{two_numbers, holds}

-- whether it holds, or the fault of an integer
unfoldable pub compares : ℕ → Gens → Int → Cmp → Int → Walk Bool
compares line gens left cmp right = do
  pair ← two_numbers line gens left right
  Gives (holds cmp pair.0 pair.1)
