-- What a walk through a block writes down, and what it tells: which slots come, and which keys are set between them.
use Rattle.std.specs.Prelude.{List, [], ◌∷◌}
use Rattle.tree_core.specs.Tree.{Tree}
use Rattle.exec_core.specs.Block.{Name, Key, Now, Next}
use Rattle.exec_core.specs.Exec.{Env, put}
use Rattle.exec_core.specs.Trees.{Row}
use Rattle.block_net.specs.declared.key.Key as code
use Rattle.block_net.specs.declared.key.Key.TheVariants as keys
use Rattle.block_net.specs.declared.effect.Effect.{Effect}
use Rattle.block_net.specs.declared.effect.Effect.TheVariants.{Set, Slot}
use Rattle.block_net.specs.declared.term.Term.{Term}
use Rattle.block_net.specs.Terms.{IsWithin, tree_for}

abbrev pub key_of : code.Key → Key
key_of (keys.Now x) = Now x
key_of (keys.Next x) = Next x

-- the rows that a log tells, where each key has this before it: a row for each slot, and each key that is set has the new tree
-- from there on
abbrev pub rows_of : List Term → List Effect → Env (Tree Name) → List Row
rows_of ns [] trees = []
rows_of ns (Set key id ∷ log) trees = rows_of ns log (put (key_of key) (tree_for ns id) trees)
rows_of ns (Slot slot enable ∷ log) trees = record { slot = slot; enable = tree_for ns enable; before = trees } ∷ rows_of ns log trees

-- what each key has after it
abbrev pub ends_of : List Term → List Effect → Env (Tree Name) → Env (Tree Name)
ends_of ns [] trees = trees
ends_of ns (Set key id ∷ log) trees = ends_of ns log (put (key_of key) (tree_for ns id) trees)
ends_of ns (Slot slot enable ∷ log) trees = ends_of ns log trees

-- each id in it is that of a term
abbrev pub AreWithin : List Term → List Effect → Type 0
AreWithin ns [] = Unit {0}
AreWithin ns (Set key id ∷ log) = IsWithin ns id × AreWithin ns log
AreWithin ns (Slot slot enable ∷ log) = IsWithin ns enable × AreWithin ns log
