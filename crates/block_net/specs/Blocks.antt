-- A block's terms and log as contracts see them, and what they tell of it.
use Rattle.std.specs.Prelude.{◌≡◌, ℕ, ◌<◌, Bool, false, List, length, map, Option, Some, if◌then◌else◌}
use Rattle.tree_core.specs.Tree.{Tree, Const, Leaf}
use Rattle.exec_core.specs.Block.{Name, Expr, Key, Now, Next, Body}
use Rattle.exec_core.specs.Exec.{Env, State, put, shown, whole_held, zero_of}
use Rattle.exec_core.specs.Trees.{block_rows, block_trees, tree_start}
use Rattle.names.specs.Maps.{value_of}
use Rattle.block_net.specs.declared.effect.Effect.{Effect}
use Rattle.block_net.specs.declared.held.Held as code_held
use Rattle.block_net.specs.declared.term.Term.{Term}
use Rattle.block_net.specs.declared.term.TermId.{TermId}
use Rattle.block_net.specs.Terms.{tree_at, trees_of}
use Rattle.block_net.specs.Logs.{AreWithin, ends_of, rows_of}
use Rattle.block_net.specs.Walks.{FitBy, env_by}

-- the terms, the log, and what names have at the end, and registers in the next cycle
pub record BlockParts : Type 0 where
  pub terms : List Term
  pub log : List Effect
  pub names : List (Name × Option TermId)
  pub registers : List (Name × Option TermId)

-- what each key has at the end
abbrev pub ends_in : BlockParts → Env (Tree Name)
ends_in parts = env_by parts.terms (value_of parts.names) (value_of parts.registers)

-- each id is that of a term
pub record AreLinked (parts : BlockParts) : Type 0 where
  pub log : AreWithin parts.terms parts.log
  pub ends : FitBy parts.terms (value_of parts.names) (value_of parts.registers)

-- they tell of a block exactly its rows, and the trees that it ends with, where names have these widths
pub record Tells (parts : BlockParts) (width : Name → ℕ) (body : Body) : Type 0 where
  pub rows : rows_of parts.terms parts.log (shown width (tree_start width body)) ≡ block_rows width body
  pub ends : ends_in parts ≡ block_trees width body
  pub log_ends : ends_of parts.terms parts.log (shown width (tree_start width body)) ≡ block_trees width body

-- a term has this tree
pub record TellsExpr (terms : List Term) (id : TermId) (e : Expr) : Type 0 where
  pub within : id.0 < length terms
  pub is : tree_at (trees_of terms) id.0 ≡ e

-- what is shown of the names of a map
abbrev pub shown_ids : List (Name × code_held.Held) → List (Name × Option TermId)
shown_ids names = map (λ e. (e.0, e.1.shown)) names

-- before a block whose own names are these
abbrev pub begun : (Name → ℕ) → (Key → Bool) → State (Tree Name)
begun width keys (Now x) = if keys (Now x) then record { pending = Some (Const (zero_of (width x))); bits = λ i. false } else whole_held (Leaf x)
begun width keys (Next x) = whole_held (Leaf x)

-- one more own name, if the key is that of one
abbrev pub hide : (Name → ℕ) → Key → State (Tree Name) → State (Tree Name)
hide width (Now x) trees = put (Now x) (record { pending = Some (Const (zero_of (width x))); bits = λ i. false }) trees
hide width (Next x) trees = trees
