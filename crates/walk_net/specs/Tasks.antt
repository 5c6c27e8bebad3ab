-- The walk as tasks on a stack.
use Rattle.std.specs.Prelude.{◌≡◌, ℕ, zero, suc, ◌+◌, ◌*◌, ◌<◌, List, [], ◌∷◌, length, Option, Some, None}
use Rattle.bv_core.specs.declared.reference.NodeId.{NodeId}
use Rattle.tree_core.specs.Tree.{Const, Leaf, One, Two, Mux, Whole}
use Rattle.list_core.specs.Lists.{IsIn}
use Rattle.exec_core.specs.Kept.{add, walk}
use Rattle.net_core.specs.Nodes.{Shape, Fixed, TopInput, Register, OfOne, OfTwo, OfMux, tree_of}
use Rattle.walk_net.specs.declared.task.Task.{Task}
use Rattle.walk_net.specs.declared.task.Task.TheVariants.{Enter, Leave}

-- what a task does to the numbered trees
abbrev pub did : List Shape → Task → List Whole → List Whole
did ns (Enter id) ts = walk (tree_of ns id.0) ts
did ns (Leave id) ts = add (tree_of ns id.0) ts

-- what a stack of tasks does, the last of which is done first
unfoldable pub all_done : List Shape → List Task → List Whole → List Whole
all_done ns [] ts = ts
all_done ns (task ∷ tasks) ts = did ns task (all_done ns tasks ts)

-- the operands of a tree are among these
abbrev pub OperandsIn : Whole → List Whole → Type 0
OperandsIn (Const b) ts = Unit {0}
OperandsIn (Leaf o) ts = Unit {0}
OperandsIn (One op a) ts = IsIn a ts
OperandsIn (Two op a b) ts = IsIn a ts × IsIn b ts
OperandsIn (Mux c a b) ts = IsIn c ts × IsIn a ts × IsIn b ts

-- a task can be done: it is of a node, and a tree that is to get the next number has its operands among those that have one
abbrev pub CanDo : List Shape → Task → List Whole → Type 0
CanDo ns (Enter id) ts = id.0 < length ns
CanDo ns (Leave id) ts = (id.0 < length ns) × OperandsIn (tree_of ns id.0) ts

-- so can each task of a stack, when those behind it were done
unfoldable pub CanDoAll : List Shape → List Task → List Whole → Type 0
CanDoAll ns [] ts = Unit {0}
CanDoAll ns (task ∷ tasks) ts = CanDo ns task (all_done ns tasks ts) × CanDoAll ns tasks ts

abbrev pub id_of : ℕ → NodeId
id_of n = record { 0 = n }

-- the operands of a node are entered, the left one first
abbrev pub operand_tasks : Shape → List Task
operand_tasks (Fixed b) = []
operand_tasks (TopInput name width) = []
operand_tasks (Register instance name start) = []
operand_tasks (OfOne op a) = Enter (id_of a) ∷ []
operand_tasks (OfTwo op a b) = Enter (id_of b) ∷ Enter (id_of a) ∷ []
operand_tasks (OfMux c a b) = Enter (id_of b) ∷ Enter (id_of a) ∷ Enter (id_of c) ∷ []

-- what entering a node comes to: nothing where it has an id, else its operands and then itself
abbrev pub entered : Option NodeId → NodeId → Shape → List Task
entered (Some known) id s = []
entered None id s = Leave id ∷ operand_tasks s

-- how much there is to do
unfoldable pub height : ℕ → ℕ
height zero = 5
height (suc n) = 5 * height n

abbrev pub weight : Task → ℕ
weight (Enter id) = height id.0
weight (Leave id) = 1

unfoldable pub work : List Task → ℕ
work [] = 0
work (task ∷ tasks) = weight task + work tasks

-- what is known of a stack, after its top was replaced by these tasks
pub record Stacked (ns : List Shape) (before : List Task) (top : Task) (after : List Task) (old new : List Whole) : Type 0 where
  pub done : all_done ns after new ≡ all_done ns before (did ns top old)
  pub can : CanDoAll ns after new
  pub less : work after < weight top + work before
