-- What a name of a block has somewhere, as a node: itself, a term, or nothing.
use Rattle.std.specs.Prelude.{List, Option, Some, None}
use Rattle.bv_core.specs.declared.reference.NodeId.{NodeId}
use Rattle.tree_core.specs.Tree.{Tree, Whole}
use Rattle.exec_core.specs.Block.{Name}
use Rattle.net_core.specs.Nodes.{Shape}
use Rattle.net_core.specs.Builder.{Stands}
use Rattle.term_net.specs.Leaves.{IsReady, whole_of}

-- a tree, where there is one, can have a node
abbrev pub CanHaveNode : (Name → Option NodeId) → (Name → Whole) → Option (Tree Name) → Type 0
CanHaveNode ids leaves None = Unit {0}
CanHaveNode ids leaves (Some t) = IsReady ids leaves t

-- it has one; none where there is no tree
abbrev pub NodeTold : List Shape → (Name → Whole) → Option (Tree Name) → Option NodeId → Type 0
NodeTold ns leaves None None = Unit {0}
NodeTold ns leaves None (Some id) = ⊥
NodeTold ns leaves (Some t) None = ⊥
NodeTold ns leaves (Some t) (Some id) = Stands ns id.0 (whole_of leaves t)
