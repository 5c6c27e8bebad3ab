-- What a lowered design is: a net whose nodes stand for the folded whole trees of the design.
use Rattle.std.specs.Prelude.{◌≡◌, ℕ, true, ◌<◌, List, [], ◌∷◌, length}
use Rattle.tree_core.specs.Tree.{Leaf, Origin, Input, Register}
use Rattle.exec_core.specs.Block.{Name}
use Rattle.list_core.specs.Lists.{EachOf, IsIn}
use Rattle.exec_core.specs.Whole.{Place}
use Rattle.exec_core.specs.Design.{place, next_tree, folded_tree}
use Rattle.exec_core.specs.States.{OverGivens}
use Rattle.design_core.specs.Design.{Design}
use Rattle.design_core.specs.Ports.{ports_in, top_signals}
use Rattle.design_exec.specs.Processes.{processes_of}
use Rattle.net_core.specs.Nodes.{Shape, tree_of, width_at}
use Rattle.net_core.specs.Builder.{Stands}
use Rattle.net_core.specs.Nets.{NetParts, IsNet}
use Rattle.world_core.specs.declared.mode.Mode.{Mode}
use Rattle.lower_core.specs.declared.row.Lowered as code
use Rattle.lower_core.specs.Shape.{shape_of}
use Rattle.world_core.specs.Sites.{all_spots}
use Rattle.lower_core.specs.Rows.{AreTold}

-- the outputs of the top, in order: each with its name, and with a node of its width that stands for its folded whole tree
pub record OutputTold (d : Design) (n : ℕ) (nodes : List Shape) (port : Name × ℕ) (output : Name × ℕ) : Type 0 where
  pub name : output.0 ≡ port.0
  pub stands : Stands nodes output.1 (folded_tree (processes_of d) n (Leaf (place 0 port.0)))
  pub width : width_at nodes output.1 ≡ port.1

abbrev pub OutputsTold : Design → ℕ → List Shape → List (Name × ℕ) → List (Name × ℕ) → Type 0
OutputsTold d n nodes [] [] = Unit {0}
OutputsTold d n nodes [] (output ∷ outputs) = ⊥
OutputsTold d n nodes (port ∷ ports) [] = ⊥
OutputsTold d n nodes (port ∷ ports) (output ∷ outputs) = OutputTold d n nodes port output × OutputsTold d n nodes ports outputs

-- what is given has a node: an input of the top, or a register of an instance
pub record HasNode (nodes : List Shape) (given : Place × Origin) : Type 0 where
  pub id : ℕ
  pub stands : Stands nodes id (Leaf given.1)

-- the next value of a register: a node that stands for the folded tree of what the register holds next
pub record HasNext (d : Design) (n : ℕ) (net : NetParts) (p : Place) (o : Origin) : Type 0 where
  pub id : ℕ
  pub next : ℕ
  pub among : IsIn (id, next) net.nexts
  pub register : Stands net.nodes id (Leaf o)
  pub stands : Stands net.nodes next (folded_tree (processes_of d) n (next_tree (processes_of d) p))

abbrev pub NextTold : Design → ℕ → NetParts → Place → Origin → Type 0
NextTold d n net p (Input name width) = Unit {0}
NextTold d n net p (Register instance name start) = HasNext d n net p (Register instance name start)

-- a design lowered, where n signals are driven
pub record IsLowered (d : Design) (n : ℕ) (wanted : Mode) (l : code.Lowered) : Type 0 where
  pub mode : l.mode ≡ wanted
  pub shape : l.shape ≡ shape_of d
  pub is_net : IsNet l.net
  pub rows : AreTold d n l.net.nodes (all_spots d) l.rows
  pub outputs : OutputsTold d n l.net.nodes (ports_in true (top_signals d)) l.net.outputs
  pub givens : EachOf (HasNode l.net.nodes) (processes_of d).givens
  pub nexts : EachOf (λ given. NextTold d n l.net given.0 given.1) (processes_of d).givens
  -- every node's tree is one of inputs of the top and registers
  pub over : (j : ℕ) → j < length l.net.nodes → OverGivens (processes_of d) (tree_of l.net.nodes j)
