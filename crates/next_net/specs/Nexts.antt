-- Next values of registers, by nodes.
use Rattle.std.specs.Prelude.{ℕ, List, [], ◌∷◌}
use Rattle.bv_core.specs.declared.reference.NodeId.{NodeId}
use Rattle.tree_core.specs.Tree.{Leaf, Origin, Input, Register}
use Rattle.list_core.specs.Lists.{EachOf, IsIn}
use Rattle.exec_core.specs.Whole.{Place}
use Rattle.exec_core.specs.Design.{next_tree}
use Rattle.design_exec.specs.Processes.{processes_of}
use Rattle.net_core.specs.Nodes.{Shape}
use Rattle.net_core.specs.Builder.{Stands}
use Rattle.ssa_nodes.specs.declared.parts.Parts as code
use Rattle.ssa_nodes.specs.Parts.{design_in, folded_of}

-- the next value of a register: a node that stands for the folded whole tree of what the register holds next
pub record HasNext (p : code.Parts) (ns : List Shape) (nexts : List (ℕ × ℕ)) (q : Place) (o : Origin) : Type 0 where
  pub id : ℕ
  pub next : ℕ
  pub among : IsIn (id, next) nexts
  pub register : Stands ns id (Leaf o)
  pub stands : Stands ns next (folded_of p (next_tree (processes_of (design_in p)) q))

abbrev pub NextTold : code.Parts → List Shape → List (ℕ × ℕ) → Place → Origin → Type 0
NextTold p ns nexts q (Input name width) = Unit {0}
NextTold p ns nexts q (Register instance name start) = HasNext p ns nexts q (Register instance name start)

-- each register has one
abbrev pub AllNext : code.Parts → List Shape → List (ℕ × ℕ) → Type 0
AllNext p ns nexts = EachOf (λ given. NextTold p ns nexts given.0 given.1) (processes_of (design_in p)).givens

-- a register's node, and the node of what the register holds next
pub record IsNextOf (p : code.Parts) (ns : List Shape) (q : Place) (pair : ℕ × ℕ) : Type 0 where
  pub register : Stands ns pair.0 (folded_of p (Leaf q))
  pub next : Stands ns pair.1 (folded_of p (next_tree (processes_of (design_in p)) q))

abbrev pub NextStands : code.Parts → List Shape → Place → NodeId × NodeId → Type 0
NextStands p ns q pair = IsNextOf p ns q (pair.0.0, pair.1.0)

-- those of registers in order
abbrev pub AreNexts : code.Parts → List Shape → List Place → List (ℕ × ℕ) → Type 0
AreNexts p ns [] [] = Unit {0}
AreNexts p ns [] (pair ∷ pairs) = ⊥
AreNexts p ns (q ∷ qs) [] = ⊥
AreNexts p ns (q ∷ qs) (pair ∷ pairs) = IsNextOf p ns q pair × AreNexts p ns qs pairs
