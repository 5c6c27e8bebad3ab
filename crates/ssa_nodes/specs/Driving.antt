-- Signals that are driven, along an order of them.
use Rattle.std.specs.Prelude.{◌≡◌, true, List, length, Option, Some}
use Rattle.bv_core.specs.declared.reference.NodeId.{NodeId}
use Rattle.tree_core.specs.Tree.{Tree}
use Rattle.exec_core.specs.Whole.{Place, IsGiven}
use Rattle.exec_core.specs.Design.{driver_of}
use Rattle.design_exec.specs.Processes.{processes_of, is_signal_of}
use Rattle.place_core.specs.Orders.{Pair, signal_at}
use Rattle.net_core.specs.Nodes.{Shape}
use Rattle.ssa_nodes.specs.State.{HasNode}
use Rattle.ssa_nodes.specs.declared.parts.Parts as code
use Rattle.ssa_nodes.specs.Parts.{IsReadyBy, StandsBy, all_in, design_in}

-- a signal with the tree that drives it, which is over signals that have nodes
pub record HasDriver (p : code.Parts) (nodes : List (Option NodeId)) (q : Place) : Type 0 where
  pub signal : is_signal_of (design_in p) q ≡ true
  pub tree : Tree Place
  pub drives : driver_of (processes_of (design_in p)) q ≡ Some tree
  pub ready : IsReadyBy p nodes tree

-- a node stands for the folded whole tree of what drives a signal
abbrev pub DriverStands : code.Parts → List Shape → Place → NodeId → Type 0
DriverStands p ns q id = (t : Tree Place) → driver_of (processes_of (design_in p)) q ≡ Some t → StandsBy p ns t id

-- those that have a node keep it, and so has this one
pub record Resolved (p : code.Parts) (old new : List (Option NodeId)) (q : Place) : Type 0 where
  pub long : length new ≡ length old
  pub kept : (r : Place) → HasNode (all_in p) old r → HasNode (all_in p) new r
  pub has : HasNode (all_in p) new q

-- a pair is a signal
pub record IsSignalAt (p : code.Parts) (pair : Pair) : Type 0 where
  pub signal : Place
  pub at : signal_at (design_in p) pair ≡ Some signal

-- a pair is a signal that has a driver
pub record IsPair (p : code.Parts) (nodes : List (Option NodeId)) (pair : Pair) : Type 0 where
  pub signal : Place
  pub at : signal_at (design_in p) pair ≡ Some signal
  pub driver : HasDriver p nodes signal

abbrev pub PairResolved : code.Parts → List (Option NodeId) → List (Option NodeId) → Pair → Type 0
PairResolved p old new pair = (q : Place) → signal_at (design_in p) pair ≡ Some q → Resolved p old new q

-- what is given has a node
abbrev pub GivenHave : code.Parts → List (Option NodeId) → Type 0
GivenHave p nodes = (q : Place) → IsGiven (is_signal_of (design_in p)) (driver_of (processes_of (design_in p))) q → HasNode (all_in p) nodes q

-- every signal has
abbrev pub AllHave : code.Parts → List (Option NodeId) → Type 0
AllHave p nodes = (q : Place) → is_signal_of (design_in p) q ≡ true → HasNode (all_in p) nodes q
