-- What lowering looks things up in, and what it has come to.
use Rattle.std.specs.Prelude.{◌≡◌, ℕ, true, List, length, map, Option, Some, None, slice_get}
use Rattle.bv_core.specs.declared.reference.NodeId.{NodeId}
use Rattle.tree_core.specs.Tree.{Tree, Whole}
use Rattle.exec_core.specs.Block.{Name, Key}
use Rattle.exec_core.specs.Exec.{Env}
use Rattle.exec_core.specs.Trees.{block_trees}
use Rattle.exec_core.specs.Whole.{Place}
use Rattle.exec_core.specs.Design.{Process, moved, folded_tree, width_in}
use Rattle.design_core.specs.Design as design
use Rattle.design_core.specs.DesignView.{design_of}
use Rattle.design_exec.specs.Processes.{processes_of, is_signal_of}
use Rattle.net_core.specs.Nodes.{Shape}
use Rattle.net_core.specs.Builder.{AreShared, Stands}
use Rattle.block_net.specs.Blocks.{BlockParts}
use Rattle.names.specs.Maps.{value_of, no_value}
use Rattle.check_exec.specs.Premises.{IsSound}
use Rattle.place_core.specs.Numbering.{Numbers, number_in, numbers_of}
use Rattle.place_core.specs.Orders.{Pair, TellsOrder}
use Rattle.term_net.specs.Growth.{AreNodes}
use Rattle.ssa_core.specs.declared.link.Link.{Link}
use Rattle.ssa_core.specs.declared.process.ProcessKey.{ProcessKey}
use Rattle.ssa_core.specs.declared.drive.Drive.{Drive}
use Rattle.ssa_core.specs.Links.{link_as}
use Rattle.ssa_core.specs.Processes.{process_at, HaveTerms, lists_of}
use Rattle.ssa_core.specs.Drives.{AreApart, AreDrives}
use Rattle.ssa_nodes.specs.State.{SignalsTold, IsState, IsReadyIn}
use Rattle.ssa_nodes.specs.declared.parts.Parts as code

-- an accepted design with an order of its driven signals; its links and processes, the terms of its blocks, the numbers of its
-- signals, and what drives each
pub record AreParts (d : design.Design) (pairs : List Pair) (links : List Link) (keys : List ProcessKey) (blocks : List (List BlockParts)) (all : List Numbers) (drives : List (Option Drive)) (count : ℕ) : Type 0 where
  pub sound : IsSound d
  pub told : TellsOrder d pairs
  pub links_are : map link_as links ≡ (processes_of d).links
  pub keys_are : map (process_at d) keys ≡ map (λ b. Some b) (processes_of d).processes
  pub terms : HaveTerms d blocks
  pub numbered : (p : Place) → is_signal_of d p ≡ true → (k : ℕ) × (number_in all p ≡ Some k)
  pub apart : AreApart count all
  pub driven : AreDrives d links keys count all drives

abbrev pub design_in : code.Parts → design.Design
design_in p = design_of p.design.now

abbrev pub all_in : code.Parts → List Numbers
all_in p = numbers_of p.maps.items

abbrev pub blocks_in : code.Parts → List (List BlockParts)
blocks_in p = lists_of p.blocks.items

pub record HasParts (p : code.Parts) : Type 0 where
  pub parts : AreParts (design_in p) p.order.now p.links.items p.keys.items (blocks_in p) (all_in p) p.drives.items p.count
  pub nobody : value_of p.nobody ≡ no_value

-- the folded whole tree of a tree over the design's signals
abbrev pub folded_of : code.Parts → Tree Place → Whole
folded_of p t = folded_tree (processes_of (design_in p)) (length p.order.now) t

-- nodes of signals so far: those of the builder, each standing for its signal's folded whole tree
pub record HasSignals (p : code.Parts) (ns : List Shape) (nodes : List (Option NodeId)) : Type 0 where
  pub shared : AreShared ns
  pub placed : AreNodes ns nodes
  pub signals : SignalsTold (processes_of (design_in p)) (length p.order.now) (all_in p) ns nodes

abbrev pub HasState : code.Parts → List Shape → List (Option NodeId) → List (List (Option NodeId)) → Type 0
HasState p ns nodes memos = IsState (processes_of (design_in p)) (length p.order.now) p.keys.items (blocks_in p) (all_in p) ns nodes memos

-- a tree over signals that have nodes
abbrev pub IsReadyBy : code.Parts → List (Option NodeId) → Tree Place → Type 0
IsReadyBy p nodes t = IsReadyIn (processes_of (design_in p)) (all_in p) nodes t

-- a node stands for the folded whole tree
abbrev pub StandsBy : code.Parts → List Shape → Tree Place → NodeId → Type 0
StandsBy p ns t id = Stands ns id.0 (folded_of p t)

-- ---- processes

-- a key of a process
pub record IsProcess (p : code.Parts) (key : ProcessKey) : Type 0 where
  pub process : Process
  pub is : process_at (design_in p) key ≡ Some process

-- a tree over the names of an instance, where there is one, is over signals that have nodes
abbrev pub CanHave : code.Parts → List (Option NodeId) → ℕ → Option (Tree Name) → Type 0
CanHave p nodes i None = Unit {0}
CanHave p nodes i (Some t) = IsReadyBy p nodes (moved i t)

-- and a node stands for its folded whole tree; none where there is no tree
abbrev pub HasNodeBy : code.Parts → List Shape → ℕ → Option (Tree Name) → Option NodeId → Type 0
HasNodeBy p ns i None None = Unit {0}
HasNodeBy p ns i None (Some id) = ⊥
HasNodeBy p ns i (Some t) None = ⊥
HasNodeBy p ns i (Some t) (Some id) = StandsBy p ns (moved i t) id

-- the trees that a process ends with
abbrev pub ends_by : code.Parts → Process → Env (Tree Name)
ends_by p b = block_trees (width_in (processes_of (design_in p)) b) b.body

-- the process of this number ends with a tree for a key, which is over signals that have nodes
pub record IsEnd (p : code.Parts) (nodes : List (Option NodeId)) (k : ℕ) (y : Key) : Type 0 where
  pub key : ProcessKey
  pub found : slice_get p.keys.items k ≡ Some key
  pub process : Process
  pub is : process_at (design_in p) key ≡ Some process
  pub tree : Tree Name
  pub ends : ends_by p process y ≡ Some tree
  pub ready : IsReadyBy p nodes (moved process.instance tree)

-- and the node stands for it
abbrev pub EndStands : code.Parts → List Shape → ℕ → Key → NodeId → Type 0
EndStands p ns k y id =
    (key : ProcessKey) (b : Process) (t : Tree Name) → slice_get p.keys.items k ≡ Some key → process_at (design_in p) key ≡ Some b → ends_by p b y ≡ Some t → StandsBy p ns (moved b.instance t) id
