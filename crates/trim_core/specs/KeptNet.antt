-- The net of a design: that of the trees that are kept of it.
use Rattle.std.specs.Prelude.{ℕ, suc, true, List, [], ◌∷◌, length, map, filter_map, Option, Some, None, option_map, option_and_then, if◌then◌else◌}
use Rattle.tree_core.specs.Tree as tree
use Rattle.tree_core.specs.Tree.{Origin, Whole}
use Rattle.tree_core.specs.Fold.{same_tree, same_origin}
use Rattle.exec_core.specs.Design.{place, folded_tree}
use Rattle.exec_core.specs.Kept.{next_in}
use Rattle.design_core.specs.Design.{Design}
use Rattle.list_core.specs.Lists.{from}
use Rattle.design_core.specs.Ports.{ports_in, top_signals}
use Rattle.design_exec.specs.Processes.{processes_of}
use Rattle.net_core.specs.Nodes.{Shape, Fixed, TopInput, Register, OfOne, OfTwo, OfMux, tree_at}
use Rattle.net_core.specs.Nets.{NetParts}
use Rattle.world_core.specs.declared.mode.Mode.{Mode}
use Rattle.world_core.specs.Kept.{kept_trees}

-- n is how many signals are driven: as many times a signal is replaced by the tree of its driver

-- the number of a tree among these: how many stand before it
abbrev pub number_of : List Whole → Whole → ℕ
number_of [] t = 0
number_of (x ∷ xs) t = if same_tree same_origin t x then 0 else suc (number_of xs t)

-- a tree as a node: an operator on the numbers of its operands
abbrev pub node_of : List Whole → Whole → Shape
node_of ts (tree.Const b) = Fixed b
node_of ts (tree.Leaf (tree.Input name width)) = TopInput name width
node_of ts (tree.Leaf (tree.Register instance name start)) = Register instance name start
node_of ts (tree.One op a) = OfOne op (number_of ts a)
node_of ts (tree.Two op a b) = OfTwo op (number_of ts a) (number_of ts b)
node_of ts (tree.Mux c a b) = OfMux (number_of ts c) (number_of ts a) (number_of ts b)

-- a register takes the value of its next-value tree: beside its number, the number of that tree
abbrev pub origin_of : Whole → Option Origin
origin_of (tree.Const b) = None
origin_of (tree.Leaf o) = Some o
origin_of (tree.One op a) = None
origin_of (tree.Two op a b) = None
origin_of (tree.Mux c a b) = None

abbrev pub next_at : (Origin → Option Whole) → List Whole → ℕ → Option (ℕ × ℕ)
next_at next ts i = option_map (λ t. (i, number_of ts t)) (option_and_then next (origin_of (tree_at ts i)))

-- a node for each of these trees, in order; these outputs, each with its tree; and the next values
abbrev pub net_of : List Whole → List (List ℕ × Whole) → (Origin → Option Whole) → NetParts
net_of ts outputs next = record {
  nodes = map (node_of ts) ts;
  outputs = map (λ output. (output.0, number_of ts output.1)) outputs;
  nexts = filter_map (next_at next ts) (from 0 (length ts));
}

-- the outputs of the top, each with its folded whole tree
abbrev pub top_outputs : Design → ℕ → List (List ℕ × Whole)
top_outputs d n = map (λ port. (port.0, folded_tree (processes_of d) n (tree.Leaf (place 0 port.0)))) (ports_in true (top_signals d))

-- the net of a design: of its kept trees, by their numbers
abbrev pub kept_net : Design → ℕ → Mode → NetParts
kept_net d n mode = net_of (kept_trees d n mode) (top_outputs d n) (next_in (processes_of d) n)
