-- Values for inputs and registers, and what they make of nodes.
use Rattle.std.specs.Prelude.{◌≡◌, ℕ, List, [], ◌∷◌, map, if◌then◌else◌}
use Rattle.std.specs.List.{zip}
use Rattle.bv_core.specs.Value.{Bits}
use Rattle.tree_core.specs.Tree as tree
use Rattle.tree_core.specs.Width.{origin_width}
use Rattle.tree_core.specs.Fold.{same_origin}
use Rattle.net_core.specs.Nodes.{Shape, tree_of}
use Rattle.net_core.specs.Nets.{NetParts, Solves}
use Rattle.sim_core.specs.Leaves.{inputs_of, registers_of, sources_of}

-- one value for each of these inputs or registers, of its width
abbrev pub HaveWidths : List tree.Origin → List Bits → Type 0
HaveWidths origins values = map (λ (v : Bits). v.width) values ≡ map origin_width origins

-- E gives the inputs of these nodes, in the order of their numbers, the one values, and the registers the others
pub record Gives (ns : List Shape) (inputs registers : List Bits) (E : tree.Origin → Bits) : Type 0 where
  pub to_inputs : map E (inputs_of ns) ≡ inputs
  pub to_registers : map E (registers_of ns) ≡ registers

-- the value that stands beside an input or a register, and 0 of its width where none does
abbrev pub value_beside : List (tree.Origin × Bits) → tree.Origin → Bits
value_beside [] o = record { width = origin_width o; value = 0 }
value_beside (pair ∷ pairs) o = if same_origin pair.0 o then pair.1 else value_beside pairs o

-- the values of inputs and registers that are given in the order of their nodes' numbers
abbrev pub given : List Shape → (inputs registers : List Bits) → tree.Origin → Bits
given ns inputs registers (tree.Input name width) = value_beside (zip (inputs_of ns) inputs) (tree.Input name width)
given ns inputs registers (tree.Register instance name start) = value_beside (zip (registers_of ns) registers) (tree.Register instance name start)

-- the value of a node's tree under them
abbrev pub node_value : List Shape → (inputs registers : List Bits) → ℕ → Bits
node_value ns inputs registers n = tree.value_of (given ns inputs registers) (tree_of ns n)

-- the registers after a cycle: of each the value of the node of its next value
abbrev pub next_registers : NetParts → (inputs registers : List Bits) → List Bits
next_registers net inputs registers = map (node_value net.nodes inputs registers) (sources_of net)

-- a node's value, however these values are given: that of its tree, and that in each solution of the equations
pub record IsValue (ns : List Shape) (inputs registers : List Bits) (n : ℕ) (v : Bits) : Type 0 where
  pub by_tree : (E : tree.Origin → Bits) → Gives ns inputs registers E → v ≡ tree.value_of E (tree_of ns n)
  pub by_equations : (E : tree.Origin → Bits) → Gives ns inputs registers E → (V : ℕ → Bits) → Solves ns E V → v ≡ V n
