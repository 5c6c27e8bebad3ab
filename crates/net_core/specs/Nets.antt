-- A net: numbered nodes, the outputs and the next values of registers. It is a system of equations.
use Rattle.std.specs.Prelude.{◌≡◌, ℕ, ◌<◌, ◌==◌, Bool, true, false, if◌then◌else◌, List, [], ◌∷◌, length, map, get_or, slice_get, Some}
use Rattle.bv_core.specs.declared.reference.NodeId.{NodeId}
use Rattle.bv_core.specs.Value.{Bits}
use Rattle.bv_core.specs.Operators.{apply1_of, apply2_of, choose_of}
use Rattle.tree_core.specs.Tree as tree
use Rattle.net_core.specs.Nodes.{Shape, Fixed, TopInput, Register, OfOne, OfTwo, OfMux, shape_at, tree_of, width_at, AreNumbered}
use Rattle.net_core.specs.Builder.{AreShared}

-- the equation of a node: its value, where E gives those of inputs and registers and V those of nodes
abbrev pub equation : (tree.Origin → Bits) → (ℕ → Bits) → Shape → Bits
equation E V (Fixed b) = b
equation E V (TopInput name width) = E (tree.Input name width)
equation E V (Register instance name start) = E (tree.Register instance name start)
equation E V (OfOne op a) = apply1_of op (V a)
equation E V (OfTwo op a b) = apply2_of op (V a) (V b)
equation E V (OfMux c a b) = choose_of (V c) (V a) (V b)

-- values that meet the equation of each node
abbrev pub Solves : List Shape → (tree.Origin → Bits) → (ℕ → Bits) → Type 0
Solves ns E V = (j : ℕ) → j < length ns → V j ≡ equation E V (shape_at ns j)

-- the values of the nodes' trees solve the equations, and whatever solves them gives each node that value
pub record HasOneSolution (ns : List Shape) (E : tree.Origin → Bits) : Type 0 where
  pub solves : Solves ns E (λ j. tree.value_of E (tree_of ns j))
  pub only : (V : ℕ → Bits) → Solves ns E V → (j : ℕ) → j < length ns → V j ≡ tree.value_of E (tree_of ns j)

-- nodes whose operands are numbered below them have exactly one solution, under all inputs and registers
abbrev pub NetsHaveOneSolution : Type 0
NetsHaveOneSolution = (ns : List Shape) → AreNumbered ns → (E : tree.Origin → Bits) → HasOneSolution ns E

-- a net as contracts see it: its nodes, its outputs, each a name with a node, and the next values of its registers, each
-- a register's node with another
pub record NetParts : Type 0 where
  pub nodes : List Shape
  pub outputs : List (List ℕ × ℕ)
  pub nexts : List (ℕ × ℕ)

-- the outputs and next values that a program gives, as contracts see them
abbrev pub outputs_of : List (List ℕ × NodeId) → List (List ℕ × ℕ)
outputs_of outputs = map (λ (o : List ℕ × NodeId). (o.0, o.1.0)) outputs

abbrev pub nexts_of : List (NodeId × NodeId) → List (ℕ × ℕ)
nexts_of nexts = map (λ (n : NodeId × NodeId). (n.0.0, n.1.0)) nexts

-- the node that stands beside a register's node: that of what it holds next
abbrev pub next_node : List (ℕ × ℕ) → ℕ → ℕ
next_node [] i = 0
next_node (pair ∷ nexts) i = if pair.0 == i then pair.1 else next_node nexts i

-- at each number the node that stands beside the node of that number, and 0 where none does
pub record StandBeside (nodes : ℕ) (nexts : List (ℕ × ℕ)) (found : List ℕ) : Type 0 where
  pub count : length found ≡ nodes
  pub each : (i : ℕ) → i < nodes → get_or found i 0 ≡ next_node nexts i

-- whether a tree is a register
abbrev pub is_register : tree.Whole → Bool
is_register (tree.Const b) = false
is_register (tree.Leaf (tree.Input name width)) = false
is_register (tree.Leaf (tree.Register instance name start)) = true
is_register (tree.One op a) = false
is_register (tree.Two op a b) = false
is_register (tree.Mux c a b) = false

-- a register's node and a node of its width
pub record IsNext (ns : List Shape) (pair : ℕ × ℕ) : Type 0 where
  pub within : pair.0 < length ns
  pub register : is_register (tree_of ns pair.0) ≡ true
  pub next : pair.1 < length ns
  pub width : width_at ns pair.1 ≡ width_at ns pair.0

-- the next values name each register's node once, with a node of its width, and no other node
pub record NextsFit (ns : List Shape) (nexts : List (ℕ × ℕ)) : Type 0 where
  pub registers : (k : ℕ) (pair : ℕ × ℕ) → slice_get nexts k ≡ Some pair → IsNext ns pair
  pub each : (i : ℕ) → i < length ns → is_register (tree_of ns i) ≡ true → (k : ℕ) × ((next : ℕ) × (slice_get nexts k ≡ Some (i, next)))
  pub once : (j k i m n : ℕ) → slice_get nexts j ≡ Some (i, m) → slice_get nexts k ≡ Some (i, n) → j ≡ k

-- each output is a node
pub record OutputsFit (ns : List Shape) (outputs : List (List ℕ × ℕ)) : Type 0 where
  pub nodes : (k : ℕ) (output : List ℕ × ℕ) → slice_get outputs k ≡ Some output → output.1 < length ns

-- what a net keeps: its nodes are those of a builder, numbered above their operands, with widths that fit, and its
-- outputs and next values fit them
pub record IsNet (net : NetParts) : Type 0 where
  pub shared : AreShared net.nodes
  pub outputs : OutputsFit net.nodes net.outputs
  pub nexts : NextsFit net.nodes net.nexts
