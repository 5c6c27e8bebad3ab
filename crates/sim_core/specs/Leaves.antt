-- The inputs and the registers of nodes, in the order of their numbers.
use Rattle.std.specs.Prelude.{ℕ, ◌+◌, ◌==◌, List, [], ◌∷◌, ◌++◌, map, if◌then◌else◌}
use Rattle.bv_core.specs.Value.{Bits}
use Rattle.tree_core.specs.Tree as tree
use Rattle.net_core.specs.Nodes.{Shape, Fixed, TopInput, Register, OfOne, OfTwo, OfMux}
use Rattle.net_core.specs.Nets.{NetParts, next_node}

-- what each node has, one behind the other
abbrev pub gathered : {X : Type 0} → (Shape → List X) → List Shape → List X
gathered of [] = []
gathered of (n ∷ ns) = of n ++ gathered of ns

-- the input that a node is, or none
abbrev pub input_in : Shape → List tree.Origin
input_in (Fixed b) = []
input_in (TopInput name width) = tree.Input name width ∷ []
input_in (Register instance name start) = []
input_in (OfOne op a) = []
input_in (OfTwo op a b) = []
input_in (OfMux c a b) = []

-- the register that a node is, or none
abbrev pub register_in : Shape → List tree.Origin
register_in (Fixed b) = []
register_in (TopInput name width) = []
register_in (Register instance name start) = tree.Register instance name start ∷ []
register_in (OfOne op a) = []
register_in (OfTwo op a b) = []
register_in (OfMux c a b) = []

-- the value that the register starts with
abbrev pub start_in : Shape → List Bits
start_in (Fixed b) = []
start_in (TopInput name width) = []
start_in (Register instance name start) = start ∷ []
start_in (OfOne op a) = []
start_in (OfTwo op a b) = []
start_in (OfMux c a b) = []

abbrev pub inputs_of : List Shape → List tree.Origin
inputs_of ns = gathered input_in ns

abbrev pub registers_of : List Shape → List tree.Origin
registers_of ns = gathered register_in ns

-- the values that the registers start with
abbrev pub starts_of : List Shape → List Bits
starts_of ns = gathered start_in ns

-- the number of a register's node
abbrev pub number_in : ℕ → Shape → List ℕ
number_in k (Fixed b) = []
number_in k (TopInput name width) = []
number_in k (Register instance name start) = k ∷ []
number_in k (OfOne op a) = []
number_in k (OfTwo op a b) = []
number_in k (OfMux c a b) = []

-- the numbers of the registers' nodes, where the first node has this number
abbrev pub numbers_from : ℕ → List Shape → List ℕ
numbers_from k [] = []
numbers_from k (n ∷ ns) = number_in k n ++ numbers_from (k + 1) ns

-- the nodes of the registers' next values
abbrev pub sources_of : NetParts → List ℕ
sources_of net = map (next_node net.nexts) (numbers_from 0 net.nodes)
