-- The names of the nodes of a net.
use Rattle.std.specs.Prelude.{ℕ, List, ◌++◌, codes, map}
use Rattle.std.specs.List.{enumerate_from}
use Rattle.std.specs.Fmt.{decimal}
use Rattle.net_core.specs.Nodes.{Shape, Fixed, TopInput, Register, OfOne, OfTwo, OfMux, width_at}
use Rattle.symtab.specs.declared.parts.NodeName.{NodeName}

-- a node is called by its number, and an input by its name
abbrev pub numbered_name : ℕ → List ℕ
numbered_name i = codes "_" ++ decimal i

abbrev pub name_of : ℕ → Shape → List ℕ
name_of i (Fixed b) = numbered_name i
name_of i (TopInput name width) = name
name_of i (Register instance name start) = numbered_name i
name_of i (OfOne op a) = numbered_name i
name_of i (OfTwo op a b) = numbered_name i
name_of i (OfMux c a b) = numbered_name i

-- each node, in order, with its width
abbrev pub named : List Shape → ℕ × Shape → NodeName
named ns node = record { name = name_of node.0 node.1; width = width_at ns node.0 }

abbrev pub node_names : List Shape → List NodeName
node_names ns = map (named ns) (enumerate_from 0 ns)
