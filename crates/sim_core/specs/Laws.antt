-- Laws of values that are given to inputs and registers.
use Rattle.std.specs.Prelude.{◌≡◌, ℕ, ◌<◌, List, Some, All, slice_get, length}
use Rattle.bv_core.specs.Value.{Bits, IsBits}
use Rattle.tree_core.specs.Width.{GivesWidths}
use Rattle.net_core.specs.Nodes.{width_at}
use Rattle.net_core.specs.Nets.{NetParts, IsNet}
use Rattle.sim_core.specs.Leaves.{inputs_of, registers_of}
use Rattle.sim_core.specs.Given.{HaveWidths, Gives, given, node_value, next_registers}

-- inputs and registers of a net can be given any values: those that are looked up are these
abbrev pub AnyCanBeGiven : Type 0
AnyCanBeGiven = (net : NetParts) → IsNet net → (inputs registers : List Bits)
    → HaveWidths (inputs_of net.nodes) inputs → HaveWidths (registers_of net.nodes) registers → Gives net.nodes inputs registers (given net.nodes inputs registers)

-- and what is looked up has its width
abbrev pub WidthsAreGiven : Type 0
WidthsAreGiven = (net : NetParts) (inputs registers : List Bits)
    → HaveWidths (inputs_of net.nodes) inputs → HaveWidths (registers_of net.nodes) registers → All IsBits inputs → All IsBits registers → GivesWidths (given net.nodes inputs registers)

-- each node's value has the node's width
abbrev pub NodesHaveWidths : Type 0
NodesHaveWidths = (net : NetParts) → IsNet net → (inputs registers : List Bits)
    → HaveWidths (inputs_of net.nodes) inputs → HaveWidths (registers_of net.nodes) registers
    → (n : ℕ) → n < length net.nodes → (node_value net.nodes inputs registers n).width ≡ width_at net.nodes n

-- after a clock edge each register's node has the value that the node of its next value had, whatever the inputs are then
abbrev pub RegistersTakeNextValues : Type 0
RegistersTakeNextValues = (net : NetParts) → IsNet net → (inputs registers later : List Bits)
    → HaveWidths (inputs_of net.nodes) inputs → HaveWidths (registers_of net.nodes) registers → HaveWidths (inputs_of net.nodes) later
    → (k register next : ℕ) → slice_get net.nexts k ≡ Some (register, next)
    → node_value net.nodes later (next_registers net inputs registers) register ≡ node_value net.nodes inputs registers next
