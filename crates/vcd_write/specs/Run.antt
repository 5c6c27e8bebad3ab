-- The value change dump file of a net's run under a stimulus.
use Rattle.std.specs.Prelude.{◌≡◌, ℕ, ◌<◌, ◌^◌, false, List, [], ◌∷◌, ◌++◌, length, map, Ok}
use Rattle.bv_core.specs.Value.{Bits}
use Rattle.list_core.specs.Lists.{from}
use Rattle.net_core.specs.Nodes.{Shape, shape_at, width_at}
use Rattle.net_core.specs.Nets.{NetParts}
use Rattle.verilog_out.specs.Meaning.{name_of}
use Rattle.verilog_out.specs.Printed.{identifier_of, is_register}
use Rattle.stim_text.specs.Stimulus.{Stimulus}
use Rattle.sim_core.specs.Given.{node_value}
use Rattle.sim_hist.specs.Run.{inputs_in, registers_in}
use Rattle.vcd_text.specs.Dump.{Variable, dump_text}
use Rattle.vcd_text.specs.Waves.{Waves, dump_of}

-- a node of this number and width: an input has its own name, each other node that of its number
abbrev pub variable_of : ℕ → ℕ → Shape → Variable
variable_of i width shape = record { register = is_register shape; size = width; name = name_of (identifier_of i shape) }

abbrev pub node_variable : List Shape → ℕ → Variable
node_variable ns i = variable_of i (width_at ns i) (shape_at ns i)

-- an output has the width of its node
abbrev pub output_variable : List Shape → List ℕ × ℕ → Variable
output_variable ns output = record { register = false; size = width_at ns output.1; name = output.0 }

-- the nodes by number, and then the outputs in order
abbrev pub variables_of : NetParts → List Variable
variables_of net = map (node_variable net.nodes) (from 0 (length net.nodes)) ++ map (output_variable net.nodes) net.outputs

-- the node whose values each of them has
abbrev pub shown_of : NetParts → List ℕ
shown_of net = from 0 (length net.nodes) ++ map (λ (output : List ℕ × ℕ). output.1) net.outputs

-- the value of a node in a cycle
abbrev pub value_in : NetParts → Stimulus → ℕ → ℕ → Bits
value_in net s t n = node_value net.nodes (inputs_in net s t) (registers_in net s t) n

-- their values in a cycle
abbrev pub row_of : NetParts → Stimulus → ℕ → List Bits
row_of net s t = map (value_in net s t) (shown_of net)

-- the waves of a net under a stimulus, in the scope of the module
abbrev pub waves_of : NetParts → Stimulus → Waves
waves_of net s = record { scope = s.ports.module; variables = variables_of net; cycles = length s.rows; row = row_of net s }

-- the text of their file
unfoldable pub waves_text : NetParts → Stimulus → List ℕ
waves_text net s = dump_text (dump_of (waves_of net s))
