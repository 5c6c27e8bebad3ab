-- What a net's nodes are in each cycle of a stimulus.
use Rattle.std.specs.Prelude.{◌≡◌, ℕ, zero, suc, List, [], ◌∷◌, map, length, Option, Some, None, slice_get, slice_index_or}
use Rattle.std.specs.List.{zip}
use Rattle.bv_core.specs.Value.{Bits}
use Rattle.bv_core.specs.declared.reference.Sample.TheVariants.{Known}
use Rattle.tree_core.specs.Tree as tree
use Rattle.design_core.specs.declared.Ports.{Ports}
use Rattle.net_core.specs.Nodes.{Shape, TopInput}
use Rattle.net_core.specs.Nets.{NetParts}
use Rattle.trace_core.specs.Samples.{Samples}
use Rattle.stim_text.specs.Stimulus.{Stimulus}
use Rattle.sim_core.specs.Leaves.{inputs_of, starts_of}
use Rattle.sim_core.specs.Given.{value_beside, node_value, next_registers}
use Rattle.sim_core.specs.State.{one_more}

-- each input of a net is an input of the ports, with its name and width
abbrev pub InputsArePorts : List Shape → Ports → Type 0
InputsArePorts ns ports = (i : ℕ) (name : List ℕ) (width : ℕ) → slice_get ns i ≡ Some (TopInput name width) → (k : ℕ) × (slice_get ports.inputs k ≡ Some (name, width))

-- the inputs that ports are
abbrev pub port_origins : List (List ℕ × ℕ) → List tree.Origin
port_origins inputs = map (λ (port : List ℕ × ℕ). tree.Input port.0 port.1) inputs

-- the values of a net's inputs in a row, found by their ports
abbrev pub row_inputs : NetParts → Ports → List Bits → List Bits
row_inputs net ports row = map (value_beside (zip (port_origins ports.inputs) row)) (inputs_of net.nodes)

-- the inputs of a cycle
abbrev pub inputs_in : NetParts → Stimulus → ℕ → List Bits
inputs_in net s t = row_inputs net s.ports (slice_index_or s.rows t [])

-- the registers of a cycle: in the first the values that they start with, and then their next values of the cycle before
unfoldable pub registers_in : NetParts → Stimulus → ℕ → List Bits
registers_in net s zero = starts_of net.nodes
registers_in net s (suc t) = next_registers net (inputs_in net s t) (registers_in net s t)

-- the samples of a net under a stimulus: each node has a value in each cycle
abbrev pub run_samples : NetParts → Stimulus → Samples
run_samples net s = record {
  cycles = length s.rows;
  nodes = length net.nodes;
  sample = λ t n. Known (node_value net.nodes (inputs_in net s t) (registers_in net s t) n);
}

-- a simulated trace as contracts see it: the net, the stimulus, the cycle at which the cursor stands, and how often the net was settled
pub record Traced : Type 0 where
  pub net : NetParts
  pub stim : Stimulus
  pub cursor : Option ℕ
  pub settles : ℕ

-- a new trace stands at the first cycle, where there is one, and is settled there
abbrev pub first_of_rows : {X : Type 0} → List X → Option ℕ
first_of_rows [] = None
first_of_rows (row ∷ rows) = Some 0

abbrev pub first_cycle : Stimulus → Option ℕ
first_cycle s = first_of_rows s.rows

abbrev pub first_settles : {X : Type 0} → List X → ℕ → ℕ
first_settles [] settles = settles
first_settles (row ∷ rows) settles = one_more settles

abbrev pub new_trace : NetParts → Stimulus → ℕ → Traced
new_trace net s settles = record { net = net; stim = s; cursor = first_cycle s; settles = first_settles s.rows settles }
