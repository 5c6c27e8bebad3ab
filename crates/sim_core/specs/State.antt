-- The state of a simulator.
use Rattle.std.specs.Prelude.{◌≡◌, ℕ, ◌+◌, ◌-◌, ◌^◌, ◌<◌, min, Bool, true, List, length, Option, Some, None, if◌then◌else◌}
use Rattle.bv_core.specs.Value.{Bits}
use Rattle.tree_core.specs.Tree as tree
use Rattle.net_core.specs.Nodes.{Shape, tree_of, width_at}
use Rattle.net_core.specs.Nets.{NetParts, IsNet}
use Rattle.sim_core.specs.Leaves.{inputs_of, registers_of, starts_of, sources_of}
use Rattle.sim_core.specs.Given.{HaveWidths, Gives, next_registers}
use Rattle.sim_core.specs.Steps.{bits_at}

-- a simulator as contracts see it: its net, the values of its registers in the order of their nodes' numbers, the values of
-- its inputs where it is settled, and how often it was settled
pub record Simulated : Type 0 where
  pub net : NetParts
  pub registers : List Bits
  pub settled : Option (List Bits)
  pub settles : ℕ

-- one more, up to the greatest number of 64 bits
abbrev pub one_more : ℕ → ℕ
one_more n = min (n + 1) (2 ^ 64 - 1)

-- a new simulator: the registers hold the values that they start with
abbrev pub started : NetParts → Simulated
started net = record { net = net; registers = starts_of net.nodes; settled = None; settles = 0 }

-- after a clock edge, where it was settled under these inputs
abbrev pub after_edge : List Bits → Simulated → Simulated
after_edge inputs s = record s { registers = next_registers s.net inputs s.registers; settled = None }

-- the values of all nodes, where inputs and registers have these
pub record AreSolved (ns : List Shape) (inputs registers values : List Bits) : Type 0 where
  pub long : length values ≡ length ns
  pub widths : (j : ℕ) → j < length ns → (bits_at values j).width ≡ width_at ns j
  pub solved : (E : tree.Origin → Bits) → Gives ns inputs registers E → (j : ℕ) → j < length ns → bits_at values j ≡ tree.value_of E (tree_of ns j)

-- what a simulator keeps: a value of its width for each register, the nodes of the next values, and, where it is settled, the
-- values of all nodes
pub record IsSimulator (net : NetParts) (sources : List ℕ) (registers inputs values : List Bits) (settled : Bool) : Type 0 where
  pub is_net : IsNet net
  pub beside : sources ≡ sources_of net
  pub register_widths : HaveWidths (registers_of net.nodes) registers
  pub input_count : length inputs ≡ length (inputs_of net.nodes)
  pub value_count : length values ≡ length net.nodes
  pub input_widths : settled ≡ true → HaveWidths (inputs_of net.nodes) inputs
  pub solved : settled ≡ true → AreSolved net.nodes inputs registers values

-- it is settled under these inputs, or under none
abbrev pub settled_under : Bool → List Bits → Option (List Bits)
settled_under settled inputs = if settled then Some inputs else None
