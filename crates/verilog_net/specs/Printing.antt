-- A compiled net is the net of its design, and what is printed of it.
use Rattle.std.specs.Prelude.{◌≡◌, ℕ, ◌<◌, ◌^◌, true, false, length}
use Rattle.design_core.specs.declared.Ports.{Ports}
use Rattle.design_core.specs.Design.{Design}
use Rattle.design_core.specs.Ports.{ports_in, top_signals}
use Rattle.net_core.specs.Nodes.{shape_at}
use Rattle.net_core.specs.Nets.{NetParts, next_node}
use Rattle.check_exec.specs.Premises.{IsSound}
use Rattle.world_core.specs.declared.mode.Mode.{Mode}
use Rattle.trim_core.specs.KeptNet.{kept_net}
use Rattle.trim_core.specs.Trimmed.{IsKeptNet}
use Rattle.verilog_out.specs.Printed.{is_register, printed}
use Rattle.verilog_out.specs.ReadBack.{HaveNames, ReadsBack}

-- n is how many signals are driven

-- the inputs and outputs of the top, in order
pub record HasPorts (d : Design) (ports : Ports) : Type 0 where
  pub inputs : ports.inputs ≡ ports_in false (top_signals d)
  pub outputs : ports.outputs ≡ ports_in true (top_signals d)

-- the same nodes by number, the same outputs, and beside each register the same node
pub record AreAlike (v w : NetParts) : Type 0 where
  pub nodes : v.nodes ≡ w.nodes
  pub outputs : v.outputs ≡ w.outputs
  pub nexts : (i : ℕ) → is_register (shape_at v.nodes i) ≡ true → next_node v.nexts i ≡ next_node w.nexts i

-- a compiled net is the net of its design
abbrev pub CompiledAreKept : Type 0
CompiledAreKept = (d : Design) (n : ℕ) (mode : Mode) (net : NetParts) → IsSound d → IsKeptNet d n mode net → AreAlike net (kept_net d n mode)

-- what is printed of a compiled design is the text of a module, and each module of that text means its net
abbrev pub DesignsMeanTheirNets : Type 0
DesignsMeanTheirNets =
    (d : Design) (n : ℕ) (mode : Mode) (net : NetParts) (ports : Ports) → IsSound d → IsKeptNet d n mode net → HasPorts d ports → HaveNames ports → length net.nodes < 2 ^ 64 →
    (printed (kept_net d n mode) ports ≡ printed net ports) × ReadsBack net ports
