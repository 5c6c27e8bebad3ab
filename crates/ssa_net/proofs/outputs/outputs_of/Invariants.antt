use Rattle.std.proofs.Common.{length, take, true}
use Rattle.design_core.specs.Ports.{ports_in}
use Rattle.lower_core.specs.Lowered.{OutputsTold}
use Rattle.net_core.specs.Nets.{outputs_of}
use Rattle.ssa_nodes.specs.Parts.{design_in}
use Rattle.ssa_net.proofs.outputs.outputs_of.Given as goal

abbrev pub invariant-loop-signal : goal.invariant-loop-signal
invariant-loop-signal l = OutputsTold (design_in l.parts) (length l.parts.order.now) l.builder (ports_in true (take l.signal-index l.signal-items)) (outputs_of l.outputs.items)
