use Rattle.std.proofs.Common.{sym, ap, ◌∙◌, subst}
use Rattle.design_core.specs.declared.Ports.{Ports}
use Rattle.net_core.specs.Nets.{NetParts}
use Rattle.sim_hist.specs.Run.{InputsArePorts}
use Rattle.sim_tests.proofs.tests.traced.Goals as goal

pub new-requires-2-clause-inputs : goal.new-requires-2-clause-inputs
new-requires-2-clause-inputs c =
    subst (λ (net : NetParts). InputsArePorts net.nodes c.in_ok-stim.stim.ports) (sym (ap (λ s. s.net) c.in_ok-simulator.ensures))
    (c.in_ok-net.ensures.placed c.in_ok-stim.stim.ports (ap (λ (p : Ports). p.inputs) c.in_ok-stim.ensures.ports ∙ c.in_ok-ports.ensures.inputs))
