use Rattle.std.proofs.Common.{subst, map}
use Rattle.design_core.specs.View.{conn_of}
use Rattle.names.specs.Known.{Known, has}
use Rattle.check_core.specs.Faults.{Tells, first_of}
use Rattle.check_core.specs.Ports.{unknown_port_at}
use Rattle.check_names.proofs.ports.unknown_port_in_child.Goals as goal

pub returns : goal.returns
returns c = subst (λ (k : Known). Tells c.unknown_port_in_conns.result (first_of (unknown_port_at (has c.args.outputs.now) k) (map conn_of c.args.child.now.conns.items))) c.in_ok-inputs.ensures
    (subst (λ l. Tells c.unknown_port_in_conns.result (first_of (unknown_port_at (has c.args.outputs.now) (has c.in_ok-inputs.inputs)) (map conn_of l))) c.deref.ensures.value c.unknown_port_in_conns.ensures)
