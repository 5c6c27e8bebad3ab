use Rattle.std.proofs.Common.{subst, map, ap}
use Rattle.design_core.specs.View.{conn_of}
use Rattle.check_core.specs.Faults.{Tells}
use Rattle.check_widths.proofs.MapSteps.{lets_none, conns_as}
use Rattle.check_widths.proofs.mismatch.mismatch_in_child.Goals as goal

pub returns : goal.returns
returns c = subst (λ o. Tells c.conn_mismatches.result o) (conns_as _ _ _ _ _ _ (lets_none _ _ c.new-lets.ensures) c.in_ok-ports.ensures (ap (λ l. map conn_of l) c.deref.ensures.value)) c.conn_mismatches.ensures
