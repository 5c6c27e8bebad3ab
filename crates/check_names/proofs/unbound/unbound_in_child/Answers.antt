use Rattle.std.proofs.Common.{subst, ap, ◌∙◌, map}
use Rattle.design_core.specs.View.{conn_of}
use Rattle.check_core.specs.Ports.{connected}
use Rattle.check_core.specs.Faults.{Tells}
use Rattle.check_names.proofs.ConnNames.{unbound_as}
use Rattle.check_names.proofs.unbound.unbound_in_child.Goals as goal

pub returns : goal.returns
returns c = subst (λ o. Tells c.unbound_among.result o) (unbound_as _ _ _ _ _ _ _ c.bytes.ensures (c.in_ok-ports.ensures ∙ ap (λ l. connected (map conn_of l)) c.deref.ensures.value) c.signals_of-signals.ensures) c.unbound_among.ensures
