use Rattle.std.proofs.Common.{◌≡◌, drop}
use Rattle.names.specs.Known.{has}
use Rattle.check_core.specs.Faults.{first_of}
use Rattle.check_core.specs.Ports.{unbound_at}
use Rattle.check_names.proofs.unbound.unbound_among.Given as goal

-- what is left tells what all tells
abbrev pub invariant-loop-signal : goal.invariant-loop-signal
invariant-loop-signal l = first_of (unbound_at l.line l.child (has l.ports)) (drop l.signal-index l.signals) ≡ first_of (unbound_at l.line l.child (has l.ports)) l.signals
