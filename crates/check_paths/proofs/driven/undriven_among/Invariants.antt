use Rattle.std.proofs.Common.{◌≡◌, drop}
use Rattle.names.specs.Known.{has}
use Rattle.check_core.specs.Faults.{first_of}
use Rattle.check_core.specs.Drivers.{undriven_at}
use Rattle.check_paths.proofs.driven.undriven_among.Given as goal

-- what is left tells what all tells
abbrev pub invariant-loop-signal : goal.invariant-loop-signal
invariant-loop-signal l = first_of (undriven_at (has l.assigned)) (drop l.signal-index l.signals) ≡ first_of (undriven_at (has l.assigned)) l.signals
