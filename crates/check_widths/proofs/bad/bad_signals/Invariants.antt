use Rattle.std.proofs.Common.{◌≡◌, drop}
use Rattle.check_core.specs.Faults.{first_of}
use Rattle.check_core.specs.Widths.{bad_signal}
use Rattle.check_widths.proofs.bad.bad_signals.Given as goal

-- what is left tells what all tells
abbrev pub invariant-loop-signal : goal.invariant-loop-signal
invariant-loop-signal l = first_of bad_signal (drop l.signal-index l.signals) ≡ first_of bad_signal l.signals
