use Rattle.std.proofs.Common.{◌≡◌, drop}
use Rattle.check_core.specs.Widths.{signal_mismatch}
use Rattle.check_core.specs.Faults.{first_of}
use Rattle.check_widths.proofs.mismatch.signal_mismatches.Given as goal

-- what is left tells what all tells
abbrev pub invariant-loop-signal : goal.invariant-loop-signal
invariant-loop-signal l = first_of (signal_mismatch) ((drop l.signal-index l.signals)) ≡ first_of (signal_mismatch) (l.signals)
