use Rattle.std.proofs.Common.{◌≡◌, ◌++◌, drop, map}
use Rattle.check_core.specs.Names.{signal_thing}
use Rattle.check_names.specs.Things.{things_at}
use Rattle.check_names.proofs.duplicate.put_signals.Given as goal

-- those that were put and those of what is left are all
abbrev pub invariant-loop-signal : goal.invariant-loop-signal
invariant-loop-signal l = things_at l.found.items ++ map signal_thing (drop l.signal-index l.signals) ≡ things_at l.initial.found.items ++ map signal_thing l.signals
