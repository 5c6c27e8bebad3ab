use Rattle.std.proofs.Common.{◌≡◌, map, take}
use Rattle.shape_net.specs.Numbered.{signal_name}
use Rattle.shape_net.proofs.scopes.signal_names.Given as goal

abbrev pub invariant-loop-signal : goal.invariant-loop-signal
invariant-loop-signal l = l.names.items ≡ map signal_name (take l.signal-index l.signals)
