use Rattle.std.proofs.Common.{◌≡◌, take}
use Rattle.place_core.specs.Assigned.{names_at}
use Rattle.row_net.specs.Blocks.{signal_names}
use Rattle.row_net.proofs.rows.names_in.Given as goal

abbrev pub invariant-loop-signal : goal.invariant-loop-signal
invariant-loop-signal l = names_at l.names.items ≡ signal_names (take l.signal-index l.signals)
