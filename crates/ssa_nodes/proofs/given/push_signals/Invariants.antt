use Rattle.std.proofs.Common.{◌≡◌, ◌++◌, map, take}
use Rattle.std.specs.List.{flat_map}
use Rattle.ssa_nodes.specs.Givens.{given_as, given_of}
use Rattle.ssa_nodes.proofs.given.push_signals.Given as goal

abbrev pub invariant-loop-signal : goal.invariant-loop-signal
invariant-loop-signal l = map given_as l.list.items ≡ map given_as l.initial.list.items ++ flat_map (given_of l.number l.path) (take l.signal-index l.signals)
