use Rattle.std.proofs.Common.{◌≡◌, ◌++◌, drop}
use Rattle.names.specs.Maps.{value_of}
use Rattle.vcd_trace.specs.Bound.{signals_from, signals_fault}
use Rattle.vcd_trace.proofs.signals.node_signals.Given as goal

-- what is left makes the whole
abbrev pub invariant-loop-n : goal.invariant-loop-n
invariant-loop-n l =
    (l.signals.items ++ signals_from (value_of l.map) l.marks l.n (drop l.n l.nodes) ≡ signals_from (value_of l.map) l.marks 0 l.nodes)
    × (signals_fault (value_of l.map) l.marks l.n (drop l.n l.nodes) ≡ signals_fault (value_of l.map) l.marks 0 l.nodes)
