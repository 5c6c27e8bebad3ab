use Rattle.std.proofs.Common.{◌≡◌, map, take}
use Rattle.vcd_write.specs.Run.{value_in}
use Rattle.vcd_write.proofs.cycle.values_here.Given as goal

-- the values so far
abbrev pub invariant-loop-node : goal.invariant-loop-node
invariant-loop-node l = l.values.items ≡ map (value_in l.trace.net l.trace.stim l.cycle) (take l.node-index l.nodes)
