use Rattle.std.proofs.Common.{◌≡◌, ◌≤◌, ◌+◌, drop, length}
use Rattle.sim_core.specs.Leaves.{gathered, input_in, inputs_of}
use Rattle.sim_core.proofs.leaves.count_inputs.Given as goal

-- those so far, and those of what is left
abbrev pub invariant-loop-id : goal.invariant-loop-id
invariant-loop-id l = (l.count + length (gathered input_in (drop l.id l.net.nodes)) ≡ length (inputs_of l.net.nodes)) × (l.count ≤ l.id)
