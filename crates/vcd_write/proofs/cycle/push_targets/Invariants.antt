use Rattle.std.proofs.Common.{◌≡◌, ◌++◌, ℕ, List, map, take}
use Rattle.bv_core.specs.declared.reference.NodeId.{NodeId as Id}
use Rattle.vcd_write.proofs.cycle.push_targets.Given as goal

-- the nodes so far
abbrev pub invariant-loop-id : goal.invariant-loop-id
invariant-loop-id l = l.found.items ≡ l.initial.found.items ++ map (λ (output : List ℕ × Id). output.1.0) (take l.id-index l.outputs)
