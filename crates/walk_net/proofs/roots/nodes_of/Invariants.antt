use Rattle.std.proofs.Common.{◌≡◌, ◌++◌, drop}
use Rattle.walk_net.specs.Walked.{output_nodes}
use Rattle.walk_net.proofs.roots.nodes_of.Given as goal

abbrev pub invariant-loop-id : goal.invariant-loop-id
invariant-loop-id l = l.nodes.items ++ output_nodes (drop l.id-index l.outputs) ≡ output_nodes l.outputs
