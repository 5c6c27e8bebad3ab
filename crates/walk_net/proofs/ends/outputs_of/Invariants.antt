use Rattle.std.proofs.Common.{◌≡◌, ◌++◌, drop}
use Rattle.net_core.specs.Nets.{outputs_of as net_outputs}
use Rattle.walk_net.specs.Walked.{kept_outputs}
use Rattle.walk_net.proofs.ends.outputs_of.Given as goal

abbrev pub invariant-loop-name : goal.invariant-loop-name
invariant-loop-name l = net_outputs l.outputs.items ++ kept_outputs l.ids (net_outputs (drop l.name-index l.name-items)) ≡ kept_outputs l.ids (net_outputs l.name-items)
