use Rattle.std.proofs.Common.{◌≡◌, ◌++◌, drop}
use Rattle.net_core.specs.Nets.{nexts_of as net_nexts}
use Rattle.walk_net.specs.Walked.{kept_nexts}
use Rattle.walk_net.proofs.ends.nexts_of.Given as goal

abbrev pub invariant-loop-register : goal.invariant-loop-register
invariant-loop-register l = net_nexts l.nexts.items ++ kept_nexts l.ids (net_nexts (drop l.register-index l.register-items)) ≡ kept_nexts l.ids (net_nexts l.register-items)
