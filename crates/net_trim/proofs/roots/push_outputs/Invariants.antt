use Rattle.std.proofs.Common.{◌≡◌, ◌++◌, drop, map}
use Rattle.net_core.specs.Nets.{outputs_of}
use Rattle.net_trim.specs.Roots.{id_of}
use Rattle.net_trim.proofs.roots.push_outputs.Given as goal

-- the outputs so far, and those that are left, are all of them
abbrev pub invariant-loop-id : goal.invariant-loop-id
invariant-loop-id l = l.roots.items ++ map id_of (outputs_of (drop l.id-index l.outputs)) ≡ l.initial.roots.items ++ map id_of (outputs_of l.outputs)
