use Rattle.std.proofs.Common.{length, take}
use Rattle.place_core.specs.Below.{AreLists, lists_of, some_below}
use Rattle.place_core.proofs.below.put_instances.Given as goal

abbrev pub invariant-loop-number : goal.invariant-loop-number
invariant-loop-number l = AreLists (length l.initial.lists) (some_below (take l.number l.instances)) (lists_of l.lists)
