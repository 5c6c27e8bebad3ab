use Rattle.std.proofs.Common.{◌≡◌, drop}
use Rattle.names.specs.Known.{has, either}
use Rattle.check_core.specs.Names.{taken_twice}
use Rattle.check_names.specs.Things.{things_at}
use Rattle.check_names.proofs.duplicate.taken_twice.Given as goal

-- what is left tells what all tells
abbrev pub invariant-loop-line : goal.invariant-loop-line
invariant-loop-line l = taken_twice (either (has l.met) (has l.taken)) (things_at (drop l.line-index l.things)) ≡ taken_twice (has l.taken) (things_at l.things)
