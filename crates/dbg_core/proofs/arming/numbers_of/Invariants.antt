use Rattle.std.proofs.Common.{◌≡◌, map, take}
use Rattle.slot_sched.specs.Armed.{breakpoints}
use Rattle.dbg_core.proofs.arming.numbers_of.Given as goal

abbrev pub invariant-loop-i : goal.invariant-loop-i
invariant-loop-i l = l.numbers.items ≡ map (λ b. b.number) (take l.i (breakpoints l.schedule))
