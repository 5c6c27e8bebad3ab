use Rattle.std.proofs.Common.{◌≡◌, false, take}
use Rattle.std.specs.List.{list_any}
use Rattle.slot_sched.specs.Armed.{is_number}
use Rattle.slot_sched.proofs.schedule.Schedule.has.Given as goal

abbrev pub invariant-loop-armed : goal.invariant-loop-armed
invariant-loop-armed l = list_any (is_number l.bp) (take l.armed-index l.self.armed.items) ≡ false
