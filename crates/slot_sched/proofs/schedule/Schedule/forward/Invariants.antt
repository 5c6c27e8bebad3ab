use Rattle.std.proofs.Common.{◌≡◌, ◌-◌, Some, find, length}
use Rattle.std.specs.Prelude.{IfSome}
use Rattle.list_core.specs.Lists.{from}
use Rattle.slot_sched.specs.Spots.{IsSpot}
use Rattle.slot_sched.specs.Scan.{position_stops}
use Rattle.slot_sched.proofs.schedule.Schedule.forward.Given as goal

abbrev pub invariant-loop-spot : goal.invariant-loop-spot
invariant-loop-spot g l =
    (g.T.Trace.samples l.trace ≡ g.T.Trace.samples l.fn.trace)
    × (find (position_stops l.table (g.T.Trace.samples l.fn.trace) l.self.armed.items l.want) (from l.first (l.end - l.first))
    ≡ find (position_stops l.table (g.T.Trace.samples l.fn.trace) l.self.armed.items l.want) (from l.spot.position (l.end - l.spot.position)))
    × IfSome l.stands (λ at. g.T.Trace.cursor l.trace ≡ Some at)
    × IsSpot (length l.table.slots) l.spot

abbrev pub decreases-loop-spot : goal.decreases-loop-spot
decreases-loop-spot g l = l.end - l.spot.position
