use Rattle.std.proofs.Common.{◌≡◌, ◌-◌, ◌≤◌, Some, find, length}
use Rattle.std.specs.Prelude.{IfSome}
use Rattle.slot_sched.specs.Spots.{IsSpot}
use Rattle.slot_sched.specs.Scan.{position_stops}
use Rattle.site_core.specs.Positions.{down_from}
use Rattle.slot_sched.proofs.schedule.Schedule.backward.Given as goal

abbrev pub invariant-loop-spot : goal.invariant-loop-spot
invariant-loop-spot g l =
    (g.T.Trace.samples l.trace ≡ g.T.Trace.samples l.fn.trace)
    × (find (position_stops l.table (g.T.Trace.samples l.fn.trace) l.self.armed.items l.want) (down_from l.below (l.below - l.lowest))
    ≡ find (position_stops l.table (g.T.Trace.samples l.fn.trace) l.self.armed.items l.want) (down_from l.spot.position (l.spot.position - l.lowest)))
    × (l.spot.position ≤ l.below)
    × IfSome l.stands (λ at. g.T.Trace.cursor l.trace ≡ Some at)
    × IsSpot (length l.table.slots) l.spot

abbrev pub decreases-loop-spot : goal.decreases-loop-spot
decreases-loop-spot g l = l.spot.position - l.lowest
