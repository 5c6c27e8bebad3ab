use Rattle.std.proofs.Common.{◌≡◌, ◌==◌, ◌&&◌, false, take}
use Rattle.std.specs.List.{list_any}
use Rattle.site_core.specs.declared.trap.Trap.{Trap}
use Rattle.watch.specs.Changing.{trap_changes}
use Rattle.watch.proofs.changing.any_changes.Given as goal

abbrev pub invariant-loop-trap : goal.invariant-loop-trap
invariant-loop-trap g l =
    (g.T.Trace.samples l.trace ≡ g.T.Trace.samples l.fn.trace)
    × (list_any (λ (t : Trap). (t.slot == l.slot) && trap_changes l.table (g.T.Trace.samples l.fn.trace) l.cycle t) (take l.trap-index l.traps) ≡ false)
