use Rattle.std.proofs.Common.{◌<◌, length, refl, sym, subst, ◌∙◌}
use Rattle.trace_core.specs.Samples.{Samples}
use Rattle.watch.specs.Watching.{watches}
use Rattle.dbg_core.proofs.Threads.{note_told, cycle_inside}
use Rattle.dbg_core.proofs.position.note_at.Goals as goal

pub matching_at-watches-requires-clause-cycle : goal.matching_at-watches-requires-clause-cycle
matching_at-watches-requires-clause-cycle g c =
    let s = g.T.Trace.samples c.args.trace.now in
    subst (λ t. t < s.cycles) (sym c.spot-cycle.ensures.cycle) (cycle_inside s.cycles (length c.args.table.now.slots) c.args.p c.requires.within)

pub returns-clause-note : goal.returns-clause-note
returns-clause-note g c =
    let s = g.T.Trace.samples c.args.trace.now in
    let inside : c.spot-cycle.result.0 < s.cycles =
    subst (λ t. t < s.cycles) (sym c.spot-cycle.ensures.cycle) (cycle_inside s.cycles (length c.args.table.now.slots) c.args.p c.requires.within) in
    let kept = c.matching_at-watches.ensures.kept in
    note_told c.args.table.now s (g.T.Trace.samples c.seek.new.self) (g.T.Trace.cursor c.seek.new.self) (watches c.args.watch.now) c.args.p c.spot-cycle.result.0 c.spot-cycle.result.1
    c.slot.result.now.line c.thread_count.result c.matching_at-watches.result c.slot.result.now c.requires.within c.slot.ensures c.spot-cycle.ensures.cycle c.spot-cycle.ensures.slot refl
    c.thread_count.ensures (c.seek.ensures.kept ∙ kept) (c.seek.ensures.within (subst (λ (x : Samples). c.spot-cycle.result.0 < x.cycles) (sym kept) inside)).1 c.matching_at-watches.ensures.value
