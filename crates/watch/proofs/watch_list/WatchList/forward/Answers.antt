use Rattle.std.proofs.Common.{◌≡◌, true, false, sym, ◌∙◌, subst}
use Rattle.trace_core.specs.Samples.{Samples}
use Rattle.site_core.proofs.Nearest.{up_here, up_past}
use Rattle.watch.specs.Changing.{position_changes}
use Rattle.watch.proofs.watch_list.WatchList.forward.Goals as goal

pub returns-then-changes-clause-value : goal.returns-then-changes-clause-value
returns-then-changes-clause-value g c =
    let here = subst (λ (s : Samples). position_changes c.args.table.now s c.args.self.now.watched.items c.loop-p.p ≡ true) c.loop-p.invariant.0 (sym c.if-changes.ensures.value) in
    sym (c.loop-p.invariant.1 ∙ up_here (position_changes c.args.table.now (g.T.Trace.samples c.args.trace.now) c.args.self.now.watched.items) c.loop-p.p c.args.end c.loop-p-test.true here)

pub loop-p-preserved : goal.loop-p-preserved
loop-p-preserved g c =
    let none = subst (λ (s : Samples). position_changes c.args.table.now s c.args.self.now.watched.items c.loop-p.p ≡ false) c.loop-p.invariant.0 (sym c.if-changes.ensures.value) in (
      c.changes.ensures.kept ∙ c.loop-p.invariant.0,
      c.loop-p.invariant.1 ∙ up_past (position_changes c.args.table.now (g.T.Trace.samples c.args.trace.now) c.args.self.now.watched.items) c.loop-p.p c.args.end c.loop-p-test.true none,
    )
