use Rattle.std.proofs.Common.{◌≡◌, ◌-◌, ◌+◌, ◌≤◌, true, false, find, sym, ap, ◌∙◌, subst, arith}
use Rattle.trace_core.specs.Samples.{Samples}
use Rattle.site_core.specs.Positions.{down_from}
use Rattle.site_core.proofs.Nearest.{down_here, down_past}
use Rattle.watch.specs.Changing.{position_changes}
use Rattle.watch.proofs.watch_list.WatchList.backward.Goals as goal

pub returns-then-changes-clause-value : goal.returns-then-changes-clause-value
returns-then-changes-clause-value g c =
    let test = position_changes c.args.table.now (g.T.Trace.samples c.args.trace.now) c.args.self.now.watched.items in
    let more = c.loop-p-test.true in
    let same : c.loop-p.p ≡ c.loop-p.p - 1 + 1 = omega (arith, more) in
    let low : c.args.lowest ≤ c.loop-p.p - 1 = omega (arith, more) in
    let here = subst (λ (s : Samples). position_changes c.args.table.now s c.args.self.now.watched.items (c.loop-p.p - 1) ≡ true) c.loop-p.invariant.0 (sym c.if-changes.ensures.value) in
    sym (c.loop-p.invariant.1 ∙ ap (λ k. find test (down_from k (k - c.args.lowest))) same ∙ down_here test (c.loop-p.p - 1) c.args.lowest low here)

pub loop-p-preserved : goal.loop-p-preserved
loop-p-preserved g c =
    let test = position_changes c.args.table.now (g.T.Trace.samples c.args.trace.now) c.args.self.now.watched.items in
    let more = c.loop-p-test.true in
    let inside = c.loop-p.invariant.2 in
    let same : c.loop-p.p ≡ c.loop-p.p - 1 + 1 = omega (arith, more) in
    let low : c.args.lowest ≤ c.loop-p.p - 1 = omega (arith, more) in
    let none = subst (λ (s : Samples). position_changes c.args.table.now s c.args.self.now.watched.items (c.loop-p.p - 1) ≡ false) c.loop-p.invariant.0 (sym c.if-changes.ensures.value) in (
      c.changes.ensures.kept ∙ c.loop-p.invariant.0,
      c.loop-p.invariant.1 ∙ ap (λ k. find test (down_from k (k - c.args.lowest))) same ∙ down_past test (c.loop-p.p - 1) c.args.lowest low none,
      omega (arith, more, inside),
    )
