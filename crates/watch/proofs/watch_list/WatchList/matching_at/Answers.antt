use Rattle.std.proofs.Common.{rules, ◌≤◌, List, length, filter, ap, ◌∙◌}
use Rattle.std.proofs.lemmas.List.{take_all}
use Rattle.watch.specs.declared.watched.Watched.{Watched}
use Rattle.watch.specs.Changing.{watch_stops}
use Rattle.watch.proofs.Counting.{count_is}
use Rattle.watch.proofs.Matches.{all_ready}
use Rattle.watch.proofs.Ready.{ready_at}
use Rattle.watch.proofs.watch_list.WatchList.matching_at.Goals as goal

pub matches-requires-clause-ready : goal.matches-requires-clause-ready
matches-requires-clause-ready g c =
    ready_at c.args.table.now (g.T.Trace.samples c.args.trace.now) (g.T.Trace.samples c.loop-watched.trace) c.args.self.now.watched.items c.deref-watched-items.result.now c.loop-watched.watched-index c.watched-item.result
    (all_ready c.args.table.now c.parts-parts.ensures.table (g.T.Trace.samples c.args.trace.now) c.requires.fits c.args.self.now.watched.items c.requires.own).each c.loop-watched.invariant.0 c.deref-watched-items.ensures.value (search rules) c.watched-item.is

pub returns-clause-value : goal.returns-clause-value
returns-clause-value g c =
    let s = g.T.Trace.samples c.args.trace.now in
    let past : length c.args.self.now.watched.items ≤ c.loop-watched.watched-index = search rules in
    c.loop-watched.invariant.1
    ∙ ap (λ (l : List Watched). length (filter (watch_stops c.args.table.now s c.args.cycle c.args.slot) l)) (take_all c.loop-watched.watched-index c.args.self.now.watched.items past)
    ∙ count_is c.args.table.now s c.args.self.now.watched.items c.requires.own c.args.cycle c.args.slot c.requires.cycle c.requires.slot
