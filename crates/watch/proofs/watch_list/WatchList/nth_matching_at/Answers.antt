use Rattle.std.proofs.Common.{rules, ◌≡◌, ◌≤◌, ◌<◌, ◌+◌, true, List, length, map, filter, take, get_or, sym, ap, ◌∙◌, subst, arith}
use Rattle.std.specs.Prelude.{slice_get}
use Rattle.std.proofs.lemmas.List.{take_all}
use Rattle.trace_core.specs.Samples.{Samples}
use Rattle.machine_core.specs.Matching.{Watch, watches_at}
use Rattle.site_core.proofs.Told.{told}
use Rattle.watch.specs.declared.watched.Watched.{Watched}
use Rattle.watch.specs.Changing.{watch_stops}
use Rattle.watch.specs.Watching.{watches}
use Rattle.watch.proofs.Counting.{count_is, number_is}
use Rattle.watch.proofs.Matches.{all_ready}
use Rattle.watch.proofs.Ready.{ready_at}
use Rattle.watch.proofs.watch_list.WatchList.nth_matching_at.Goals as goal

pub matches-requires-clause-ready : goal.matches-requires-clause-ready
matches-requires-clause-ready g c =
    ready_at c.args.table.now (g.T.Trace.samples c.args.trace.now) (g.T.Trace.samples c.loop-watched.trace) c.args.self.now.watched.items c.deref-watched-items.result.now c.loop-watched.watched-index c.watched-item.result
    (all_ready c.args.table.now c.parts-parts.ensures.table (g.T.Trace.samples c.args.trace.now) c.requires.fits c.args.self.now.watched.items c.requires.own).each c.loop-watched.invariant.0 c.deref-watched-items.ensures.value (search rules) c.watched-item.is

pub returns-then-left-eq0-clause-value : goal.returns-then-left-eq0-clause-value
returns-then-left-eq0-clause-value g c =
    let s = g.T.Trace.samples c.args.trace.now in
    let list = c.args.self.now.watched.items in
    let passed = length (filter (watch_stops c.args.table.now s c.args.cycle c.args.slot) (take c.loop-watched.watched-index list)) in
    let zero : c.loop-watched.left ≡ 0 = c.if-left-eq0.true in
    let place : c.args.i ≡ passed = c.loop-watched.invariant.1 ∙ ap (λ n. n + passed) zero ∙ (let e : 0 + passed ≡ passed = omega arith in e) in
    let within : c.loop-watched.watched-index < length list = search rules in
    let stops = subst (λ (x : Samples). watch_stops c.args.table.now x c.args.cycle c.args.slot c.watched-item.result ≡ true) c.loop-watched.invariant.0 (sym c.if-matches.ensures.value) in
    ap (slice_get (map (λ (watch : Watch). watch.number) (watches_at (told c.args.table.now s) c.args.cycle c.args.slot (watches c.args.self.now)))) place
    ∙ number_is c.args.table.now s list c.requires.own c.args.cycle c.args.slot c.requires.cycle c.requires.slot c.loop-watched.watched-index c.watched-item.result within
    (sym (c.watched-item.is ∙ ap (λ (l : List Watched). get_or l c.loop-watched.watched-index c.watched-item.result) c.deref-watched-items.ensures.value)) stops

pub returns-clause-value : goal.returns-clause-value
returns-clause-value g c =
    let s = g.T.Trace.samples c.args.trace.now in
    let list = c.args.self.now.watched.items in
    let past : length list ≤ c.loop-watched.watched-index = search rules in
    let all =
    ap (λ (l : List Watched). length (filter (watch_stops c.args.table.now s c.args.cycle c.args.slot) l)) (take_all c.loop-watched.watched-index list past)
    ∙ count_is c.args.table.now s list c.requires.own c.args.cycle c.args.slot c.requires.cycle c.requires.slot in
    let there = c.requires.there in
    let place = c.loop-watched.invariant.1 in
    absurd (omega (arith, there, place, all))
