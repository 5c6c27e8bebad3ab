use Rattle.std.proofs.Common.{◌+◌, ◌-◌, ◌*◌, ◌∙◌, min, map, refl, ap, ap₂, sym, nat_lt}
use Rattle.std.proofs.lemmas.List.{length-map}
use Rattle.trace_core.specs.declared.scan.Way.TheVariants.{Forward, Backward}
use Rattle.trace_world.specs.TraceWorld.{shows_by}
use Rattle.machine_core.specs.Search.{searched_for}
use Rattle.site_core.specs.Positions.{total_of}
use Rattle.site_core.proofs.Told.{told}
use Rattle.watch.specs.Changing.{position_changes}
use Rattle.watch.specs.Watching.{watch_of, watches, changes_at, searched}
use Rattle.watch.proofs.Matches.{position_is, all_ready}
use Rattle.site_core.proofs.Searched.{forward_is, backward_is}
use Rattle.watch.proofs.watch_list.WatchList.search.Goals as goal

pub forward-nearest-requires-clause-ready : goal.forward-nearest-requires-clause-ready
forward-nearest-requires-clause-ready g c = all_ready c.args.table.now c.parts-parts.ensures.table (g.T.Trace.samples c.args.trace.now) c.requires.fits c.args.self.now.watched.items c.requires.own

pub backward-nearest-requires-clause-ready : goal.backward-nearest-requires-clause-ready
backward-nearest-requires-clause-ready g c = all_ready c.args.table.now c.parts-parts.ensures.table (g.T.Trace.samples c.args.trace.now) c.requires.fits c.args.self.now.watched.items c.requires.own

pub returns-in-Forward-clause-value : goal.returns-in-Forward-clause-value
returns-in-Forward-clause-value g c =
    let parts = c.args.table.now in
    let s = g.T.Trace.samples c.args.trace.now in
    let list = c.args.self.now.watched.items in
    let count = ap₂ (λ m n. m * n) c.cycles.ensures (c.from.ensures ∙ c.slots.ensures) in
    c.new.ensures
    ∙ forward_is (total_of parts s) (position_changes parts s list) (changes_at (told parts s) (map watch_of list)) (position_is parts s list c.requires.own) c.args.place
    c.min-end.result c.forward-nearest.result _ (c.min-end.ensures ∙ ap (λ n. min n (c.args.place + 64)) count) c.forward-nearest.ensures.value
    (ap (λ n. nat_lt n 64) (c.saturating_sub.ensures ∙ ap (λ n. n - c.args.place) count))
    ∙ ap (λ n. searched_for (changes_at (told parts s) (map watch_of list)) (s.cycles * n) Forward c.args.place) (sym (length-map parts.slots (shows_by parts)))
    ∙ ap (λ way. searched (told parts s) (watches c.args.self.now) way c.args.place) (sym c.in-Forward.is)

pub returns-in-Backward-clause-value : goal.returns-in-Backward-clause-value
returns-in-Backward-clause-value g c =
    let parts = c.args.table.now in
    let s = g.T.Trace.samples c.args.trace.now in
    let list = c.args.self.now.watched.items in
    c.new-in-Backward.ensures
    ∙ backward_is (total_of parts s) (position_changes parts s list) (changes_at (told parts s) (map watch_of list)) (position_is parts s list c.requires.own) c.args.place
    c.saturating_sub-below.result c.saturating_sub-lowest.result c.backward-nearest.result _ c.requires.to c.saturating_sub-below.ensures c.saturating_sub-lowest.ensures
    c.backward-nearest.ensures.value refl
    ∙ ap (λ n. searched_for (changes_at (told parts s) (map watch_of list)) (s.cycles * n) Backward c.args.place) (sym (length-map parts.slots (shows_by parts)))
    ∙ ap (λ way. searched (told parts s) (watches c.args.self.now) way c.args.place) (sym c.in-Backward.is)
