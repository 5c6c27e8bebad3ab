use Rattle.std.proofs.Common.{rules, ◌+◌, ◌-◌, ◌*◌, ◌∙◌, min, map, refl, ap, ap₂, sym, nat_lt}
use Rattle.std.proofs.lemmas.List.{length-map}
use Rattle.trace_core.specs.declared.scan.Way.TheVariants.{Forward, Backward}
use Rattle.trace_world.specs.TraceWorld.{shows_by}
use Rattle.machine_core.specs.Matching.{breakpoints_alone, matches}
use Rattle.machine_core.specs.Search.{searched_for}
use Rattle.site_core.specs.Positions.{total_of}
use Rattle.site_core.proofs.Searched.{forward_is, backward_is}
use Rattle.site_core.proofs.Told.{told}
use Rattle.slot_sched.specs.Armed.{breakpoint_of, breakpoints}
use Rattle.slot_sched.specs.Scan.{searched, position_stops}
use Rattle.slot_sched.proofs.Matches.{position_is, all_ready}
use Rattle.slot_sched.proofs.schedule.Schedule.search.Goals as goal

pub forward-nearest-requires-clause-ready : goal.forward-nearest-requires-clause-ready
forward-nearest-requires-clause-ready g c = search (rules, all_ready)

pub backward-nearest-requires-clause-ready : goal.backward-nearest-requires-clause-ready
backward-nearest-requires-clause-ready g c = search (rules, all_ready)

pub returns-in-Forward-clause-value : goal.returns-in-Forward-clause-value
returns-in-Forward-clause-value g c =
    let parts = c.args.table.now in
    let s = g.T.Trace.samples c.args.trace.now in
    let armed = c.args.self.now.armed.items in
    let count = ap₂ (λ m n. m * n) c.cycles.ensures (c.from.ensures ∙ c.slots.ensures) in
    c.new.ensures
    ∙ forward_is (total_of parts s) (position_stops parts s armed c.args.want) (matches (told parts s) (breakpoints_alone (map breakpoint_of armed)) c.args.want) (position_is parts s armed c.requires.own c.args.want)
    c.args.place c.min-end.result c.forward-nearest.result _ (c.min-end.ensures ∙ ap (λ n. min n (c.args.place + 64)) count) c.forward-nearest.ensures.value
    (ap (λ n. nat_lt n 64) (c.saturating_sub.ensures ∙ ap (λ n. n - c.args.place) count))
    ∙ ap (λ n. searched_for (matches (told parts s) (breakpoints_alone (map breakpoint_of armed)) c.args.want) (s.cycles * n) Forward c.args.place) (sym (length-map parts.slots (shows_by parts)))
    ∙ ap (λ way. searched (told parts s) (breakpoints c.args.self.now) c.args.want way c.args.place) (sym c.in-Forward.is)

pub returns-in-Backward-clause-value : goal.returns-in-Backward-clause-value
returns-in-Backward-clause-value g c =
    let parts = c.args.table.now in
    let s = g.T.Trace.samples c.args.trace.now in
    let armed = c.args.self.now.armed.items in
    c.new-in-Backward.ensures
    ∙ backward_is (total_of parts s) (position_stops parts s armed c.args.want) (matches (told parts s) (breakpoints_alone (map breakpoint_of armed)) c.args.want) (position_is parts s armed c.requires.own c.args.want)
    c.args.place c.saturating_sub-below.result c.saturating_sub-lowest.result c.backward-nearest.result _ c.requires.to c.saturating_sub-below.ensures c.saturating_sub-lowest.ensures
    c.backward-nearest.ensures.value refl
    ∙ ap (λ n. searched_for (matches (told parts s) (breakpoints_alone (map breakpoint_of armed)) c.args.want) (s.cycles * n) Backward c.args.place) (sym (length-map parts.slots (shows_by parts)))
    ∙ ap (λ way. searched (told parts s) (breakpoints c.args.self.now) c.args.want way c.args.place) (sym c.in-Backward.is)
