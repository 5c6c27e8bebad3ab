use Rattle.std.proofs.Common.{rules, ◌≡◌, ◌-◌, ◌<◌, List, length, map, sym, ap, ap₂, ◌∙◌, subst}
use Rattle.std.specs.Prelude.{slice_get}
use Rattle.machine_core.specs.Matching.{Watch, watches_at}
use Rattle.machine_core.specs.Search.{place_of}
use Rattle.site_core.proofs.Told.{told}
use Rattle.watch.specs.Watching.{watches, matching_at}
use Rattle.watch.proofs.Counting.{at_is}
use Rattle.watch.proofs.watch_list.WatchList.nth_matching.Goals as goal

pub nth_matching_at-requires-clause-there : goal.nth_matching_at-requires-clause-there
nth_matching_at-requires-clause-there g c =
    let w = told c.args.table.now (g.T.Trace.samples c.args.trace.now) in
    let ws = watches c.args.self.now in
    let at : c.place_of.result ≡ place_of c.args.at = search rules in
    let same : watches_at w c.spot_of-cycle.result.0 c.spot_of-cycle.result.1 ws ≡ matching_at w ws (place_of c.args.at - 1) =
    ap₂ (λ t k. watches_at w t k ws) c.spot_of-cycle.ensures.cycle c.spot_of-cycle.ensures.slot ∙ at_is c.args.table.now (g.T.Trace.samples c.args.trace.now) ws (c.place_of.result - 1)
    ∙ ap (λ n. matching_at w ws (n - 1)) at in
    subst (λ (l : List Watch). c.args.i < length l) (sym same) c.requires.there

pub returns-clause-value : goal.returns-clause-value
returns-clause-value g c =
    let w = told c.args.table.now (g.T.Trace.samples c.args.trace.now) in
    let ws = watches c.args.self.now in
    let at : c.place_of.result ≡ place_of c.args.at = search rules in
    let same : watches_at w c.spot_of-cycle.result.0 c.spot_of-cycle.result.1 ws ≡ matching_at w ws (place_of c.args.at - 1) =
    ap₂ (λ t k. watches_at w t k ws) c.spot_of-cycle.ensures.cycle c.spot_of-cycle.ensures.slot ∙ at_is c.args.table.now (g.T.Trace.samples c.args.trace.now) ws (c.place_of.result - 1)
    ∙ ap (λ n. matching_at w ws (n - 1)) at in
    ap (λ (l : List Watch). slice_get (map (λ (watch : Watch). watch.number) l) c.args.i) (sym same) ∙ c.nth_matching_at.ensures.value
