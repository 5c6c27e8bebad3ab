use Rattle.std.proofs.Common.{◌∙◌, sym}
use Rattle.std.proofs.lemmas.List.{length-map}
use Rattle.hub_net.proofs.Ending.{gathered_some, starved_before, served_whole, served_some, seats_within, told_all, told_front}
use Rattle.hub_net.proofs.clients.serve_clients.Goals as goal

pub returns-in_default-clause-some : goal.returns-in_default-clause-some
returns-in_default-clause-some g c = λ late over shows.
    rw c.starved.ensures.hub (starved_before _ over _ c.args.count _ _ _ _ _ c.starved.result.status c.starved.ensures.status c.in_default.ensures.err)

pub open_some-requires-clause-seats : goal.open_some-requires-clause-seats
open_some-requires-clause-seats g c κs within = seats_within g.D.Out.Link.meaning c.in-Ok.field-0.links.items c.args.count _ _ _ _ _ c.in-Ok.ensures.ok c.requires.seats

pub returns-in_default-open_some-clause-some : goal.returns-in_default-open_some-clause-some
returns-in_default-open_some-clause-some g c = λ late over shows.
    let r = c.starved-in_default-open_some in
    rw r.ensures.hub (starved_before _ over _ c.args.count _ _ _ _ _ r.result.status r.ensures.status (gathered_some _ _ _ _ _ _ _ c.in-Ok.ensures.ok))

pub returns-clause-all : goal.returns-clause-all
returns-clause-all g c = λ done over shows.
    let all = told_all _ _ c.tell.result c.tell.ensures.ok c.tell.ensures.whole (sym c.status_of-status.ensures ∙ done) in
    served_whole _ over _ c.args.count _ _ _ _ _ c.deref.result.now (rw (sym c.deref.ensures.value) at c.in-Ok.ensures.ok) _ (length-map c.in-Ok.field-0.links.items g.D.Out.Link.meaning) c.in-Ok-open_some.hub (c.in-Ok-open_some.ensures over shows) _ _ all.1.0 all.1.1 all.0

pub returns-clause-some : goal.returns-clause-some
returns-clause-some g c = λ late over shows.
    served_some _ over _ c.args.count _ _ _ _ _ c.deref.result.now (rw (sym c.deref.ensures.value) at c.in-Ok.ensures.ok) _ (length-map c.in-Ok.field-0.links.items g.D.Out.Link.meaning) c.in-Ok-open_some.hub (c.in-Ok-open_some.ensures over shows) _ _ c.status_of-status.result (told_front _ _ _ c.tell.result c.tell.ensures.ok c.tell.ensures.front)
