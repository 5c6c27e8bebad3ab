use Rattle.std.proofs.Common.{map}
use Rattle.machine_core.proofs.Readers.{some_reader}
use Rattle.hub_core.proofs.Handing.{carried_on, some_served}
use Rattle.hub_run.proofs.Opening.{all_open}
use Rattle.hub_run.proofs.Standing.{all_on}
use Rattle.hub_run.proofs.serve.fn.serve_rooms.scope.Goals as goal

pub serve_hub_in-ports-requires-clause-usable : goal.serve_hub_in-ports-requires-clause-usable
serve_hub_in-ports-requires-clause-usable g c κs within =
    all_open g.L.Link.meaning (map g.L.Link.meaning c.captures.links.items) c.start_all-posts.result.0.items c.start_all-posts.result.1.items c.requires.usable c.start_all-posts.ensures.begun

pub finish_all-links-requires-clause-each : goal.finish_all-links-requires-clause-each
finish_all-links-requires-clause-each g c κs within =
    let m = g.L.Link.meaning in
    let ran = c.serve_hub_in-ports.result in
    let some = some_served _ _ _ _ _ _ _ _ _ (c.serve_hub_in-ports.ensures.carried some_reader.0 some_reader.1) in
    (all_on m 0 some.asked some.lines some.took some.here (map m c.captures.links.items) c.start_all-posts.result.0.items c.start_all-posts.result.1.items ran.links.items ran.clients.items
    c.start_all-posts.ensures.begun some.all c.serve_hub_in-ports.ensures.applied).1

pub returns : goal.returns
returns g c = λ read reader.
    let m = g.L.Link.meaning in
    let ran = c.serve_hub_in-ports.result in
    let starts = map m c.captures.links.items in
    carried_on _ _ _ _ _ _ _ _ _ (c.serve_hub_in-ports.ensures.carried read reader) starts _ _
    (λ asked lines took here served. c.finish_all-links.ensures asked lines took here starts
    (all_on m 0 asked lines took here starts c.start_all-posts.result.0.items c.start_all-posts.result.1.items ran.links.items ran.clients.items c.start_all-posts.ensures.begun served c.serve_hub_in-ports.ensures.applied).0)
