use Rattle.std.proofs.Common.{◌∙◌}
use Rattle.hub_run.proofs.Standing.{side_of, client_given}
use Rattle.hub_run.proofs.finish.finish_far.Goals as goal

pub returns : goal.returns
returns g c = λ start asked lines took here was.
    let m = g.L.Link.meaning in
    let post = c.args.post in
    let ends = c.args.ends in
    let end = c.args.end in
    let side = side_of m start post ends end asked lines took here c.finish-messages.result.0 c.finish-messages.result.1 c.finish-messages.ensures.messages c.finish-messages.ensures.lines.1 c.finish-messages.ensures.last was in
    let pump = rw was.link_is at c.join.ensures.0 in
    let out = c.gather_shut-outlet.result in
    let passes = c.gather_shut-outlet.ensures.passes start asked end.sent.items end.end pump side in
    let told = c.gather_shut-outlet.ensures.told start asked end.sent.items end.end pump side in
    rw c.end_in_two.ensures
    (client_given m start _ (m c.shut_where.result) post ends end out.outlet out.unapplied asked lines took here was c.shut_where.ensures.same passes told (c.shut_where.ensures.shut ∙ c.shut-left.ensures))
