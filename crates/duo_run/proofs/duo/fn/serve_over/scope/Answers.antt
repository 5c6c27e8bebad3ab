use Rattle.std.proofs.Common.{rules, ◌≡◌}
use Rattle.duo_run.proofs.duo.fn.serve_over.scope.Goals as goal

pub returns-in-Ok : goal.returns-in-Ok
returns-in-Ok g c =
    let from : c.in-Ok.child.promise.link.value ≡ c.captures.link = search rules in
    record {
      carried = c.gather.ensures.carried (g.L.Link.meaning c.captures.link) (rw from at c.join.ensures.0);
      applied = λ read reader told is. c.gather.ensures.applied (g.L.Link.meaning c.captures.link) (rw from at c.join.ensures.0) read _ _ (c.serve_side-side.ensures.applied read reader told is);
    }

pub returns-in-Err : goal.returns-in-Err
returns-in-Err g c =
    let same = c.unread-link.ensures (g.L.Link.meaning c.captures.link) (search rules) in
    record { carried = rw same at c.serve_lockstep.ensures.carried; applied = c.serve_lockstep.ensures.applied }
