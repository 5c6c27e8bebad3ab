use Rattle.std.proofs.Common.{rules, ◌≤◌, length}
use Rattle.hub_net.proofs.clients.open_some.Goals as goal

pub returns : goal.returns
returns g c = λ over shows.
    let some : 1 ≤ length c.args.links.items = search rules in
    (c.in_ok-hub.ensures.hub over shows, some)
