use Rattle.std.proofs.Common.{subst, get_or}
use Rattle.list_core.specs.Lists.{IsIn}
use Rattle.list_core.proofs.Lists.{in_place}
use Rattle.graph_order.proofs.search.Search.ahead.Goals as goal

pub returns-clause-edge : goal.returns-clause-edge
returns-clause-edge c =
    let next = c.next-next.result.now in
    let place = c.in_ok-place.place in
    subst (IsIn (get_or next place 0)) c.next-next.ensures.next (in_place next place 0 c.in_ok-place.ensures.within)
