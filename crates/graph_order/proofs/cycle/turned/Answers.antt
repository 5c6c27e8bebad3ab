use Rattle.std.proofs.Common.{sym, subst}
use Rattle.std.proofs.lemmas.Result.{IfOk-weaker}
use Rattle.graph_order.specs.Search.{IsTurned}
use Rattle.graph_order.proofs.Paths as paths
use Rattle.graph_order.proofs.cycle.turned.Goals as goal

pub returns : goal.returns
returns c = IfOk-weaker c.turned_at.result _ _
    (λ cycle is. subst (IsTurned c.args.round.now) (sym is) (paths.turned_at c.args.round.now c.least_place.result c.least_place.ensures.within c.least_place.ensures.least))
    c.turned_at.ensures
