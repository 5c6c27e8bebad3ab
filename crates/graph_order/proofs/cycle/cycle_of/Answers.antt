use Rattle.std.proofs.Common.{sym, subst}
use Rattle.std.proofs.lemmas.Result.{IfOk-weaker}
use Rattle.graph_order.specs.Search.{IsRound}
use Rattle.graph_order.proofs.Paths.{round_from}
use Rattle.graph_order.proofs.cycle.cycle_of.Goals as goal

pub returns : goal.returns
returns c = IfOk-weaker c.turned.result _ _
    (λ cycle is g h a k l. is g (subst (IsRound g) (sym c.from_on.ensures) (round_from g c.args.path.now c.args.vertex h a k l)))
    c.turned.ensures
