use Rattle.std.proofs.Common.{◌<◌, length, List, ℕ, sym, subst}
use Rattle.design_core.specs.View.{expr_of}
use Rattle.design_exec.specs.Processes.{tree_of}
use Rattle.list_core.specs.Lists.{EachOf}
use Rattle.names.specs.Maps.{value_of}
use Rattle.dep_order.specs.Standing.{StandFor}
use Rattle.dep_order.proofs.Names.{drives_by}
use Rattle.dep_order.proofs.wiring.drive_by.Goals as goal

pub drive-requires-clause-edges : goal.drive-requires-clause-edges
drive-requires-clause-edges c =
    subst (λ (vs : List ℕ). EachOf (λ v. v < length c.args.graph.now) vs) (sym c.deref.ensures.value)
    (c.in_ok-read.ensures.within c.args.graph.now c.requires.numbers)

pub returns-clause-drives : goal.returns-clause-drives
returns-clause-drives c =
    drives_by c.args.graph.now c.drive.new.graph c.args.driven.now c.drive.new.driven c.args.vertex (value_of c.args.numbers.now) c.deref.result.now (tree_of (expr_of c.args.expr.now)) c.in_ok-drive.ensures.drives
    (λ signals all. subst (λ (vs : List ℕ). StandFor signals c.args.graph.now (value_of c.args.numbers.now) vs (tree_of (expr_of c.args.expr.now))) (sym c.deref.ensures.value)
    (c.in_ok-read.ensures.stand signals c.args.graph.now all))
