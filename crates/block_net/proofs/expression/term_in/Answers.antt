use Rattle.std.proofs.Common.{ap, ◌∙◌, subst}
use Rattle.exec_core.specs.Trees.{tree_in}
use Rattle.block_net.specs.Source.{expr_in}
use Rattle.block_net.specs.Terms.{Stands}
use Rattle.block_net.proofs.Alone.{alone, some_id, tells_alone}
use Rattle.block_net.proofs.expression.term_in.Goals as goal

pub unwrap-requires : goal.unwrap-requires
unwrap-requires c =
    let e = expr_in c.args.expr.now in
    some_id c.term_of.new.self.terms c.in_ok-id.id e (subst (Stands c.term_of.new.self.terms c.in_ok-id.id) (ap (tree_in e) c.requires.env ∙ alone e) c.in_ok-id.ensures.stands)

pub returns-clause-tells : goal.returns-clause-tells
returns-clause-tells c =
    let e = expr_in c.args.expr.now in
    tells_alone c.term_of.new.self.terms c.in_ok-id.id c.unwrap.result e c.unwrap.ensures (subst (Stands c.term_of.new.self.terms c.in_ok-id.id) (ap (tree_in e) c.requires.env ∙ alone e) c.in_ok-id.ensures.stands)
