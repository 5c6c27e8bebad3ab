use Rattle.std.proofs.Common.{length, sym, subst}
use Rattle.names.specs.Maps.{value_of}
use Rattle.dep_order.specs.Blocks.{AreFollowed}
use Rattle.dep_order.proofs.block.follow_block.Goals as goal

pub returns-clause-ends : goal.returns-clause-ends
returns-clause-ends c =
    let number = value_of c.args.numbers.now in
    let base = length c.args.graph.now in
    let h = c.follow_terms.new.graph in
    c.in_ok-ends.ensures.ends base c.in_ok-vertices.ensures.grown.longer
    (subst (AreFollowed base h number c.args.terms.now.terms (length c.args.terms.now.terms)) (sym c.deref.ensures.value)
    (subst (λ ns. AreFollowed base h number ns (length ns) c.in_ok-vertices.vertices.items) c.terms.ensures.terms c.in_ok-vertices.ensures.followed))
