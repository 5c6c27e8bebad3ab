use Rattle.std.proofs.Common.{length, sym, ap, ◌∙◌, subst}
use Rattle.names.specs.Maps.{value_of}
use Rattle.term_net.specs.Memos.{Fits}
use Rattle.ssa_nodes.proofs.Looking.{fits_blank}
use Rattle.ssa_nodes.proofs.source.expr_node.Goals as goal

pub evaluate-requires-clause-fits : goal.evaluate-requires-clause-fits
evaluate-requires-clause-fits c =
    subst (Fits c.args.builder.now (value_of c.args.names.now) c.args.nodes.now c.in_ok-block.block.terms) (sym c.deref_mut.ensures.value)
    (fits_blank c.args.builder.now (value_of c.args.names.now) c.args.nodes.now c.in_ok-block.block.terms c.in_ok-memo.memo.items c.requires.shared c.requires.nodes (c.in_ok-memo.ensures.count ∙ ap length c.terms.ensures.terms) c.in_ok-memo.ensures.none)
