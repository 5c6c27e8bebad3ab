use Rattle.std.proofs.Common.{sym, subst}
use Rattle.names.specs.Maps.{value_of}
use Rattle.block_net.specs.Source.{expr_in}
use Rattle.term_net.specs.Leaves.{IsReady, leaf_id, leaf_tree}
use Rattle.ssa_core.specs.Links.{value_tree}
use Rattle.ssa_nodes.specs.Parts.{IsReadyBy, StandsBy}
use Rattle.ssa_nodes.proofs.Sources.{ready_here, stands_here, leaf_some, leaf_stands}
use Rattle.ssa_nodes.proofs.source.link_node.Goals as goal

pub expr_node-requires-clause-ready : goal.expr_node-requires-clause-ready
expr_node-requires-clause-ready c =
    let p = c.args.parts.now in
    let t = expr_in c.in-Expr.expr.now in
    subst (λ names. IsReady (leaf_id names c.args.nodes.now) (leaf_tree c.args.builder.now names c.args.nodes.now) t) (sym c.names_of-names.ensures)
    (ready_here p c.requires.parts c.args.builder.now c.args.nodes.now c.args.link.now.source t c.requires.signals (subst (λ v. IsReadyBy p c.args.nodes.now (value_tree c.args.link.now.source v)) c.in-Expr.is c.requires.ready))

pub unwrap-requires : goal.unwrap-requires
unwrap-requires c =
    let p = c.args.parts.now in
    leaf_some p c.requires.parts c.args.nodes.now c.args.link.now.source c.in-Output.output.now (value_of c.names_of-names.result.now) c.leaf_node.result c.names_of-names.ensures c.leaf_node.ensures
    (subst (λ v. IsReadyBy p c.args.nodes.now (value_tree c.args.link.now.source v)) c.in-Output.is c.requires.ready)

pub returns-in_ok-id-in-Expr-clause-stands : goal.returns-in_ok-id-in-Expr-clause-stands
returns-in_ok-id-in-Expr-clause-stands c =
    let p = c.args.parts.now in
    let t = expr_in c.in-Expr.expr.now in
    subst (λ v. StandsBy p c.expr_node.new.builder (value_tree c.args.link.now.source v) c.in_ok-id-in-Expr.id) (sym c.in-Expr.is)
    (stands_here p c.requires.parts c.args.builder.now c.expr_node.new.builder c.args.nodes.now c.args.link.now.source t (value_of c.names_of-names.result.now) c.in_ok-id-in-Expr.id c.names_of-names.ensures c.requires.signals c.in_ok-id-in-Expr.ensures.grown
    (subst (λ v. IsReadyBy p c.args.nodes.now (value_tree c.args.link.now.source v)) c.in-Expr.is c.requires.ready) c.in_ok-id-in-Expr.ensures.stands)

pub returns-in-Output-clause-stands : goal.returns-in-Output-clause-stands
returns-in-Output-clause-stands c =
    let p = c.args.parts.now in
    subst (λ v. StandsBy p c.args.builder.now (value_tree c.args.link.now.source v) c.unwrap.result) (sym c.in-Output.is)
    (leaf_stands p c.requires.parts c.args.builder.now c.args.nodes.now c.args.link.now.source c.in-Output.output.now (value_of c.names_of-names.result.now) c.leaf_node.result c.unwrap.result c.names_of-names.ensures c.requires.signals c.leaf_node.ensures c.unwrap.ensures)
