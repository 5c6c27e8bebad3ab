use Rattle.std.proofs.Common.{sym, ap, ◌∙◌, subst}
use Rattle.std.specs.Prelude.{map}
use Rattle.list_core.specs.Lists.{EachOf}
use Rattle.net_core.specs.Nets.{OutputsFit}
use Rattle.walk_net.specs.Next.{trees_by}
use Rattle.walk_net.specs.Renaming.{IsNode}
use Rattle.walk_net.specs.Answer.{IsRoot, output_tree}
use Rattle.walk_net.proofs.Outputs.{same_trees, are_roots, are_nodes}
use Rattle.walk_net.proofs.roots.output_roots.Goals as goal

pub returns-clause-trees : goal.returns-clause-trees
returns-clause-trees c =
    ap (trees_by c.args.net.now.nodes) c.in_ok-roots.ensures ∙ same_trees c.args.net.now.nodes c.outputs.result.now ∙ ap (map (output_tree c.args.net.now.nodes)) c.outputs.ensures.outputs

pub returns-clause-nodes : goal.returns-clause-nodes
returns-clause-nodes c =
    subst (EachOf (IsNode c.args.net.now.nodes)) (sym c.in_ok-roots.ensures)
    (are_nodes c.args.net.now.nodes c.outputs.result.now (subst (OutputsFit c.args.net.now.nodes) (sym c.outputs.ensures.outputs) c.outputs.ensures.fit))

pub returns-clause-roots : goal.returns-clause-roots
returns-clause-roots c =
    let trees = ap (trees_by c.args.net.now.nodes) c.in_ok-roots.ensures ∙ same_trees c.args.net.now.nodes c.outputs.result.now ∙ ap (map (output_tree c.args.net.now.nodes)) c.outputs.ensures.outputs in
    subst (λ ts. EachOf (IsRoot c.args.net.now.nodes ts) c.args.net.now.outputs) (sym trees) (are_roots c.args.net.now.nodes c.args.net.now.outputs)
