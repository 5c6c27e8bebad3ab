use Rattle.std.proofs.Common.{subst}
use Rattle.names.specs.Maps.{value_of}
use Rattle.block_net.specs.Walks.{held}
use Rattle.term_net.specs.Leaves.{leaf_tree}
use Rattle.ssa_nodes.specs.Held.{NodeTold}
use Rattle.row_net.specs.Told.{names_by}
use Rattle.row_net.proofs.Growing.{cell_put}
use Rattle.row_net.proofs.cells.put_cell.Goals as goal

pub returns-clause-put : goal.returns-clause-put
returns-clause-put c =
    let places = value_of c.args.places.now in
    let terms = c.args.block.now.terms in
    cell_put c.args.builder.now c.held_node.new.builder places c.args.nodes.now terms c.args.memo.now (names_by terms (value_of c.args.held.now)) c.args.name.now c.in_ok-id.id c.args.cells.now.items c.push.new.self.items
    c.requires.fits c.in_ok-id.ensures.grown
    (subst (λ h. NodeTold c.held_node.new.builder (leaf_tree c.held_node.new.builder places c.args.nodes.now) (held terms c.args.name.now h) c.in_ok-id.id) c.get.ensures c.in_ok-id.ensures.told)
    c.in_ok-push.ensures.items
