use Rattle.names.specs.Maps.{value_of}
use Rattle.ssa_nodes.proofs.LeafNodes.{held_leaf}
use Rattle.ssa_nodes.proofs.held.held_node.Goals as goal

pub returns-in-None-clause-told : goal.returns-in-None-clause-told
returns-in-None-clause-told c =
    held_leaf c.args.builder.now (value_of c.args.names.now) c.args.nodes.now c.args.block.now.terms c.args.name.now c.args.held c.leaf_node.result c.requires.fits.shared c.requires.fits.leaves c.in-None.is c.leaf_node.ensures c.requires.ready
