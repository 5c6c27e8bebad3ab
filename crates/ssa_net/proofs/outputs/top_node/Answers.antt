use Rattle.exec_core.specs.Design.{place}
use Rattle.names.specs.Maps.{value_of}
use Rattle.ssa_nodes.proofs.Sources.{leaf_some, leaf_stands}
use Rattle.ssa_net.proofs.outputs.top_node.Goals as goal

pub unwrap-requires : goal.unwrap-requires
unwrap-requires c =
    let x = c.args.name.now in
    leaf_some c.args.parts.now c.requires.parts c.args.nodes.now 0 x (value_of c.names_of.result.now) c.leaf_node.result c.names_of.ensures c.leaf_node.ensures
    (record { formed = c.requires.signal; known = c.requires.all (place 0 x) c.requires.signal })

pub returns : goal.returns
returns c =
    leaf_stands c.args.parts.now c.requires.parts c.args.builder.now c.args.nodes.now 0 c.args.name.now (value_of c.names_of.result.now) c.leaf_node.result c.unwrap.result c.names_of.ensures c.requires.signals c.leaf_node.ensures c.unwrap.ensures
