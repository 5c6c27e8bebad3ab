use Rattle.net_core.specs.declared.entry.Entry.{Entry}
use Rattle.net_core.specs.Nodes.{shape_of, node_tree, trees_of}
use Rattle.net_core.proofs.Entries.{Put, put_entry}
use Rattle.net_core.proofs.builder.NetBuilder.put.Goals as goal

made : (c : goal.In_ok-place) → Put c.args.self.now c.insert_full.new.self.keys c.in_ok-place.place (node_tree (trees_of c.args.self.now) (shape_of c.args.node))
made c =
    let e : Entry = record { node = c.args.node; width = c.args.width } in
    let s = c.in_ok-place.ensures.stored in
    put_entry c.self.inside.nodes.keys c.insert_full.new.self.keys c.args.self.now e s.0 c.in_ok-place.place c.self.invariant c.self.view_is
    (record { below = c.requires.below; whole = c.requires.whole; folded_already = c.requires.folded })
    c.requires.width c.in_ok-place.ensures.keys s.1 s.2

pub invariant_of-self-2 : goal.invariant_of-self-2
invariant_of-self-2 c = (made c).entries

pub returns-clause-stands : goal.returns-clause-stands
returns-clause-stands c = (made c).node.stands

pub returns-clause-adds : goal.returns-clause-adds
returns-clause-adds c = (made c).node.adds

pub returns-clause-one_id : goal.returns-clause-one_id
returns-clause-one_id c = (made c).node.shared.trees.one_id

pub returns-clause-keeps : goal.returns-clause-keeps
returns-clause-keeps c = (made c).node.keeps

pub returns-clause-shared : goal.returns-clause-shared
returns-clause-shared c = (made c).node.shared
