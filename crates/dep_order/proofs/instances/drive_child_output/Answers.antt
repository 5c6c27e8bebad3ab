use Rattle.std.proofs.Common.{[], ◌∷◌, length, sym, subst}
use Rattle.std.proofs.lemmas.Result.{on_ok_weaker}
use Rattle.tree_core.specs.Tree.{Leaf}
use Rattle.exec_core.specs.Design.{place}
use Rattle.design_exec.specs.Processes.{none_or}
use Rattle.names.specs.Maps.{value_of}
use Rattle.place_core.specs.Numbering.{numbers_of}
use Rattle.dep_order.specs.Linking.{DrivesLinks}
use Rattle.dep_order.proofs.Layers.{all_one}
use Rattle.dep_order.proofs.Linked.{below_at, output_links, links_none, map_at}
use Rattle.dep_order.proofs.instances.drive_child_output.Goals as goal

pub drive_output-requires-clause-parent : goal.drive_output-requires-clause-parent
drive_output-requires-clause-parent c = below_at (length c.args.graph.now) c.args.maps.now c.args.instance c.index-maps-instance.result c.requires.below c.requires.instance c.index-maps-instance.is

pub drive_output-requires-clause-child : goal.drive_output-requires-clause-child
drive_output-requires-clause-child c =
    below_at (length c.args.graph.now) c.args.maps.now c.in-Some.number c.index-maps-number.result c.requires.below (c.requires.number c.in-Some.number c.in-Some.is) c.index-maps-number.is

pub drive_output-requires-clause-marked : goal.drive_output-requires-clause-marked
drive_output-requires-clause-marked c = below_at (length c.args.driven.now) c.args.maps.now c.args.instance c.index-maps-instance.result c.requires.marked c.requires.instance c.index-maps-instance.is

pub returns-in-Some-clause-drives : goal.returns-in-Some-clause-drives
returns-in-Some-clause-drives c =
    let all = numbers_of c.args.maps.now in
    let i = c.args.instance in
    let j = c.in-Some.number in
    on_ok_weaker c.drive_output.result
    (λ d. subst (λ o. DrivesLinks c.args.graph.now c.args.driven.now c.drive_output.new.graph c.drive_output.new.driven all (none_or (λ j. (place i c.args.name.now, Leaf (place j c.args.output.now)) ∷ []) o)) (sym c.in-Some.is)
    (output_links c.args.graph.now c.drive_output.new.graph c.args.driven.now c.drive_output.new.driven all i j (value_of c.index-maps-instance.result) (value_of c.index-maps-number.result) c.args.name.now c.args.output.now
    (map_at c.args.maps.now i c.index-maps-instance.result c.requires.instance c.index-maps-instance.is) (map_at c.args.maps.now j c.index-maps-number.result (c.requires.number j c.in-Some.is) c.index-maps-number.is) d))
    c.drive_output.ensures.drives

pub returns-in-None-clause-drives : goal.returns-in-None-clause-drives
returns-in-None-clause-drives c =
    subst (λ o. DrivesLinks c.args.graph.now c.args.driven.now c.args.graph.now c.args.driven.now (numbers_of c.args.maps.now) (none_or (λ j. (place c.args.instance c.args.name.now, Leaf (place j c.args.output.now)) ∷ []) o)) (sym c.in-None.is)
    (links_none c.args.graph.now c.args.driven.now (numbers_of c.args.maps.now))

pub returns-in-Some-clause-layers : goal.returns-in-Some-clause-layers
returns-in-Some-clause-layers c =
    on_ok_weaker c.drive_output.result (λ l. all_one c.args.graph.now c.drive_output.new.graph (numbers_of c.args.maps.now) c.args.instance (value_of c.index-maps-instance.result) (map_at c.args.maps.now c.args.instance c.index-maps-instance.result c.requires.instance c.index-maps-instance.is) l) c.drive_output.ensures.layers
