use Rattle.std.proofs.Common.{length, map, sym, subst}
use Rattle.std.proofs.lemmas.Result.{on_ok_weaker}
use Rattle.design_core.specs.View.{child_of, conn_of}
use Rattle.design_exec.specs.Processes.{conn_link, none_or}
use Rattle.names.specs.Maps.{value_of}
use Rattle.dep_order.specs.Wiring.{DrivesConns}
use Rattle.place_core.specs.Numbering.{numbers_of}
use Rattle.dep_order.specs.Linking.{DrivesLinks}
use Rattle.dep_order.proofs.Layers.{all_one}
use Rattle.dep_order.proofs.Linked.{below_at, conns_links, links_none, map_at}
use Rattle.dep_order.proofs.instances.drive_child.Goals as goal

pub drive_conns-requires-clause-parent : goal.drive_conns-requires-clause-parent
drive_conns-requires-clause-parent c = below_at (length c.args.graph.now) c.args.maps.now c.args.instance c.index-maps-instance.result c.requires.below c.requires.instance c.index-maps-instance.is

pub drive_conns-requires-clause-child : goal.drive_conns-requires-clause-child
drive_conns-requires-clause-child c =
    below_at (length c.args.graph.now) c.args.maps.now c.in-Some.number c.index-maps-number.result c.requires.below (c.requires.number c.in-Some.number c.in-Some.is) c.index-maps-number.is

pub drive_conns-requires-clause-marked : goal.drive_conns-requires-clause-marked
drive_conns-requires-clause-marked c =
    below_at (length c.args.driven.now) c.args.maps.now c.in-Some.number c.index-maps-number.result c.requires.marked (c.requires.number c.in-Some.number c.in-Some.is) c.index-maps-number.is

pub returns-in-Some-clause-drives : goal.returns-in-Some-clause-drives
returns-in-Some-clause-drives c =
    let all = numbers_of c.args.maps.now in
    let i = c.args.instance in
    let j = c.in-Some.number in
    on_ok_weaker c.drive_conns.result
    (λ d. subst (λ o. DrivesLinks c.args.graph.now c.args.driven.now c.drive_conns.new.graph c.drive_conns.new.driven all (none_or (λ j. map (conn_link i j) (child_of c.args.child.now).conns) o)) (sym c.in-Some.is)
    (conns_links c.args.graph.now c.drive_conns.new.graph c.args.driven.now c.drive_conns.new.driven all i j (value_of c.index-maps-instance.result) (value_of c.index-maps-number.result) (child_of c.args.child.now).conns
    (map_at c.args.maps.now i c.index-maps-instance.result c.requires.instance c.index-maps-instance.is) (map_at c.args.maps.now j c.index-maps-number.result (c.requires.number j c.in-Some.is) c.index-maps-number.is)
    (subst (λ cs. DrivesConns c.args.graph.now c.args.driven.now c.drive_conns.new.graph c.drive_conns.new.driven (value_of c.index-maps-number.result) (value_of c.index-maps-instance.result) (map conn_of cs)) c.deref.ensures.value d)))
    c.drive_conns.ensures.drives

pub returns-in-None-clause-drives : goal.returns-in-None-clause-drives
returns-in-None-clause-drives c =
    subst (λ o. DrivesLinks c.args.graph.now c.args.driven.now c.args.graph.now c.args.driven.now (numbers_of c.args.maps.now) (none_or (λ j. map (conn_link c.args.instance j) (child_of c.args.child.now).conns) o)) (sym c.in-None.is)
    (links_none c.args.graph.now c.args.driven.now (numbers_of c.args.maps.now))

pub returns-in-Some-clause-layers : goal.returns-in-Some-clause-layers
returns-in-Some-clause-layers c =
    on_ok_weaker c.drive_conns.result (λ l. all_one c.args.graph.now c.drive_conns.new.graph (numbers_of c.args.maps.now) c.in-Some.number (value_of c.index-maps-number.result) (map_at c.args.maps.now c.in-Some.number c.index-maps-number.result (c.requires.number c.in-Some.number c.in-Some.is) c.index-maps-number.is) l) c.drive_conns.ensures.layers
