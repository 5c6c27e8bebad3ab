use Rattle.std.proofs.Common.{◌∙◌, arith, length, map, ap}
use Rattle.design_core.specs.View.{child_of, variant_of}
use Rattle.design_core.specs.DesignView.{design_of}
use Rattle.design_core.specs.WellFormed.{children_at, signals_at}
use Rattle.place_core.specs.Numbering.{numbers_of}
use Rattle.dep_order.proofs.Layers.{all_both}
use Rattle.dep_order.proofs.Linked.{are_instances, instance_drives}
use Rattle.dep_order.proofs.instances.drive_instance.Goals as goal

pub drive_children-requires-clause-numbers : goal.drive_children-requires-clause-numbers
drive_children-requires-clause-numbers c = are_instances (design_of c.args.design.now) c.args.parent.number (length c.args.maps.now) c.args.parent.below.now c.requires.maps c.requires.children

pub drive_child_outs-requires-clause-numbers : goal.drive_child_outs-requires-clause-numbers
drive_child_outs-requires-clause-numbers c = are_instances (design_of c.args.design.now) c.args.parent.number (length c.args.maps.now) c.args.parent.below.now c.requires.maps c.requires.children

pub returns-clause-drives : goal.returns-clause-drives
returns-clause-drives c =
    let v = c.args.parent.instance.now.variant in
    instance_drives c.args.graph.now c.drive_children.new.graph c.drive_child_outs.new.graph c.args.driven.now c.drive_children.new.driven c.drive_child_outs.new.driven (numbers_of c.args.maps.now) (design_of c.args.design.now) c.args.parent.number c.args.parent.instance.now
    c.args.parent.below.now c.args.parent.below.now (map child_of c.children_of-children.result.now) c.signals_of-signals.result.now c.requires.children c.requires.children
    (c.children_of-children.ensures ∙ ap (λ vs. children_at v (map variant_of vs)) c.deref.ensures.value) (c.signals_of-signals.ensures ∙ ap (λ vs. signals_at v (map variant_of vs)) c.deref-2.ensures.value)
    c.in_ok-drive_children.ensures.drives c.in_ok-drive_child_outs.ensures.drives

pub returns-clause-layers : goal.returns-clause-layers
returns-clause-layers c =
    all_both c.args.graph.now c.drive_children.new.graph c.drive_child_outs.new.graph (numbers_of c.args.maps.now) (omega (arith, c.drive_children.ensures.count)) c.in_ok-drive_children.ensures.layers c.in_ok-drive_child_outs.ensures.layers
