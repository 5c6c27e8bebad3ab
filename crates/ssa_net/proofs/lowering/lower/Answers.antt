use Rattle.std.proofs.Common.{length, refl, sym, ap, ◌∙◌, subst}
use Rattle.design_core.specs.DesignView.{design_of}
use Rattle.lower_core.specs.Shape.{shape_of}
use Rattle.world_core.specs.Sites.{all_spots}
use Rattle.lower_core.specs.Rows.{AreTold}
use Rattle.ssa_nodes.specs.Parts.{design_in}
use Rattle.ssa_nodes.specs.Driving.{AllHave}
use Rattle.ssa_net.proofs.Ended.{lowered_by, lowered_of}
use Rattle.ssa_net.proofs.Unset.{unset_in}
use Rattle.ssa_net.proofs.lowering.lower.Goals as goal

pub returns-clause-lowered : goal.returns-clause-lowered
returns-clause-lowered c =
    let p = c.in_ok-parts.parts in
    let is = c.in_ok-parts.ensures in
    let ends = c.in_ok-ends.ensures in
    lowered_of p (design_of c.args.design.now) c.args.order.now c.args.mode _ is.design is.order
    (lowered_by p is.parts c.deref.result.now _ c.ends_of.new.builder _ _ c.args.mode _ ends.state
    (subst (AllHave p) (sym c.deref.ensures.value) c.in_ok-nodes.ensures.all)
    refl
    (c.in_ok-shape.ensures ∙ ap shape_of (sym is.design))
    c.finish.ensures.net
    c.finish.ensures.parts
    (subst (AreTold (design_in p) (length p.order.now) c.ends_of.new.builder (all_spots (design_in p))) (sym c.new-2.ensures) ends.rows)
    ends.outputs
    ends.nexts)

pub returns-in_err-parts-clause-unset : goal.returns-in_err-parts-clause-unset
returns-in_err-parts-clause-unset c = unset_in (design_of c.args.design.now) (length c.args.order.now) c.args.design.now.kept c.requires.accepted

pub returns-in_err-builder-clause-unset : goal.returns-in_err-builder-clause-unset
returns-in_err-builder-clause-unset c = unset_in (design_of c.args.design.now) (length c.args.order.now) c.args.design.now.kept c.requires.accepted

pub returns-in_err-nodes-clause-unset : goal.returns-in_err-nodes-clause-unset
returns-in_err-nodes-clause-unset c = unset_in (design_of c.args.design.now) (length c.args.order.now) c.args.design.now.kept c.requires.accepted

pub returns-in_err-ends-clause-unset : goal.returns-in_err-ends-clause-unset
returns-in_err-ends-clause-unset c = unset_in (design_of c.args.design.now) (length c.args.order.now) c.args.design.now.kept c.requires.accepted

pub returns-in_err-shape-clause-unset : goal.returns-in_err-shape-clause-unset
returns-in_err-shape-clause-unset c = unset_in (design_of c.args.design.now) (length c.args.order.now) c.args.design.now.kept c.requires.accepted

pub returns-clause-unset : goal.returns-clause-unset
returns-clause-unset c = unset_in (design_of c.args.design.now) (length c.args.order.now) c.args.design.now.kept c.requires.accepted
