use Rattle.std.proofs.Common.{map, ap, ◌∙◌, ◌++◌}
use Rattle.design_core.specs.View.{child_of}
use Rattle.design_exec.specs.Processes.{conn_link, none_or}
use Rattle.place_core.specs.Linking.{links_of_child}
use Rattle.ssa_core.specs.Links.{link_as}
use Rattle.list_core.proofs.Growing.{numbered_more}
use Rattle.ssa_core.proofs.link.push_children.Goals as goal

pub loop-place-preserved : goal.loop-place-preserved
loop-place-preserved c =
    let child = c.index-children-place.result in
    numbered_more (links_of_child c.args.parent c.args.below.now) child_of (map link_as c.args.links.now.items) (map link_as c.loop-place.links.items) (map link_as c.push_child.new.links.items)
    c.args.children.now c.loop-place.place child c.loop-place-test.true c.index-children-place.is c.loop-place.invariant
    (c.in_ok-push_child.ensures ∙ ap (λ o. map link_as c.loop-place.links.items ++ none_or (λ j. map (conn_link c.args.parent j) (child_of child).conns) o) c.number_at-number.ensures)
