use Rattle.std.proofs.Common.{ℕ, ◌≤◌, ◌∙◌, List, length, map, take, sym, subst, arith}
use Rattle.std.specs.List.{enumerate_from, flat_map}
use Rattle.std.proofs.lemmas.List.{take_all}
use Rattle.design_core.specs.declared.variant.Child as code_child
use Rattle.design_core.specs.View.{child_of}
use Rattle.design_core.specs.Design as design
use Rattle.design_exec.specs.Processes.{conn_link, none_or}
use Rattle.place_core.specs.Linking.{Link, links_of_child}
use Rattle.place_core.specs.Numbering.{numbers_of}
use Rattle.dep_order.specs.Linking.{DrivesLinks}
use Rattle.dep_order.proofs.Layers.{all_both}
use Rattle.dep_order.proofs.Linked.{links_both, children_more}
use Rattle.dep_order.proofs.instances.drive_children.Goals as goal

pub loop-place-preserved : goal.loop-place-preserved
loop-place-preserved c =
    let i = c.loop-place.place in
    let f : ℕ × design.Child → List Link = links_of_child c.args.instance c.args.below.now in
    let child = c.index-children-place.result in
    record {
      graph = c.in_ok-drive_child.ensures.graph;
      count = c.drive_child.ensures.count ∙ c.loop-place.invariant.count;
      layers = all_both c.args.graph.now c.loop-place.graph c.drive_child.new.graph (numbers_of c.args.maps.now) (omega (arith, c.loop-place.invariant.count)) c.loop-place.invariant.layers c.in_ok-drive_child.ensures.layers;
      drives =
          subst (λ (ls : List Link). DrivesLinks c.args.graph.now c.args.driven.now c.drive_child.new.graph c.drive_child.new.driven (numbers_of c.args.maps.now) ls)
          (sym (children_more f c.args.children.now i child c.loop-place-test.true c.index-children-place.is))
          (links_both c.args.graph.now c.loop-place.graph c.drive_child.new.graph c.args.driven.now c.loop-place.driven c.drive_child.new.driven (numbers_of c.args.maps.now) (flat_map f (enumerate_from 0 (map child_of (take i c.args.children.now)))) (f (i, child_of child))
          c.loop-place.invariant.drives
          (subst (λ o. DrivesLinks c.loop-place.graph c.loop-place.driven c.drive_child.new.graph c.drive_child.new.driven (numbers_of c.args.maps.now) (none_or (λ j. map (conn_link c.args.instance j) (child_of child).conns) o)) c.number_at-number.ensures c.in_ok-drive_child.ensures.drives));
    }

pub returns-clause-drives : goal.returns-clause-drives
returns-clause-drives c =
    let past : length c.args.children.now ≤ c.loop-place.place = omega arith in
    subst (λ (xs : List code_child.Child). DrivesLinks c.args.graph.now c.args.driven.now c.loop-place.graph c.loop-place.driven (numbers_of c.args.maps.now) (flat_map (links_of_child c.args.instance c.args.below.now) (enumerate_from 0 (map child_of xs))))
    (take_all c.loop-place.place c.args.children.now past) c.loop-place.invariant.drives
