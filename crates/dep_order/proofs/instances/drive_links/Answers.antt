use Rattle.std.proofs.Common.{◌≤◌, ◌∙◌, List, length, take, sym, subst, ap, arith, get_or}
use Rattle.std.specs.List.{enumerate_from, flat_map}
use Rattle.std.proofs.lemmas.List.{take_all}
use Rattle.design_core.specs.declared.design.Instance.{Instance}
use Rattle.design_core.specs.DesignView.{design_of}
use Rattle.design_exec.specs.Processes.{links_at}
use Rattle.place_core.specs.Linking.{Link}
use Rattle.place_core.specs.Numbering.{numbers_of}
use Rattle.dep_order.specs.Linking.{DrivesLinks}
use Rattle.dep_order.proofs.Layers.{all_both}
use Rattle.dep_order.proofs.Linked.{links_both, numbered_more}
use Rattle.dep_order.proofs.instances.drive_links.Goals as goal

pub loop-number-preserved : goal.loop-number-preserved
loop-number-preserved c =
    let d = design_of c.args.design.now in
    let i = c.loop-number.number in
    let r = c.instance-item.result in
    record {
      graph = c.in_ok-drive_instance.ensures.graph;
      count = c.drive_instance.ensures.count ∙ c.loop-number.invariant.count;
      layers = all_both c.args.graph.now c.loop-number.graph c.drive_instance.new.graph (numbers_of c.args.maps.now) (omega (arith, c.loop-number.invariant.count)) c.loop-number.invariant.layers c.in_ok-drive_instance.ensures.layers;
      drives =
          subst (λ (ls : List Link). DrivesLinks c.args.graph.now c.args.driven.now c.drive_instance.new.graph c.drive_instance.new.driven (numbers_of c.args.maps.now) ls)
          (sym (numbered_more (links_at d) c.args.design.now.instances i r (omega (arith, ap length c.items-instance-items.ensures, c.loop-number-test.true)) (c.instance-item.is ∙ ap (λ rs. get_or rs i r) c.items-instance-items.ensures)))
          (links_both c.args.graph.now c.loop-number.graph c.drive_instance.new.graph c.args.driven.now c.loop-number.driven c.drive_instance.new.driven (numbers_of c.args.maps.now) (flat_map (links_at d) (enumerate_from 0 (take i c.args.design.now.instances))) (links_at d (i, r))
          c.loop-number.invariant.drives
          (subst (λ n. DrivesLinks c.loop-number.graph c.loop-number.driven c.drive_instance.new.graph c.drive_instance.new.driven (numbers_of c.args.maps.now) (links_at d (n, r))) c.in_ok-in_32_bits.ensures c.in_ok-drive_instance.ensures.drives));
    }

pub returns-clause-drives : goal.returns-clause-drives
returns-clause-drives c =
    let past : length c.args.design.now.instances ≤ c.loop-number.number = omega (arith, ap length c.items-instance-items.ensures) in
    subst (λ (xs : List Instance). DrivesLinks c.args.graph.now c.args.driven.now c.loop-number.graph c.loop-number.driven (numbers_of c.args.maps.now) (flat_map (links_at (design_of c.args.design.now)) (enumerate_from 0 xs)))
    (take_all c.loop-number.number c.args.design.now.instances past) c.loop-number.invariant.drives
