use Rattle.std.proofs.Common.{◌≤◌, ◌∙◌, List, length, take, sym, subst, arith}
use Rattle.std.specs.List.{flat_map}
use Rattle.std.proofs.lemmas.List.{take_all}
use Rattle.design_core.specs.declared.variant.Signal.{Signal}
use Rattle.place_core.specs.Linking.{Link, link_of_output}
use Rattle.place_core.specs.Numbering.{numbers_of}
use Rattle.dep_order.specs.Linking.{DrivesLinks}
use Rattle.dep_order.proofs.Layers.{all_both}
use Rattle.dep_order.proofs.Linked.{links_both, signals_more}
use Rattle.dep_order.proofs.instances.drive_child_outs.Goals as goal

pub loop-signal-preserved : goal.loop-signal-preserved
loop-signal-preserved c =
    let i = c.loop-signal.signal-index in
    let f : Signal → List Link = (λ s. link_of_output c.args.instance c.args.below.now s.name s.kind) in
    record {
      graph = c.in_ok-drive_child_out.ensures.graph;
      count = c.drive_child_out.ensures.count ∙ c.loop-signal.invariant.count;
      layers = all_both c.args.graph.now c.loop-signal.graph c.drive_child_out.new.graph (numbers_of c.args.maps.now) (omega (arith, c.loop-signal.invariant.count)) c.loop-signal.invariant.layers c.in_ok-drive_child_out.ensures.layers;
      drives =
          subst (λ (ls : List Link). DrivesLinks c.args.graph.now c.args.driven.now c.drive_child_out.new.graph c.drive_child_out.new.driven (numbers_of c.args.maps.now) ls)
          (sym (signals_more f c.args.signals.now i c.signal-item.result c.loop-signal-test.true c.signal-item.is))
          (links_both c.args.graph.now c.loop-signal.graph c.drive_child_out.new.graph c.args.driven.now c.loop-signal.driven c.drive_child_out.new.driven (numbers_of c.args.maps.now) (flat_map f (take i c.args.signals.now)) (f c.signal-item.result)
          c.loop-signal.invariant.drives c.in_ok-drive_child_out.ensures.drives);
    }

pub returns-clause-drives : goal.returns-clause-drives
returns-clause-drives c =
    let past : length c.args.signals.now ≤ c.loop-signal.signal-index = omega arith in
    subst (λ (xs : List Signal). DrivesLinks c.args.graph.now c.args.driven.now c.loop-signal.graph c.loop-signal.driven (numbers_of c.args.maps.now) (flat_map (λ (s : Signal). link_of_output c.args.instance c.args.below.now s.name s.kind) xs))
    (take_all c.loop-signal.signal-index c.args.signals.now past) c.loop-signal.invariant.drives
