use Rattle.std.proofs.Common.{◌≡◌, ◌≤◌, ◌∙◌, List, length, map, take, sym, subst, ap, arith, get_or}
use Rattle.std.specs.List.{enumerate_from, flat_map}
use Rattle.std.proofs.lemmas.List.{length-map, take_all}
use Rattle.exec_core.specs.Design.{Process}
use Rattle.design_core.specs.declared.design.Instance.{Instance}
use Rattle.design_core.specs.View.{block_of, variant_of}
use Rattle.names.specs.Maps.{value_of}
use Rattle.design_core.specs.DesignView.{design_of}
use Rattle.design_exec.specs.Processes.{blocks_in, process, processes_at, signals_in}
use Rattle.place_core.specs.Numbering.{numbers_of}
use Rattle.ssa_core.specs.Processes.{lists_of}
use Rattle.dep_order.specs.Blocks.{TellBlocks}
use Rattle.dep_order.specs.Linking.{DrivesProcesses, terms_in}
use Rattle.dep_order.proofs.Rows.{tell_count}
use Rattle.design_core.specs.WellFormed.{blocks_at}
use Rattle.dep_order.proofs.Layers.{all_both, all_one}
use Rattle.dep_order.proofs.Linked.{below_at, below_more, block_processes, map_at, processes_both, numbered_more}
use Rattle.dep_order.proofs.instances.drive_processes.Goals as goal

pub drive_blocks-requires-clause-numbers : goal.drive_blocks-requires-clause-numbers
drive_blocks-requires-clause-numbers c =
    below_at (length c.loop-number.graph) c.args.maps.now c.loop-number.number c.index-maps-number.result (below_more (length c.args.graph.now) (length c.loop-number.graph) (numbers_of c.args.maps.now) c.loop-number.invariant.longer c.requires.below)
    (omega (arith, ap length c.items-instance-items.ensures, c.loop-number-test.true, c.requires.maps)) c.index-maps-number.is

pub drive_blocks-requires-clause-marked : goal.drive_blocks-requires-clause-marked
drive_blocks-requires-clause-marked c =
    below_at (length c.loop-number.driven) c.args.maps.now c.loop-number.number c.index-maps-number.result (below_more (length c.args.driven.now) (length c.loop-number.driven) (numbers_of c.args.maps.now) (omega arith) c.requires.marked)
    (omega (arith, ap length c.items-instance-items.ensures, c.loop-number-test.true, c.requires.maps)) c.index-maps-number.is

pub drive_blocks-requires-clause-count : goal.drive_blocks-requires-clause-count
drive_blocks-requires-clause-count c =
    let d = design_of c.args.design.now in
    let v = c.instance-item.result.variant in
    let blocks : map block_of c.blocks_of-blocks.result.now ≡ blocks_in d v = c.blocks_of-blocks.ensures ∙ ap (λ vs. blocks_at v (map variant_of vs)) c.deref.ensures.value in
    let enough : length (blocks_in d v) ≤ length c.terms_of-terms.result.now = subst (λ ts. length (blocks_in d v) ≤ length ts) (sym c.terms_of-terms.ensures) (tell_count (signals_in d v) (terms_in (lists_of c.args.terms.now) v) (blocks_in d v) (c.requires.tell v)) in
    omega (arith, enough, ap length blocks, length-map c.blocks_of-blocks.result.now block_of)

pub loop-number-preserved : goal.loop-number-preserved
loop-number-preserved c =
    let d = design_of c.args.design.now in
    let i = c.loop-number.number in
    let r = c.instance-item.result in
    record {
      graph = c.in_ok-drive_blocks.ensures.graph;
      longer = omega (arith, c.loop-number.invariant.longer, c.in_ok-drive_blocks.ensures.longer);
      layers = all_both c.args.graph.now c.loop-number.graph c.drive_blocks.new.graph (numbers_of c.args.maps.now) c.loop-number.invariant.longer c.loop-number.invariant.layers (all_one c.loop-number.graph c.drive_blocks.new.graph (numbers_of c.args.maps.now) i (value_of c.index-maps-number.result)
          (map_at c.args.maps.now i c.index-maps-number.result (omega (arith, ap length c.items-instance-items.ensures, c.loop-number-test.true, c.requires.maps)) c.index-maps-number.is) c.in_ok-drive_blocks.ensures.layers);
      drives =
          subst (λ (ps : List Process). DrivesProcesses c.args.graph.now c.args.driven.now c.drive_blocks.new.graph c.drive_blocks.new.driven (numbers_of c.args.maps.now) ps)
          (sym (numbered_more (processes_at d) c.args.design.now.instances i r (omega (arith, ap length c.items-instance-items.ensures, c.loop-number-test.true)) (c.instance-item.is ∙ ap (λ rs. get_or rs i r) c.items-instance-items.ensures)))
          (processes_both c.args.graph.now c.loop-number.graph c.drive_blocks.new.graph c.args.driven.now c.loop-number.driven c.drive_blocks.new.driven (numbers_of c.args.maps.now) (flat_map (processes_at d) (enumerate_from 0 (take i c.args.design.now.instances))) (processes_at d (i, r))
          c.loop-number.invariant.longer c.loop-number.invariant.drives
          (subst (λ bs. DrivesProcesses c.loop-number.graph c.loop-number.driven c.drive_blocks.new.graph c.drive_blocks.new.driven (numbers_of c.args.maps.now) (map (process i (signals_in d r.variant)) bs))
          (c.blocks_of-blocks.ensures ∙ ap (λ vs. blocks_at r.variant (map variant_of vs)) c.deref.ensures.value)
          (block_processes c.loop-number.graph c.drive_blocks.new.graph c.loop-number.driven c.drive_blocks.new.driven (numbers_of c.args.maps.now) i (value_of c.index-maps-number.result) (signals_in d r.variant) c.terms_of-terms.result.now (map block_of c.blocks_of-blocks.result.now)
          (map_at c.args.maps.now i c.index-maps-number.result (omega (arith, ap length c.items-instance-items.ensures, c.loop-number-test.true, c.requires.maps)) c.index-maps-number.is)
          (subst (λ ts. TellBlocks (signals_in d r.variant) ts (map block_of c.blocks_of-blocks.result.now)) (sym c.terms_of-terms.ensures)
          (subst (TellBlocks (signals_in d r.variant) (terms_in (lists_of c.args.terms.now) r.variant)) (sym (c.blocks_of-blocks.ensures ∙ ap (λ vs. blocks_at r.variant (map variant_of vs)) c.deref.ensures.value)) (c.requires.tell r.variant)))
          c.in_ok-drive_blocks.ensures.drives)));
    }

pub returns-clause-drives : goal.returns-clause-drives
returns-clause-drives c =
    let past : length c.args.design.now.instances ≤ c.loop-number.number = omega (arith, ap length c.items-instance-items.ensures) in
    subst (λ (xs : List Instance). DrivesProcesses c.args.graph.now c.args.driven.now c.loop-number.graph c.loop-number.driven (numbers_of c.args.maps.now) (flat_map (processes_at (design_of c.args.design.now)) (enumerate_from 0 xs)))
    (take_all c.loop-number.number c.args.design.now.instances past) c.loop-number.invariant.drives
