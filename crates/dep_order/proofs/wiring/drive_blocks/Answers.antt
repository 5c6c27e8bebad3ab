use Rattle.std.proofs.Common.{◌≡◌, ℕ, ◌≤◌, List, length, map, take, get_or, sym, subst, arith}
use Rattle.std.proofs.lemmas.List.{take_all}
use Rattle.design_core.specs.declared.variant.Block as code_block
use Rattle.design_core.specs.Design as design
use Rattle.design_core.specs.View.{block_of}
use Rattle.names.specs.Maps.{value_of}
use Rattle.dep_order.specs.Wiring.{DrivesBlocks}
use Rattle.dep_order.proofs.Rows.{blocks_next, first_count, more_blocks}
use Rattle.dep_order.proofs.Layers.{layered_both}
use Rattle.dep_order.proofs.wiring.drive_blocks.Goals as goal

pub loop-place-preserved : goal.loop-place-preserved
loop-place-preserved c =
    let i = c.loop-place.place in
    let terms = c.args.terms.now in
    let b = c.index-blocks-place.result in
    let t = c.index-terms-place.result in
    let count : length (map block_of (take i c.args.blocks.now)) ≡ i = first_count c.args.blocks.now i c.loop-place-test.true in
    record {
      graph = c.in_ok-drive_block.ensures.graph;
      longer = omega (arith, c.loop-place.invariant.longer, c.in_ok-drive_block.ensures.longer);
      layers = layered_both c.args.graph.now c.loop-place.graph c.drive_block.new.graph (value_of c.args.numbers.now) c.loop-place.invariant.longer c.loop-place.invariant.layers c.in_ok-drive_block.ensures.layers;
      drives =
          subst (λ (bs : List design.Block). DrivesBlocks c.args.graph.now c.args.driven.now c.drive_block.new.graph c.drive_block.new.driven (value_of c.args.numbers.now) terms bs)
          (sym (more_blocks c.args.blocks.now i b c.loop-place-test.true c.index-blocks-place.is))
          (blocks_next c.args.graph.now c.loop-place.graph c.drive_block.new.graph c.args.driven.now c.loop-place.driven c.drive_block.new.driven (value_of c.args.numbers.now) terms t (map block_of (take i c.args.blocks.now)) (block_of b)
          (omega (arith, count, c.loop-place-test.true, c.requires.count)) (subst (λ (k : ℕ). t ≡ get_or terms k t) (sym count) c.index-terms-place.is)
          c.loop-place.invariant.longer c.loop-place.invariant.drives c.in_ok-drive_block.ensures.drives);
    }

pub returns-clause-drives : goal.returns-clause-drives
returns-clause-drives c =
    let past : length c.args.blocks.now ≤ c.loop-place.place = omega arith in
    subst (λ (bs : List code_block.Block). DrivesBlocks c.args.graph.now c.args.driven.now c.loop-place.graph c.loop-place.driven (value_of c.args.numbers.now) c.args.terms.now (map block_of bs))
    (take_all c.loop-place.place c.args.blocks.now past) c.loop-place.invariant.drives
