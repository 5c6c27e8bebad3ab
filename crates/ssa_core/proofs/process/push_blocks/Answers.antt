use Rattle.std.proofs.Common.{◌≡◌, ◌<◌, ◌≤◌, Some, map, ap, ◌∙◌, ◌++◌, length, arith}
use Rattle.std.proofs.lemmas.List.{length-map, take_all}
use Rattle.design_core.specs.DesignView.{design_of}
use Rattle.design_core.specs.View.{block_of, variant_of}
use Rattle.design_exec.specs.Processes.{process, signals_in, blocks_in}
use Rattle.design_core.specs.WellFormed.{blocks_at}
use Rattle.ssa_core.specs.Processes.{process_at}
use Rattle.ssa_core.proofs.Keys.{keys_more}
use Rattle.ssa_core.proofs.process.push_blocks.Goals as goal

pub loop-block-preserved : goal.loop-block-preserved
loop-block-preserved c =
    let d = design_of c.args.design.now in
    let v = c.args.instance.now.variant in
    let all : map block_of c.blocks_of-blocks.result.now ≡ blocks_in d v = c.blocks_of-blocks.ensures ∙ ap (λ vs. blocks_at v (map variant_of vs)) c.deref.ensures.value in
    let within : c.loop-block.block < length (blocks_in d v) = omega (arith, ap length all, length-map c.blocks_of-blocks.result.now block_of, c.loop-block-test.true) in
    keys_more d (map (process_at d) c.args.keys.now.items) c.loop-block.keys.items c.push.new.self.items (record { instance = c.args.number; variant = v; block = c.in_ok-in_32_bits.field-0 }) c.args.number v c.loop-block.block
    (ap (λ b. record { instance = c.args.number; variant = v; block = b }) c.in_ok-in_32_bits.ensures) within c.loop-block.invariant c.in_ok-push.ensures.items

pub returns : goal.returns
returns c =
    let d = design_of c.args.design.now in
    let v = c.args.instance.now.variant in
    let all : map block_of c.blocks_of-blocks.result.now ≡ blocks_in d v = c.blocks_of-blocks.ensures ∙ ap (λ vs. blocks_at v (map variant_of vs)) c.deref.ensures.value in
    let past : length (blocks_in d v) ≤ c.loop-block.block = omega (arith, ap length all, length-map c.blocks_of-blocks.result.now block_of, c.loop-block-test.false) in
    c.loop-block.invariant ∙ ap (λ bs. map (process_at d) c.args.keys.now.items ++ map (λ b. Some b) (map (process c.args.number (signals_in d v)) bs)) (take_all c.loop-block.block (blocks_in d v) past)
