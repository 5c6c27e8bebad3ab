use Rattle.std.proofs.Common.{◌≡◌, ◌<◌, Some, map, ap, ◌∙◌, ◌++◌, length, get_or, arith}
use Rattle.design_core.specs.DesignView.{design_of}
use Rattle.design_exec.specs.Processes.{processes_at}
use Rattle.ssa_core.specs.Processes.{process_at}
use Rattle.list_core.proofs.Growing.{mapped_more}
use Rattle.ssa_core.proofs.process.process_keys.Goals as goal

pub loop-number-preserved : goal.loop-number-preserved
loop-number-preserved c =
    let d = design_of c.args.design.now in
    let r = c.instance-item.result in
    let within : c.loop-number.number < length c.args.design.now.instances = omega (arith, ap length c.items-instance-items.ensures, c.loop-number-test.true) in
    let at : r ≡ get_or c.args.design.now.instances c.loop-number.number r = c.instance-item.is ∙ ap (λ l. get_or l c.loop-number.number r) c.items-instance-items.ensures in
    mapped_more (λ b. Some b) (processes_at d) (map (process_at d) c.loop-number.keys.items) (map (process_at d) c.push_blocks.new.keys.items) c.args.design.now.instances c.loop-number.number r within at c.loop-number.invariant
    (c.in_ok-push_blocks.ensures ∙ ap (λ n. map (process_at d) c.loop-number.keys.items ++ map (λ b. Some b) (processes_at d (n, r))) c.in_ok-in_32_bits.ensures)
