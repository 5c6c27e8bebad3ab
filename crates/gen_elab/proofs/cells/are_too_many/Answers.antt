use Rattle.std.proofs.Common.{ap, sym, ◌∙◌, min, arith}
use Rattle.elab_core.specs.Elaborated.{Content}
use Rattle.elab_core.specs.Design.{blocks_cells, blocks_size}
use Rattle.gen_elab.proofs.CellLemmas.{instance_turn, instance_left, code_content}
use Rattle.gen_elab.proofs.cells.are_too_many.Goals as goal

pub cells_of_content-requires : goal.cells_of_content-requires
cells_of_content-requires c =
    let x = c.instance-item.result in
    let left = instance_left c.args.instances.now c.loop-instance.instance-index 200000 x c.loop-instance-test.true c.instance-item.is c.loop-instance.invariant.left in
    omega (arith, left, ap (λ (d : Content). blocks_size d.blocks) (code_content x))

pub loop-instance-preserved : goal.loop-instance-preserved
loop-instance-preserved c =
    let x = c.instance-item.result in
    let left = instance_left c.args.instances.now c.loop-instance.instance-index 200000 x c.loop-instance-test.true c.instance-item.is c.loop-instance.invariant.left in
    let own = c.cells_of_content.ensures ∙ ap (λ (d : Content). min (blocks_cells d d.blocks) 18446744073709551615) (sym (code_content x)) in
    let grown = c.saturating_add-total.ensures in
    record {
      cells = instance_turn c.args.instances.now c.loop-instance.instance-index c.loop-instance.total c.cells_of_content.result c.saturating_add-total.result x c.loop-instance-test.true c.instance-item.is own grown c.loop-instance.invariant.cells;
      fits = c.saturating_add-total.type_inv;
      left = omega (arith, left);
    }
