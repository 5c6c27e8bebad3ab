use Rattle.std.proofs.Common.{map, ap, arith}
use Rattle.design_core.specs.View.{variant_of}
use Rattle.design_core.proofs.PortSteps.{registers_fit}
use Rattle.design_core.proofs.top.all_registers.Goals as goal

pub count_registers-count-requires : goal.count_registers-count-requires
count_registers-count-requires c =
    omega (
      arith,
      registers_fit (map variant_of c.args.design.now.variants.items) (map variant_of c.deref.result.now) c.args.design.now.instances c.items-instance-items.result.now c.signals_of.result.now
          c.loop-instance.instance-index c.instance-item.result c.items-instance-items.ensures c.loop-instance-test.true c.instance-item.is (ap (map variant_of) c.deref.ensures.value) c.signals_of.ensures
          c.args.design.now.kept.registers,
    )

pub overflow_add-count : goal.overflow_add-count
overflow_add-count c =
    omega (
      arith,
      c.loop-instance.invariant,
      c.count_registers-count.ensures,
      registers_fit (map variant_of c.args.design.now.variants.items) (map variant_of c.deref.result.now) c.args.design.now.instances c.items-instance-items.result.now c.signals_of.result.now
          c.loop-instance.instance-index c.instance-item.result c.items-instance-items.ensures c.loop-instance-test.true c.instance-item.is (ap (map variant_of) c.deref.ensures.value) c.signals_of.ensures
          c.args.design.now.kept.registers,
    )
