use Rattle.std.proofs.Common.{◌<◌, length, get_or, refl, arith}
use Rattle.gen_elab.specs.Offsets.{total}
use Rattle.gen_elab.proofs.OffsetLemmas.{sums_turn, sum_turn, sums_end}
use Rattle.gen_elab.proofs.offsets.sum_before.Goals as goal

pub overflow_add-next : goal.overflow_add-next
overflow_add-next c =
    let below : c.loop-index.index < length c.loop-index.numbers = omega (arith, c.loop-index-test.true, c.loop-index.auto.numbers) in
    let turn = sum_turn c.loop-index.numbers c.loop-index.index c.loop-index.next (get_or c.loop-index.numbers c.loop-index.index 0) (total c.args.numbers.now) below refl c.loop-index.invariant.next in
    omega (arith, turn, c.requires)

pub loop-index-preserved : goal.loop-index-preserved
loop-index-preserved c =
    let below : c.loop-index.index < length c.loop-index.numbers = omega (arith, c.loop-index-test.true, c.loop-index.auto.numbers) in
    record {
      sums = sums_turn c.loop-index.numbers c.args.numbers.now c.loop-index.index c.loop-index.next _ below refl c.loop-index.invariant.sums;
      next = sum_turn c.loop-index.numbers c.loop-index.index c.loop-index.next _ (total c.args.numbers.now) below refl c.loop-index.invariant.next;
    }

pub returns : goal.returns
returns c = sums_end c.loop-index.numbers c.args.numbers.now c.loop-index.index c.loop-index.next (omega (arith, c.loop-index-test.false, c.loop-index.auto.numbers)) c.loop-index.invariant.sums
