use Rattle.std.proofs.Common.{refl}
use Rattle.std.specs.Vec.Iter.{into_iter_items}
use Rattle.gen_elab.proofs.VariantLemmas.{kept_turn}
use Rattle.gen_elab.proofs.finish.first_instances.Goals as goal

pub loop-instance-preserved : goal.loop-instance-preserved
loop-instance-preserved c =
    let turn =
    kept_turn c.args.instances.items (into_iter_items c.loop-instance.instance-iterator) (into_iter_items c.next.new.self) c.loop-instance.firsts.items c.keep.new.firsts.items c.args.numbers.now
    c.loop-instance.index _ 0 c.in-Some.instance c.in-Some.ensures.steps.0 c.loop-instance.invariant.firsts c.loop-instance.invariant.numbers refl c.in_ok-keep.ensures in
    record { firsts = turn.0; numbers = turn.1 }
