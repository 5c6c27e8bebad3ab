use Rattle.std.proofs.Common.{length, subst}
use Rattle.place_core.specs.Below.{PutsBelow, lists_of}
use Rattle.place_core.proofs.Children.{next_put}
use Rattle.place_core.proofs.below.put_instances.Goals as goal

pub loop-number-preserved : goal.loop-number-preserved
loop-number-preserved c =
    let r = c.index-instances-number.result in
    next_put (length c.args.lists.now) c.loop-number.number c.args.instances.now r (lists_of c.loop-number.lists) (lists_of c.put_instance.new.lists) c.loop-number-test.true c.index-instances-number.is c.loop-number.invariant
    (subst (λ n. PutsBelow n r (lists_of c.loop-number.lists) (lists_of c.put_instance.new.lists)) c.in_ok-in_32_bits.ensures c.in_ok-put_instance.ensures)
