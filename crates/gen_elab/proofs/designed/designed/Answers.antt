use Rattle.std.proofs.Common.{length}
use Rattle.elab_laws.proofs.ItemCounts.{first_places, first_small, first_few}
use Rattle.gen_elab.proofs.designed.designed.Goals as goal

pub slots_of-requires-clause-places : goal.slots_of-requires-clause-places
slots_of-requires-clause-places c =
    rw c.deref-5.ensures.value (first_places (length c.args.modules.now) c.args.instances.items c.in_ok-firsts.firsts.items c.in_ok-firsts.ensures c.requires.places)

pub slots_of-requires-clause-few : goal.slots_of-requires-clause-few
slots_of-requires-clause-few c = rw c.deref-5.ensures.value (first_small c.args.instances.items c.in_ok-firsts.firsts.items c.in_ok-firsts.ensures c.requires.small)

pub all_variants-requires-clause-few : goal.all_variants-requires-clause-few
all_variants-requires-clause-few c = first_few c.args.instances.items c.in_ok-firsts.firsts.items c.in_ok-firsts.ensures c.requires.few

pub all_variants-requires-clause-small : goal.all_variants-requires-clause-small
all_variants-requires-clause-small c = first_small c.args.instances.items c.in_ok-firsts.firsts.items c.in_ok-firsts.ensures c.requires.small
