use Rattle.std.proofs.Common.{ap, ◌∙◌, length, drop, map}
use Rattle.elab_core.specs.View.{instance_of}
use Rattle.gen_elab.specs.Offsets.{prefix_sums}
use Rattle.gen_elab.proofs.OffsetLemmas.{begins, refilled}
use Rattle.gen_elab.proofs.offsets.slots_of.Goals as goal

pub first_slots-requires-clause-starts : goal.first_slots-requires-clause-starts
first_slots-requires-clause-starts c =
    let items = c.in_ok-starts.starts.items in
    let now = c.sum_before.new.numbers in
    let all = refilled c.in_ok-starts.starts.len now (drop (length now) items) (c.sum_before.auto.numbers ∙ c.deref_mut.ensures.len) in
    let is = all ∙ c.sum_before.ensures ∙ ap (prefix_sums 0) c.deref_mut.ensures.value in
    let found = begins c.args.modules (map instance_of c.args.firsts.now) items _ c.in_ok-starts.ensures is in
    rw found.long found
