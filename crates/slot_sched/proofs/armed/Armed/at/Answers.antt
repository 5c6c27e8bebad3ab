use Rattle.std.proofs.Common.{◌-◌, take, drop, length, nat_le, nat_lt, sym, ap, ◌∙◌, subst, rules}
use Rattle.std.specs.List.Sorted.{IsNonDecreasingBy}
use Rattle.std.proofs.lemmas.List.{take_rest}
use Rattle.std.proofs.lemmas.List.Sorted.{IsNonDecreasingBy-take, IsNonDecreasingBy-drop, IsPartitionedBy-ltb, IsPartitionedBy-leb, IsPartitionPoint-from_clause}
use Rattle.site_core.specs.declared.trap.Trap.{Trap}
use Rattle.slot_sched.proofs.Pieces.{one_piece}
use Rattle.slot_sched.proofs.armed.Armed.at.Goals as goal

pub returns : goal.returns
returns c =
    let slot_of : Trap → _ = λ (t : Trap). t.slot in
    let from = c.partition_point-from.result in
    let count = c.partition_point-count.result in
    let ordered = subst (IsNonDecreasingBy slot_of) (sym c.deref.ensures.value) c.args.self.now.in_order in
    let behind : IsNonDecreasingBy slot_of (take (length c.deref-2.result.now - from) (drop from c.deref-2.result.now)) = IsNonDecreasingBy-take slot_of _ _ (IsNonDecreasingBy-drop slot_of from _ (subst (IsNonDecreasingBy slot_of) (sym c.deref-2.ensures.value) c.args.self.now.in_order)) in
    let below = IsPartitionPoint-from_clause (λ (t : Trap). nat_lt t.slot c.args.slot) _ from c.partition_point-from.ensures.partitioned (IsPartitionedBy-ltb slot_of _ c.args.slot ordered) (λ a r q k. search rules) in
    let upto = IsPartitionPoint-from_clause (λ (t : Trap). nat_le t.slot c.args.slot) _ count c.partition_point-count.ensures.partitioned (IsPartitionedBy-leb slot_of _ c.args.slot behind) (λ a r q k. search rules) in
    one_piece c.args.self.now.traps.items c.args.slot from count c.deref.result.now _ c.deref.ensures.value (take_rest c.deref-2.result.now from ∙ ap (drop from) c.deref-2.ensures.value) c.partition_point-from.ensures.bound below
    c.partition_point-count.ensures.bound upto
