use Rattle.std.proofs.Common.{◌≡◌, ◌+◌, ◌++◌, List, ℕ, take, map, filter, get_or, sym, subst}
use Rattle.machine_core.specs.Matching.{is_wanted}
use Rattle.site_core.proofs.Sites.{same_item, slot_more}
use Rattle.site_core.proofs.site.push_spots.Goals as goal

pub loop-instance-preserved : goal.loop-instance-preserved
loop-instance-preserved c =
    let is = c.instances_of-instance-items.result.now in
    let same = c.instances_of-instance-items.ensures.instances in
    let i = c.loop-instance.instance-index in
    let spots = λ (n : ℕ) (l : List ℕ). map (λ x. (c.args.slot, x)) (filter (is_wanted c.args.named) (take n l)) in
    subst (λ (l : List ℕ). c.push_spot.new.spots.items ≡ c.args.spots.now.items ++ spots (i + 1) l) same
    (slot_more c.args.table.now c.args.named c.args.slot c.args.spots.now.items c.loop-instance.spots.items c.push_spot.new.spots.items is i (get_or is i 0) c.loop-instance-test.true (same_item is i 0 c.loop-instance-test.true)
    (subst (λ (l : List ℕ). c.loop-instance.spots.items ≡ c.args.spots.now.items ++ spots i l) (sym same) c.loop-instance.invariant) c.in_ok-push_spot.ensures)
