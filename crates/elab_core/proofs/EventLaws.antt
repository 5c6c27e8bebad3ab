-- What is judged is the first faulty event.
use Rattle.std.proofs.Common.{◌≡◌, true, false, List, ◌∷◌, Some, None, Err, if◌then◌else◌, nat_le, refl}
use Rattle.elab_core.specs.Walk.{Walk, Gives, Faulty, Counted, too_large, one_more, seen_of, limit, judge}
use Rattle.elab_core.specs.Events.{Event, Counts, events, tally, or_later, first_fault, fault_in}

pub judged_first : {A : Type 0} (before : List Event) (w : Walk A) → fault_in (judge (tally before) w) ≡ first_fault before (events w)
unfolding judge
judged_first before (Gives a) = refl
judged_first before (Faulty x) = refl
judged_first before (Counted what line w) =
    elim (nat_le (limit what) (seen_of what (tally before))) as (λ b. fault_in (if b then Err (too_large line what) else judge (one_more what (tally before)) w) ≡ or_later (if b then Some (too_large line what) else None) (first_fault (Counts what line ∷ before) (events w)))
    [ true ↦ refl | false ↦ judged_first (Counts what line ∷ before) w ]
