use Rattle.std.proofs.Common.{◌≡◌, true, length, take}
use Rattle.slot_sched.specs.Spans.{are_spanned, TellGaps}
use Rattle.slot_sched.proofs.spans.refill.Given as goal

abbrev pub invariant-loop-armed : goal.invariant-loop-armed
invariant-loop-armed l =
    (length l.spans.items ≡ length l.fn.spans.items)
    × (l.place ≡ l.armed-index)
    × (are_spanned l.spans.items 0 (take l.armed-index l.armed) ≡ true)
    × (TellGaps l.fn.spans.items → TellGaps l.spans.items)
