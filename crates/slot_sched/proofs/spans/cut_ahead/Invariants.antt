use Rattle.std.proofs.Common.{◌≡◌, ℕ, ◌+◌, ◌-◌, ◌<◌, ◌≤◌, length}
use Rattle.slot_sched.specs.Spans.{span_of, Narrows}
use Rattle.slot_sched.proofs.spans.cut_ahead.Given as goal

abbrev pub invariant-loop-k : goal.invariant-loop-k
invariant-loop-k l =
    (length l.spans.items ≡ length l.fn.spans.items)
    × Narrows l.fn.spans.items l.spans.items
    × ((k : ℕ) → l.slot - 63 ≤ k → k < l.k → k + (span_of l.spans.items k).ahead ≤ l.slot)
