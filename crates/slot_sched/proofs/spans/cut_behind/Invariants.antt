use Rattle.std.proofs.Common.{◌≡◌, ℕ, ◌+◌, ◌<◌, ◌≤◌, length}
use Rattle.slot_sched.specs.Spans.{span_of, Narrows}
use Rattle.slot_sched.proofs.spans.cut_behind.Given as goal

abbrev pub invariant-loop-k : goal.invariant-loop-k
invariant-loop-k l =
    (length l.spans.items ≡ length l.fn.spans.items)
    × Narrows l.fn.spans.items l.spans.items
    × ((k : ℕ) → l.slot ≤ k → k < l.k → l.slot + (span_of l.spans.items k).behind ≤ k)
