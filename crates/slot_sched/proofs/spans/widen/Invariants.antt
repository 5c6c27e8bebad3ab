use Rattle.std.proofs.Common.{◌≡◌, ℕ, true, length, take}
use Rattle.slot_sched.specs.Spans.{covers, are_covered, TellGaps}
use Rattle.slot_sched.proofs.spans.widen.Given as goal

abbrev pub invariant-loop-trap : goal.invariant-loop-trap
invariant-loop-trap l =
    (length l.spans.items ≡ length l.fn.spans.items)
    × ((k j : ℕ) → covers l.fn.spans.items k j ≡ true → covers l.spans.items k j ≡ true)
    × (are_covered l.spans.items l.place (take l.trap-index l.traps) ≡ true)
    × (TellGaps l.fn.spans.items → TellGaps l.spans.items)
