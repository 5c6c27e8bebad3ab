use Rattle.std.proofs.Common.{◌≡◌, length}
use Rattle.slot_sched.specs.Spans.{TellGaps}
use Rattle.slot_sched.proofs.spans.vacate_each.Given as goal

abbrev pub invariant-loop-trap : goal.invariant-loop-trap
invariant-loop-trap l = (length l.spans.items ≡ length l.fn.spans.items) × (TellGaps l.fn.spans.items → TellGaps l.spans.items)
