use Rattle.std.proofs.Common.{◌≡◌, length}
use Rattle.slot_sched.specs.Spans.{TellGaps}
use Rattle.slot_sched.proofs.spans.vacate.Given as goal

abbrev pub invariant-loop-one : goal.invariant-loop-one
invariant-loop-one l = (length l.spans.items ≡ length l.fn.spans.items) × (TellGaps l.fn.spans.items → TellGaps l.spans.items)
