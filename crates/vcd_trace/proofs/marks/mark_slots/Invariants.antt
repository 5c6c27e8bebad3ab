use Rattle.std.proofs.Common.{take}
use Rattle.std.specs.List.{list_any}
use Rattle.vcd_trace.specs.Named.{slot_names}
use Rattle.vcd_trace.specs.Marked.{Marks}
use Rattle.vcd_trace.proofs.marks.mark_slots.Given as goal

-- the nodes of the front are marked
abbrev pub invariant-loop-slot : goal.invariant-loop-slot
invariant-loop-slot l = Marks l.initial.marks l.marks (λ n. list_any (slot_names n) (take l.slot-index l.slots))
