use Rattle.net_trim.proofs.Fronts.{SoFar}
use Rattle.net_trim.proofs.slots.slot_rows.Given as goal

-- the rows so far are the slot's
abbrev pub invariant-loop-row : goal.invariant-loop-row
invariant-loop-row l = SoFar l.net.nodes l.ids l.slot l.rows l.row-index l.made.items
