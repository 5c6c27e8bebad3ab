use Rattle.net_trim.specs.Made.{AreFilledBelow}
use Rattle.net_trim.proofs.Filling.{Stands}
use Rattle.net_trim.proofs.slots.fill_slots.Given as goal

-- the rows of the slots so far stand in front, and these slots have them
abbrev pub invariant-loop-k : goal.invariant-loop-k
invariant-loop-k l = record {
  stands : Stands l.rows l.at l.k;
  filled : AreFilledBelow l.net.nodes l.ids l.rows l.initial.slots l.slots l.k;
}
