use Rattle.std.proofs.Common.{length, map, take}
use Rattle.elab_core.specs.View.{instance_of}
use Rattle.gen_elab.specs.Offsets.{before_place, AreTotals, AreSlots}
use Rattle.gen_elab.proofs.offsets.first_slots.Given as goal

-- so far each variant has its slot, and those that are left begin behind
abbrev pub invariant-loop-index : goal.invariant-loop-index
invariant-loop-index l = record {
  starts : AreTotals (before_place (map instance_of l.firsts)) (length l.fn.starts.items) (map instance_of (take l.index l.firsts)) l.starts.items;
  slots : AreSlots (map instance_of l.firsts) l.index l.slots.items;
}
