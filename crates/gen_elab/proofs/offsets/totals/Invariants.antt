use Rattle.std.proofs.Common.{map, take}
use Rattle.elab_core.specs.View.{instance_of}
use Rattle.gen_elab.specs.Offsets.{AreTotals, nothing_before}
use Rattle.gen_elab.proofs.offsets.totals.Given as goal

-- so far they are the totals of those that came
abbrev pub invariant-loop-index : goal.invariant-loop-index
invariant-loop-index l = AreTotals nothing_before l.modules (map instance_of (take l.index l.firsts)) l.totals.items
