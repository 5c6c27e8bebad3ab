use Rattle.std.proofs.Common.{take}
use Rattle.gen_tree.specs.View.{lent_of}
use Rattle.elab_walk.specs.Modules.{LeadsTo}
use Rattle.elab_walk.proofs.modules.Modules.of.Given as goal

abbrev pub invariant-loop-place : goal.invariant-loop-place
invariant-loop-place l = LeadsTo l.by_name.entries (lent_of (take l.place l.all))
