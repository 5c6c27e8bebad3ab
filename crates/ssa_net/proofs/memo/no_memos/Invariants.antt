use Rattle.std.proofs.Common.{take}
use Rattle.ssa_core.specs.Processes.{lists_of}
use Rattle.ssa_nodes.specs.Parts.{blocks_in}
use Rattle.ssa_net.specs.Blank.{AreBlank}
use Rattle.ssa_net.proofs.memo.no_memos.Given as goal

abbrev pub invariant-loop-key : goal.invariant-loop-key
invariant-loop-key l = AreBlank (blocks_in l.parts) (take l.key-index l.key-items) (lists_of l.memos.items)
