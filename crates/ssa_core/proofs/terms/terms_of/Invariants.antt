use Rattle.std.proofs.Common.{map, take}
use Rattle.design_core.specs.View.{block_of}
use Rattle.names.specs.Maps.{value_of}
use Rattle.name_widths.specs.DeclaredWidths.{width_at}
use Rattle.ssa_core.specs.Processes.{TellBlocks}
use Rattle.ssa_core.proofs.terms.terms_of.Given as goal

abbrev pub invariant-loop-block : goal.invariant-loop-block
invariant-loop-block l = TellBlocks (width_at (value_of l.widths)) l.terms.items (map block_of (take l.block-index l.blocks))
