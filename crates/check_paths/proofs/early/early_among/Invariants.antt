use Rattle.std.proofs.Common.{◌≡◌, drop, map}
use Rattle.design_core.specs.View.{block_of}
use Rattle.names.specs.Maps.{value_of}
use Rattle.check_core.specs.Faults.{first_of}
use Rattle.check_core.specs.Paths.{early_in_block}
use Rattle.name_widths.specs.DeclaredWidths.{width_at}
use Rattle.check_paths.proofs.early.early_among.Given as goal

-- what is left tells what all tells
abbrev pub invariant-loop-block : goal.invariant-loop-block
invariant-loop-block l = first_of (early_in_block (width_at (value_of l.widths))) (map block_of (drop l.block-index l.blocks)) ≡ first_of (early_in_block (width_at (value_of l.widths))) (map block_of l.blocks)
