use Rattle.std.proofs.Common.{◌≡◌, ◌+◌, ◌<◌, ◌≤◌, min, map, drop}
use Rattle.design_core.specs.View.{block_of}
use Rattle.elab_core.specs.View.{content_of}
use Rattle.elab_core.specs.Design.{blocks_cells, blocks_size}
use Rattle.gen_elab.proofs.cells.cells_of_content.Given as goal

-- those so far and those that are left are all
abbrev pub invariant-loop-block : goal.invariant-loop-block
invariant-loop-block l = record {
  cells : min (l.total + blocks_cells (content_of l.content) (map block_of (drop l.block-index l.content.blocks.items))) 18446744073709551615 ≡ min (blocks_cells (content_of l.content) (map block_of l.content.blocks.items)) 18446744073709551615;
  fits : l.total < 18446744073709551616;
  left : blocks_size (map block_of (drop l.block-index l.content.blocks.items)) ≤ blocks_size (map block_of l.content.blocks.items);
}
