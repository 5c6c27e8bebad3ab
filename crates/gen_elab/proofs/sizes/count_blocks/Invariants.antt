use Rattle.std.proofs.Common.{◌≡◌, ◌+◌, drop, map}
use Rattle.design_core.specs.View.{block_of}
use Rattle.elab_core.specs.Design.{blocks_size}
use Rattle.gen_elab.proofs.sizes.count_blocks.Given as goal

abbrev pub invariant-loop-block : goal.invariant-loop-block
invariant-loop-block l = l.total + blocks_size (map block_of (drop l.block-index l.blocks)) ≡ blocks_size (map block_of l.blocks)
