use Rattle.std.proofs.Common.{◌≡◌, ◌+◌, ◌++◌, map}
use Rattle.std.specs.Vec.Iter.{into_iter_items}
use Rattle.design_core.specs.View.{block_of}
use Rattle.elab_core.specs.Design.{blocks_size, numbered_blocks}
use Rattle.gen_elab.proofs.designed.number_blocks.Given as goal

-- those so far have their slots, and those that are left get theirs from here
abbrev pub invariant-loop-block : goal.invariant-loop-block
invariant-loop-block l = record {
  slots : map block_of l.made.items ++ numbered_blocks l.next (map block_of (into_iter_items l.block-iterator)) ≡ numbered_blocks l.first (map block_of l.fn.blocks.items);
  next : l.next + blocks_size (map block_of (into_iter_items l.block-iterator)) ≡ l.first + blocks_size (map block_of l.fn.blocks.items);
}
