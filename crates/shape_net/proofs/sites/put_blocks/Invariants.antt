use Rattle.std.proofs.Common.{◌≡◌, ◌++◌, map, take}
use Rattle.std.specs.List.{flat_map}
use Rattle.design_core.specs.View.{block_of}
use Rattle.shape_net.specs.Numbered.{block_slots}
use Rattle.shape_net.proofs.sites.put_blocks.Given as goal

abbrev pub invariant-loop-block : goal.invariant-loop-block
invariant-loop-block l = l.slots.items ≡ l.initial.slots.items ++ flat_map (block_slots l.variant l.signals) (map block_of (take l.block-index l.blocks))
