use Rattle.std.proofs.Common.{◌≡◌, take}
use Rattle.names.specs.Maps.{value_of}
use Rattle.name_widths.specs.DeclaredWidths.{width_at}
use Rattle.block_net.specs.Blocks.{begun}
use Rattle.block_net.specs.Walks.{Fits, Shows, among, state_of}
use Rattle.block_net.proofs.block.hide_all.Given as goal

-- those so far
abbrev pub invariant-loop-key : goal.invariant-loop-key
invariant-loop-key l = record {
  fits : Fits l.walk;
  shows : Shows (width_at (value_of l.widths)) l.walk;
  state : state_of l.walk ≡ begun (width_at (value_of l.widths)) (among (take l.key-index l.keys));
  log : l.walk.log.items ≡ l.initial.walk.log.items;
}
