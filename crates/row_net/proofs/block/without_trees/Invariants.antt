use Rattle.std.proofs.Common.{◌≡◌, take}
use Rattle.names.specs.Known.{has}
use Rattle.names.specs.Maps.{value_of}
use Rattle.place_core.specs.Assigned.{names_at}
use Rattle.row_net.specs.Told.{no_own}
use Rattle.row_net.proofs.block.without_trees.Given as goal

abbrev pub invariant-loop-name : goal.invariant-loop-name
invariant-loop-name l = value_of l.held ≡ no_own (has (names_at (take l.name-index l.names)))
