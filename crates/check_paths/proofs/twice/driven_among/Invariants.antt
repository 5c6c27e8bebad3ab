use Rattle.std.proofs.Common.{◌≡◌, drop, map}
use Rattle.design_core.specs.View.{block_of}
use Rattle.names.specs.Maps.{value_of}
use Rattle.check_core.specs.Drivers.{driven_twice}
use Rattle.check_paths.proofs.twice.driven_among.Given as goal

-- what is left tells what all tells
abbrev pub invariant-loop-block : goal.invariant-loop-block
invariant-loop-block l = driven_twice (value_of l.lines) (map block_of (drop l.block-index l.blocks)) ≡ driven_twice (value_of l.initial.lines) (map block_of l.blocks)
