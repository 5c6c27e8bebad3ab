use Rattle.std.proofs.Common.{◌≡◌, drop, map}
use Rattle.design_core.specs.View.{block_of}
use Rattle.names.specs.Known.{has}
use Rattle.check_core.specs.Faults.{first_of}
use Rattle.check_core.specs.Ports.{unknown_port_in_block}
use Rattle.check_names.proofs.ports.unknown_port_in_blocks.Given as goal

-- what is left tells what all tells
abbrev pub invariant-loop-block : goal.invariant-loop-block
invariant-loop-block l = first_of (unknown_port_in_block (has l.outputs)) (map block_of (drop l.block-index l.blocks)) ≡ first_of (unknown_port_in_block (has l.outputs)) (map block_of l.blocks)
