use Rattle.std.proofs.Common.{◌≡◌, drop, map}
use Rattle.design_core.specs.View.{block_of}
use Rattle.check_core.specs.Faults.{first_of}
use Rattle.check_core.specs.Names.{unknown_in_block}
use Rattle.check_names.specs.Scopes.{scope_in}
use Rattle.check_names.proofs.unknown.unknown_in_blocks.Given as goal

-- what is left tells what all tells
abbrev pub invariant-loop-block : goal.invariant-loop-block
invariant-loop-block l = first_of (unknown_in_block (scope_in l.scope)) (map block_of (drop l.block-index l.blocks)) ≡ first_of (unknown_in_block (scope_in l.scope)) (map block_of l.blocks)
