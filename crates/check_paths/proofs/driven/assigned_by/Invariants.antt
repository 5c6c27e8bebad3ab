use Rattle.std.proofs.Common.{◌≡◌, drop, map}
use Rattle.design_core.specs.View.{block_of}
use Rattle.names.specs.Known.{has, either}
use Rattle.check_core.specs.Drivers.{is_assigned}
use Rattle.check_paths.proofs.driven.assigned_by.Given as goal

-- those so far, and those of what is left
abbrev pub invariant-loop-block : goal.invariant-loop-block
invariant-loop-block l = either (has l.assigned) (is_assigned (map block_of (drop l.block-index l.blocks))) ≡ is_assigned (map block_of l.blocks)
