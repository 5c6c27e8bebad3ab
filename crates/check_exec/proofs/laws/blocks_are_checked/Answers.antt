use Rattle.check_exec.proofs.Checks.{blocks_are_checked}
use Rattle.check_exec.proofs.laws.blocks_are_checked.Goals as goal

pub returns : goal.returns
returns c = blocks_are_checked
