use Rattle.exec_core.proofs.Showing.{whole_blocks_are_shown}
use Rattle.exec_core.proofs.laws.whole_blocks_are_shown.Goals as goal

pub returns : goal.returns
returns c = whole_blocks_are_shown
