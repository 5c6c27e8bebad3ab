use Rattle.design_exec.proofs.Standing.{children_stand}
use Rattle.design_exec.proofs.laws.children_stand.Goals as goal

pub returns : goal.returns
returns c = children_stand
