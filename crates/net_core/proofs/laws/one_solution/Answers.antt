use Rattle.net_core.proofs.Solutions as solutions
use Rattle.net_core.proofs.laws.one_solution.Goals as goal

pub returns : goal.returns
returns c = solutions.one_solution
