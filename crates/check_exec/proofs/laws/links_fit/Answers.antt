use Rattle.check_exec.proofs.Links.{links_fit}
use Rattle.check_exec.proofs.laws.links_fit.Goals as goal

pub returns : goal.returns
returns c = links_fit
