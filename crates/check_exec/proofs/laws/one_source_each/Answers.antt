use Rattle.check_exec.proofs.Sources.{one_source_each}
use Rattle.check_exec.proofs.laws.one_source_each.Goals as goal

pub returns : goal.returns
returns c = one_source_each
