use Rattle.trim_laws.proofs.Shown.{trace_is_known}
use Rattle.trim_laws.proofs.laws.nothing_is_unknown.Goals as goal

pub returns : goal.returns
returns c = trace_is_known
