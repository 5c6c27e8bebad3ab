use Rattle.place_core.proofs.Numbers.{numbered}
use Rattle.place_core.proofs.laws.signals_are_numbered.Goals as goal

pub returns : goal.returns
returns c = numbered
