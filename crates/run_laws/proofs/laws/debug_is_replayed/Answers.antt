use Rattle.run_laws.proofs.Replaying.{replayed}
use Rattle.run_laws.proofs.Prints.{prints_replayed}
use Rattle.run_laws.proofs.laws.debug_is_replayed.Goals as goal

pub returns-clause-held : goal.returns-clause-held
returns-clause-held c = replayed c.replays_are_debugged.ensures

pub returns-clause-prints : goal.returns-clause-prints
returns-clause-prints c = prints_replayed c.replays_are_debugged.ensures
