use Rattle.headline_laws.proofs.Replayed.{replays_debugged}
use Rattle.headline_laws.proofs.laws.replays_are_debugged.Goals as goal

pub returns : goal.returns
returns c = replays_debugged c.compiled_waves_are_kept.ensures c.waves_replay.ensures
