use Rattle.replay_laws.proofs.Bound as bound
use Rattle.replay_laws.proofs.laws.waves_replay.Goals as goal

pub returns : goal.returns
returns c = bound.waves_replay c.waves_read_back.ensures
