use Rattle.wave_net.proofs.Tell.{waves_tell}
use Rattle.wave_net.proofs.laws.waves_tell_runs.Goals as goal

pub returns : goal.returns
returns c = waves_tell
