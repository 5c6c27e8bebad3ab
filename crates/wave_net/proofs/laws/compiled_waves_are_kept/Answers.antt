use Rattle.wave_net.proofs.Alike.{compiled_waves}
use Rattle.wave_net.proofs.laws.compiled_waves_are_kept.Goals as goal

pub returns : goal.returns
returns c = compiled_waves
