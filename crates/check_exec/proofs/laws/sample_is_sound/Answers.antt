use Rattle.check_exec.proofs.Sampled.{sample_is_sound}
use Rattle.check_exec.proofs.laws.sample_is_sound.Goals as goal

pub returns : goal.returns
returns c = sample_is_sound
