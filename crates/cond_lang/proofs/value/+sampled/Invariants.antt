use Rattle.std.proofs.Common.{length}
use Rattle.cond_lang.proofs.value.+sampled.Given as goal

abbrev pub decreases-sampled : goal.decreases-sampled
decreases-sampled g l = length l.parts.now
