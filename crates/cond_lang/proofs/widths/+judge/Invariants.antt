use Rattle.std.proofs.Common.{length}
use Rattle.cond_lang.proofs.widths.+judge.Given as goal

abbrev pub decreases-judge : goal.decreases-judge
decreases-judge l = length l.parts.now
