use Rattle.std.proofs.Common.{refl}
use Rattle.std.specs.Fmt.{digits}
use Rattle.bv_core.specs.Text.{hex_digits}
use Rattle.world_core.proofs.laws.walks_the_sample.Goals as goal

-- by computing
pub returns-clause-walked : goal.returns-clause-walked
unfolding digits hex_digits
returns-clause-walked c = refl

pub returns-clause-kept : goal.returns-clause-kept
unfolding digits hex_digits
returns-clause-kept c = refl

pub returns-clause-places : goal.returns-clause-places
unfolding digits
returns-clause-places c = (refl, refl, refl)
