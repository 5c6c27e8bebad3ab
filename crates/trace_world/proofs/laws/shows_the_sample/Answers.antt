use Rattle.std.proofs.Common.{refl}
use Rattle.std.specs.Fmt.{digits}
use Rattle.bv_core.specs.Text.{hex_digits}
use Rattle.trace_world.proofs.laws.shows_the_sample.Goals as goal

-- by computing
pub returns : goal.returns
unfolding digits hex_digits
returns c = refl
