use Rattle.std.proofs.Common.{refl}
use Rattle.block_net.proofs.WalkSteps.{visited}
use Rattle.block_net.proofs.walk.Walk.visit.Goals as goal

pub returns : goal.returns
returns c = visited _ _ _ _ c.requires.fits c.requires.within refl refl refl c.requires.fits c.in_ok-push.ensures.items
