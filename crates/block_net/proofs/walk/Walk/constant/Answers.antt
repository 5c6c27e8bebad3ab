use Rattle.std.proofs.Common.{refl}
use Rattle.block_net.proofs.WalkSteps.{grown_terms}
use Rattle.block_net.proofs.walk.Walk.constant.Goals as goal

pub returns-clause-grown : goal.returns-clause-grown
returns-clause-grown c = grown_terms _ _ c.requires c.in_ok-id.ensures.extends refl refl refl
