use Rattle.block_net.proofs.TermLists.{stands_as}
use Rattle.block_net.proofs.WalkSteps.{grown_twice}
use Rattle.block_net.proofs.Branches.{opposite_enable}
use Rattle.block_net.proofs.walk.Walk.else_enable.Goals as goal

pub returns-clause-grown : goal.returns-clause-grown
returns-clause-grown c = grown_twice _ _ _ c.in_ok-opposite.ensures.grown c.in_ok-enable.ensures.grown

pub returns-clause-stands : goal.returns-clause-stands
returns-clause-stands c = stands_as _ _ _ _ (opposite_enable _ _ c.args.branch.enable c.args.branch.test _ c.in_ok-opposite.ensures.grown c.requires.within c.in_ok-opposite.ensures.stands) c.in_ok-enable.ensures.stands
