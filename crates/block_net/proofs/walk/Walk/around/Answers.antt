use Rattle.block_net.proofs.TermLists.{within_more}
use Rattle.block_net.proofs.WalkSteps.{grown_twice}
use Rattle.block_net.proofs.PartSteps.{around_stands}
use Rattle.std.proofs.Common.{Some}
use Rattle.block_net.proofs.walk.Walk.around.Goals as goal

pub with_low-requires-clause-old : goal.with_low-requires-clause-old
with_low-requires-clause-old c = within_more _ _ (Some c.args.old) c.in_ok-value.ensures.grown.terms c.requires.old

pub returns-clause-grown : goal.returns-clause-grown
returns-clause-grown c = grown_twice _ _ _ c.in_ok-value.ensures.grown c.in_ok-whole.ensures.grown

pub returns-clause-stands : goal.returns-clause-stands
returns-clause-stands c = around_stands _ _ _ c.args.width c.args.high c.args.low c.args.old c.args.value _ _ c.in_ok-value.ensures.grown.terms c.requires.old c.in_ok-value.ensures.stands c.in_ok-whole.ensures.stands
