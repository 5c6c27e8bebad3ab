use Rattle.block_net.proofs.BindSteps.{choice_stands}
use Rattle.block_net.proofs.bindings.choice.Goals as goal

pub returns-clause-stands : goal.returns-clause-stands
returns-clause-stands c = choice_stands _ _ c.args.test c.args.first c.args.second _ _ c.in_ok-id.ensures.stands c.common-bits.ensures
