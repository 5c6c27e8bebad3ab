use Rattle.block_net.proofs.BlockSteps.{linked_blank}
use Rattle.block_net.proofs.block.BlockTerms.of.Goals as goal

pub invariant_of-result : goal.invariant_of-result
invariant_of-result c = linked_blank c.args.walk c.requires.fits c.requires.log
