use Rattle.term_net.proofs.Advancing.{settled}
use Rattle.term_net.proofs.evaluation.settle.Goals as goal

pub returns-clause-fits : goal.returns-clause-fits
returns-clause-fits c = settled _ _ _ _ _ _ _ _ c.requires.fits c.in_ok-id.ensures.grown c.requires.within c.requires.pending c.in_ok-id.ensures.stands
