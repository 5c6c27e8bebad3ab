use Rattle.chain_laws.proofs.Accepted.{chains_are_accepted}
use Rattle.chain_laws.proofs.Demos.{stimuli_are_accepted}
use Rattle.chain_laws.proofs.laws.chains_are_accepted.Goals as goal

pub returns-clause-design : goal.returns-clause-design
returns-clause-design c = chains_are_accepted

pub returns-clause-stimulus : goal.returns-clause-stimulus
returns-clause-stimulus c = stimuli_are_accepted
