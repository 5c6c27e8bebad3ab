use Rattle.chain_laws.proofs.Demos.{requests_decide, none_is_refused, none_ends_refused}
use Rattle.chain_laws.proofs.laws.requests_decide.Goals as goal

pub returns-clause-status : goal.returns-clause-status
returns-clause-status c = requests_decide

pub returns-clause-no_refusal : goal.returns-clause-no_refusal
returns-clause-no_refusal c = none_is_refused

pub returns-clause-ends : goal.returns-clause-ends
returns-clause-ends c = none_ends_refused
