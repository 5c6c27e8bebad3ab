use Rattle.trim_laws.proofs.Fitted.{simulated_fit, simulated_are_known}
use Rattle.trim_laws.proofs.laws.simulated_traces_fit.Goals as goal

pub returns-clause-fit : goal.returns-clause-fit
returns-clause-fit c = simulated_fit

pub returns-clause-known : goal.returns-clause-known
returns-clause-known c = simulated_are_known
