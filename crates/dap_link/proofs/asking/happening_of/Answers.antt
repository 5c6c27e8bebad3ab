use Rattle.std.proofs.Common.{[]}
use Rattle.dap_link.proofs.asking.happening_of.Goals as goal

pub returns-in_err-threads-in-Stopped-clause-state : goal.returns-in_err-threads-in-Stopped-clause-state
returns-in_err-threads-in-Stopped-clause-state g c = c.threads.ensures.state []

pub returns-in_ok-threads-in-Stopped-clause-state : goal.returns-in_ok-threads-in-Stopped-clause-state
returns-in_ok-threads-in-Stopped-clause-state g c = c.threads.ensures.state []
