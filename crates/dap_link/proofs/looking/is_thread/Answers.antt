use Rattle.std.proofs.Common.{[]}
use Rattle.dap_link.proofs.looking.is_thread.Goals as goal

pub returns-in_err-threads-clause-state : goal.returns-in_err-threads-clause-state
returns-in_err-threads-clause-state g c = c.threads.ensures.state []

pub returns-clause-state : goal.returns-clause-state
returns-clause-state g c = c.threads.ensures.state []
