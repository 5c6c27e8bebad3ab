use Rattle.dap_link.proofs.Failing.{failed_change_nothing}
use Rattle.dap_link.proofs.laws.what_fails_changes_nothing.Goals as goal

pub returns : goal.returns
returns c = failed_change_nothing
