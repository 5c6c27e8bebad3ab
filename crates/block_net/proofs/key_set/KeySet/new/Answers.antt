use Rattle.block_net.proofs.SetSteps.{seen_nothing}
use Rattle.block_net.proofs.key_set.KeySet.new.Goals as goal

pub returns-clause-kept : goal.returns-clause-kept
returns-clause-kept c = seen_nothing (record { keys = c.new.result; now = c.new-2.result; next = c.new-3.result }) c.new-2.ensures.known c.new-3.ensures.known c.new.ensures.items
