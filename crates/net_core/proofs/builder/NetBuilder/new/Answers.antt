use Rattle.net_core.proofs.Entries.{no_entries}
use Rattle.net_core.proofs.builder.NetBuilder.new.Goals as goal

pub invariant_of-result : goal.invariant_of-result
invariant_of-result c = no_entries c.new.result.keys c.new.ensures.len

pub returns-clause-shared : goal.returns-clause-shared
returns-clause-shared c = (no_entries c.new.result.keys c.new.ensures.len).shared
