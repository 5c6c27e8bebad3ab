use Rattle.dep_order.proofs.Names.{block_is_process, link_is_met}
use Rattle.dep_order.proofs.laws.drivers_in_order.Goals as goal

pub returns-clause-links : goal.returns-clause-links
returns-clause-links c = link_is_met

pub returns-clause-blocks : goal.returns-clause-blocks
returns-clause-blocks c = block_is_process
