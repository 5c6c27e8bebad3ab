use Rattle.block_net.proofs.Alone.{blank_env, blank_fits, blank_state}
use Rattle.block_net.proofs.expression.blank.Goals as goal

pub returns-clause-fits : goal.returns-clause-fits
returns-clause-fits c = blank_fits _ _ _ c.new-2.ensures c.new-3.ensures

pub returns-clause-state : goal.returns-clause-state
returns-clause-state c = blank_state _ _ _ c.new-2.ensures c.new-3.ensures

pub returns-clause-env : goal.returns-clause-env
returns-clause-env c = blank_env _ _ _ c.new-2.ensures c.new-3.ensures
