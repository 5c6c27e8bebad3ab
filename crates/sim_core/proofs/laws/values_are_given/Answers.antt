use Rattle.sim_core.proofs.Origins.{any_can_be_given, widths_are_given, nodes_have_widths}
use Rattle.sim_core.proofs.Turns.{registers_take_next_values}
use Rattle.sim_core.proofs.laws.values_are_given.Goals as goal

pub returns-clause-any : goal.returns-clause-any
returns-clause-any c = any_can_be_given

pub returns-clause-widths : goal.returns-clause-widths
returns-clause-widths c = widths_are_given

pub returns-clause-edge : goal.returns-clause-edge
returns-clause-edge c = registers_take_next_values

pub returns-clause-nodes : goal.returns-clause-nodes
returns-clause-nodes c = nodes_have_widths
