use Rattle.dep_order.proofs.Sampled.{in_a_loop, is_a_cycle, reaches, through_its_test, two_instances, childs_output}
use Rattle.dep_order.proofs.laws.loops_of_the_samples.Goals as goal

pub returns-clause-reached : goal.returns-clause-reached
returns-clause-reached c = reaches

pub returns-clause-cycle : goal.returns-clause-cycle
returns-clause-cycle c = is_a_cycle

pub returns-clause-itself : goal.returns-clause-itself
returns-clause-itself c = through_its_test

pub returns-clause-others : goal.returns-clause-others
returns-clause-others c = in_a_loop

pub returns-clause-pairs : goal.returns-clause-pairs
returns-clause-pairs c = two_instances

pub returns-clause-output : goal.returns-clause-output
returns-clause-output c = childs_output
