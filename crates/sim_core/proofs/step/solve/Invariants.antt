use Rattle.sim_core.proofs.Walking.{AreWalked}
use Rattle.sim_core.proofs.step.solve.Given as goal

-- the values of the nodes so far, and the inputs and registers that are left for the others
abbrev pub invariant-loop-id : goal.invariant-loop-id
invariant-loop-id l = AreWalked l.net.nodes l.id l.fn.inputs l.fn.registers l.inputs l.registers l.values
