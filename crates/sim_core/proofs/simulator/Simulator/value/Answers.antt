use Rattle.std.proofs.Common.{ap, ◌∙◌}
use Rattle.sim_core.specs.Steps.{bits_at}
use Rattle.sim_core.proofs.Edges.{value_told, solution_told}
use Rattle.sim_core.proofs.simulator.Simulator.value.Goals as goal

pub returns-clause-value : goal.returns-clause-value
returns-clause-value c =
    value_told _ _ _ _ _ _ c.self.invariant _ c.args.self.now c.self.view_is c.args.n.0 c.value_at.result c.requires.node
    (c.value_at.ensures ∙ ap (λ l. bits_at l c.args.n.0) c.deref.ensures.value)

pub returns-clause-solution : goal.returns-clause-solution
returns-clause-solution c =
    solution_told _ _ _ _ _ _ c.self.invariant _ c.args.self.now c.self.view_is c.args.n.0 c.value_at.result c.requires.node
    (c.value_at.ensures ∙ ap (λ l. bits_at l c.args.n.0) c.deref.ensures.value)
