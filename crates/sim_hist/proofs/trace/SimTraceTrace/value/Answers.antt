use Rattle.std.proofs.Common.{◌≡◌, subst, sym}
use Rattle.std.specs.Prelude.{IsSome, IfSome}
use Rattle.bv_core.specs.declared.reference.Sample.{Sample}
use Rattle.bv_core.specs.declared.reference.Sample.TheVariants.{Known}
use Rattle.sim_core.specs.Given.{node_value}
use Rattle.sim_hist.specs.Run.{Traced, inputs_in, registers_in}
use Rattle.sim_hist.proofs.Running.{settled_at, sample_told}
use Rattle.sim_hist.proofs.trace.SimTraceTrace.value.Goals as goal

pub value-requires-clause-settled : goal.value-requires-clause-settled
value-requires-clause-settled c =
    settled_at c.self.inside.simulator c.self.inside.stim c.self.inside.cursor c.self.invariant.stands.placed
    (subst (λ (t : Traced). IsSome t.cursor) (sym c.self.view_is) c.requires.placed)

pub returns : goal.returns
returns c =
    subst (λ (s : Traced). IfSome s.cursor (λ t. ◌≡◌ {A = Sample} (Known c.value.result) (Known (node_value s.net.nodes (inputs_in s.net s.stim t) (registers_in s.net s.stim t) c.args.n.0)))) c.self.view_is
    (sample_told c.self.inside.simulator c.self.inside.stim c.self.inside.cursor c.args.n.0 c.value.result c.self.invariant.stands.placed c.value.ensures.value)
