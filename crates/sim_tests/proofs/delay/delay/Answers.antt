use Rattle.std.proofs.Common.{sym, ap, ◌∙◌, subst}
use Rattle.net_core.specs.Nets.{NextsFit, outputs_of}
use Rattle.sim_tests.proofs.Delaying.{Made, next_fits, placed, fits, one_next}
use Rattle.sim_tests.proofs.delay.delay.Goals as goal
use Rattle.sim_tests.proofs.delay.delay.Goals.{After-new-2, After-finish}

made : (c : After-new-2) → Made c.in_ok-start.start c.in_ok-builder.builder c.input.new.self c.register.new.self c.in_ok-data.data.0 c.in_ok-register.register.0
made c = record {
  none = c.in_ok-builder.ensures.nodes;
  first = c.in_ok-data.ensures.adds;
  data_is = c.in_ok-data.ensures.stands;
  second = c.in_ok-register.ensures.adds;
  keeps = c.in_ok-register.ensures.keeps;
  register_is = c.in_ok-register.ensures.stands;
}

pub finish-requires-clause-nexts : goal.finish-requires-clause-nexts
finish-requires-clause-nexts c =
    subst (NextsFit c.register.new.self) (sym (one_next c.push.new.self.items c.new-nexts.result.items c.in_ok-register.register c.in_ok-data.data c.new-nexts.ensures.items c.in_ok-push.ensures.items))
    (next_fits c.in_ok-start.start _ _ _ _ _ (made c) c.in_ok-start.ensures)

made_after : (c : After-finish) → Made c.in_ok-start.start c.in_ok-builder.builder c.input.new.self c.register.new.self c.in_ok-data.data.0 c.in_ok-register.register.0
made_after c = record {
  none = c.in_ok-builder.ensures.nodes;
  first = c.in_ok-data.ensures.adds;
  data_is = c.in_ok-data.ensures.stands;
  second = c.in_ok-register.ensures.adds;
  keeps = c.in_ok-register.ensures.keeps;
  register_is = c.in_ok-register.ensures.stands;
}

pub returns-clause-placed : goal.returns-clause-placed
returns-clause-placed c = λ ports ins.
    placed c.in_ok-start.start _ _ _ _ _ (made_after c) c.finish.result c.finish.ensures.net (ap (λ p. p.nodes) c.finish.ensures.parts) ports ins

pub returns-clause-fits : goal.returns-clause-fits
returns-clause-fits c = λ ports ins outs.
    fits c.in_ok-start.start _ _ _ _ _ (made_after c) c.finish.result c.finish.ensures.net (ap (λ p. p.nodes) c.finish.ensures.parts) (ap (λ p. p.outputs) c.finish.ensures.parts ∙ ap outputs_of c.new-2.ensures.items) ports ins outs
