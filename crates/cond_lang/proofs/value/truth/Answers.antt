use Rattle.std.proofs.Common.{ap, ◌∙◌}
use Rattle.cond_lang.specs.Shown.{truth_of}
use Rattle.cond_lang.proofs.value.truth.Goals as goal

pub returns : goal.returns
returns g c = λ samples h. c.truth_of.ensures ∙ ap truth_of (c.value_of.ensures.value samples h)
