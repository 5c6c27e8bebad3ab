use Rattle.std.proofs.Common.{◌∙◌}
use Rattle.cond_lang.specs.Bound.{value_at}
use Rattle.cond_lang.specs.Shown.{cond_tree}
use Rattle.cond_lang.proofs.Strict.{strict_is}
use Rattle.cond_lang.proofs.value.value_of.Goals as goal

pub sampled-found-requires : goal.sampled-found-requires
sampled-found-requires g c = rw (c.deref-2.ensures.value, c.deref-3.ensures.value, c.deref.ensures) (record { fits = c.args.cond.now.fits.fits; callable = c.requires.callable; widths = c.requires.widths })

pub returns-clause-value : goal.returns-clause-value
returns-clause-value g c = λ samples h.
    (rw (c.deref-2.ensures.value, c.deref-3.ensures.value, c.deref.ensures) at c.sampled-found.ensures.value).value samples h
    ∙ strict_is (value_at samples) (cond_tree c.args.cond.now)
