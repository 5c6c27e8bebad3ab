use Rattle.std.proofs.Common.{◌∙◌, ◌-◌, ap, refl, arith}
use Rattle.std.proofs.lemmas.Bool.{ne_eqb}
use Rattle.block_net.proofs.WalkSteps.{grown_twice}
use Rattle.block_net.proofs.PartSteps.{low_stands}
use Rattle.block_net.proofs.walk.Walk.with_low.Goals as goal

pub returns-clause-grown : goal.returns-clause-grown
returns-clause-grown c = grown_twice _ _ _ c.in_ok-below.ensures.grown c.in_ok-whole.ensures.grown

pub returns-clause-stands : goal.returns-clause-stands
returns-clause-stands c =
    low_stands _ _ _ c.args.low c.args.old c.args.value _ _ _ _ c.in_ok-below.ensures.grown.terms c.requires.old c.requires.within (c.top_of.ensures ∙ ap (λ n. n - 1) c.from.ensures) refl c.in_ok-below.ensures.stands c.in_ok-whole.ensures.stands (ne_eqb c.args.low 0 (λ e. omega (arith, e, c.if-low-eq0.false)))
