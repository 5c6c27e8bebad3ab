use Rattle.std.proofs.Common.{◌+◌, ap, arith}
use Rattle.std.proofs.lemmas.Bool.{ne_eqb}
use Rattle.block_net.proofs.WalkSteps.{grown_twice}
use Rattle.block_net.proofs.PartSteps.{high_stands}
use Rattle.block_net.proofs.walk.Walk.with_high.Goals as goal

pub returns-clause-grown : goal.returns-clause-grown
returns-clause-grown c = grown_twice _ _ _ c.in_ok-above.ensures.grown c.in_ok-whole.ensures.grown

pub returns-clause-stands : goal.returns-clause-stands
returns-clause-stands c =
    high_stands _ _ _ c.args.width c.args.high c.args.old c.args.value _ _ _ _ c.in_ok-above.ensures.grown.terms c.requires.old c.requires.within c.top_of.ensures (ap (λ n. n + 1) c.from-2.ensures) c.in_ok-above.ensures.stands c.in_ok-whole.ensures.stands (ne_eqb (c.args.high + 1) c.args.width (λ e. omega (arith, e, c.if-from-width.false, c.from.ensures)))
