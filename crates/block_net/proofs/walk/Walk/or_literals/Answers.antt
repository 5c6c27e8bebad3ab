use Rattle.std.proofs.Common.{refl, ◌∙◌}
use Rattle.block_net.proofs.TermLists.{within_more}
use Rattle.block_net.proofs.WalkSteps.{grown_none, grown_twice}
use Rattle.block_net.proofs.ArmSteps.{any_default, literals_end, literals_next}
use Rattle.block_net.proofs.walk.Walk.or_literals.Goals as goal

pub loop-literal-init : goal.loop-literal-init
loop-literal-init c = record { grown = grown_none _ c.requires.fits; within = c.requires.test; left = refl }

pub literal_is-requires-clause-within : goal.literal_is-requires-clause-within
literal_is-requires-clause-within c = within_more _ _ c.args.value c.loop-literal.invariant.grown.terms c.requires.within

pub binary-requires-clause-first : goal.binary-requires-clause-first
binary-requires-clause-first c = within_more _ _ c.loop-literal.found c.in_ok-is.ensures.grown.terms c.loop-literal.invariant.within

pub loop-literal-preserved : goal.loop-literal-preserved
loop-literal-preserved c = record {
  grown = grown_twice _ _ _ c.loop-literal.invariant.grown (grown_twice _ _ _ c.in_ok-is.ensures.grown c.in_ok-found.ensures.grown);
  within = c.in_ok-found.ensures.stands.within;
  left = literals_next _ _ _ _ c.args.literals.now c.loop-literal.literal-index _ c.args.value c.loop-literal.found _ _ c.requires.within c.loop-literal.invariant.grown c.loop-literal.invariant.within c.loop-literal-test.true (any_default c.args.literals.now c.loop-literal.literal-index _ _ c.loop-literal-test.true)
      c.in_ok-is.ensures.grown c.in_ok-is.ensures.stands c.in_ok-found.ensures.stands ∙ c.loop-literal.invariant.left;
}

pub returns-clause-stands : goal.returns-clause-stands
returns-clause-stands c = literals_end _ c.loop-literal.found _ _ c.args.literals.now c.loop-literal.literal-index c.loop-literal.invariant.within c.loop-literal-test.false c.loop-literal.invariant.left
