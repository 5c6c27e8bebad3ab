use Rattle.std.proofs.Common.{◌∙◌, sym}
use Rattle.std.proofs.lemmas.Bool.{eqb-false}
use Rattle.block_net.proofs.WalkSteps.{grown_twice}
use Rattle.block_net.proofs.ArmSteps.{first_of, test_is_first}
use Rattle.block_net.proofs.Expressions.{if_ok_as, on_ok_map}
use Rattle.block_net.proofs.walk.Walk.arm_test.Goals as goal

pub returns-clause-grown : goal.returns-clause-grown
returns-clause-grown c = on_ok_map c.or_literals.result (grown_twice _ _ _ c.in_ok-first.ensures.grown) c.or_literals.ensures.grown

pub returns-clause-stands : goal.returns-clause-stands
returns-clause-stands c =
    if_ok_as c.or_literals.result _ _ _
    (test_is_first _ _ c.args.value _ _ c.args.literals.now _ (first_of c.args.literals.now _ (eqb-false _ _ (sym c.is_empty.ensures ∙ c.if-is_empty.false))) c.in_ok-first.ensures.grown.terms c.requires.within c.in_ok-first.ensures.stands)
    c.or_literals.ensures.stands
