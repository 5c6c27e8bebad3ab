use Rattle.std.proofs.Common.{◌∙◌, refl, sym}
use Rattle.block_net.proofs.WalkSteps.{found_next, leaf_next, new_next}
use Rattle.block_net.proofs.walk.Walk.held_next.Goals as goal

pub returns-in-Some-clause-stands : goal.returns-in-Some-clause-stands
returns-in-Some-clause-stands c = found_next c.args.self.now _ _ (sym c.in-Some.is ∙ c.get.ensures) c.requires

pub returns-in_ok-put-in-None-clause-grown : goal.returns-in_ok-put-in-None-clause-grown
returns-in_ok-put-in-None-clause-grown c =
    leaf_next _ _ _ _ (sym c.get.ensures ∙ c.in-None.is) c.in_ok-put-in-None.ensures.ok refl c.in_ok-held-in-None.ensures.extends c.in_ok-held-in-None.ensures.stands c.requires refl

pub returns-in_ok-put-in-None-clause-stands : goal.returns-in_ok-put-in-None-clause-stands
returns-in_ok-put-in-None-clause-stands c = new_next _ c.args.self.now _ _ (sym c.in-None.is ∙ c.get.ensures) c.in_ok-held-in-None.ensures.stands
