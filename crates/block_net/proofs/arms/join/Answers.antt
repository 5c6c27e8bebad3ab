use Rattle.std.proofs.Common.{◌∙◌, ap, sym, subst}
use Rattle.names.specs.Maps.{value_of}
use Rattle.name_widths.specs.DeclaredWidths.{width_at}
use Rattle.block_net.specs.Walks.{Chooses, among, keys_of}
use Rattle.block_net.proofs.TermLists.{extends_twice}
use Rattle.block_net.proofs.WalkSteps.{grown_shows}
use Rattle.block_net.proofs.ArmSteps.{arm_joined}
use Rattle.block_net.proofs.arms.join.Goals as goal

pub set_all-requires-clause-shows : goal.set_all-requires-clause-shows
set_all-requires-clause-shows c = grown_shows (width_at (value_of c.args.widths.now)) _ _ c.in_ok-chosen.ensures.grown c.requires.shows

pub returns-clause-terms : goal.returns-clause-terms
returns-clause-terms c = extends_twice _ _ _ c.in_ok-chosen.ensures.grown.terms c.in_ok-set_all.ensures.terms

pub returns-clause-joins : goal.returns-clause-joins
returns-clause-joins c =
    arm_joined (width_at (value_of c.args.widths.now)) c.args.walk.now c.choose.new.walk c.set_all.new.walk c.args.end.now c.deref-2.result.now c.requires.shows c.in_ok-chosen.ensures.grown
    (ap (λ l. among (keys_of l)) c.deref-2.ensures.value ∙ c.in_ok-chosen.ensures.keys ∙ ap (λ l. among (keys_of l)) c.deref.ensures.value)
    (subst (λ l. Chooses c.args.end.now.test l c.deref-2.result.now c.args.walk.now c.choose.new.walk) c.deref.ensures.value
    (subst (λ l. Chooses c.args.end.now.test c.deref.result.now l c.args.walk.now c.choose.new.walk) (sym c.deref-2.ensures.value) c.in_ok-chosen.ensures.chooses)) c.in_ok-set_all.ensures.sets
