use Rattle.std.proofs.Common.{◌∙◌, Some, ap, rules, SFits, w64}
use Rattle.std.proofs.lemmas.Int.{to_z-of_z}
use Rattle.bv_core.specs.declared.operators.Op1.TheVariants as op1
use Rattle.tree_core.specs.Tree.{One}
use Rattle.design_core.specs.Widths.{bits}
use Rattle.block_net.specs.Terms.{tree_at, trees_of}
use Rattle.block_net.proofs.TermLists.{stands_as}
use Rattle.block_net.proofs.walk.Walk.between.Goals as goal

pub returns-clause-stands : goal.returns-clause-stands
returns-clause-stands c =
    let fits_high : SFits w64 c.place.result = search rules in
    let fits_low : SFits w64 c.place-2.result = search rules in
    let high = ap bits (to_z-of_z w64 c.place.result fits_high) ∙ c.place.ensures in
    let low = ap bits (to_z-of_z w64 c.place-2.result fits_low) ∙ c.place-2.ensures in
    stands_as _ _ _ _ (λ j. Some (One (op1.Slice (high j) (low j)) (tree_at (trees_of c.args.self.now.terms) c.args.old.0))) c.in_ok-part.ensures.stands
