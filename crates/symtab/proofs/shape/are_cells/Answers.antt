use Rattle.std.proofs.Common.{rules, All, IsTrue}
use Rattle.symtab.specs.Shape.{IsCell}
use Rattle.symtab.proofs.Listing.{all_more, all_seen}
use Rattle.symtab.proofs.shape.are_cells.Goals as goal

pub loop-place-preserved : goal.loop-place-preserved
loop-place-preserved c =
    all_more (IsCell c.args.nodes.now) c.args.cells.now c.loop-place.place c.at.result (search rules) c.at.ensures.is c.loop-place.invariant (search rules)

pub returns : goal.returns
returns c = ((λ yes. all_seen (IsCell c.args.nodes.now) c.args.cells.now c.loop-place.place (search rules) c.loop-place.invariant), (λ h. search rules))
