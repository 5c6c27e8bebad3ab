use Rattle.std.proofs.Common.{arith}
use Rattle.std.proofs.lemmas.Grind.{common_steps}
use Rattle.symtab.proofs.Grouped.{places_more}
use Rattle.symtab.proofs.places.groups_of.Goals as goal

pub loop-place-preserved : goal.loop-place-preserved
loop-place-preserved c = λ number. grind (arith, common_steps, places_more number, c.loop-place.invariant number)
