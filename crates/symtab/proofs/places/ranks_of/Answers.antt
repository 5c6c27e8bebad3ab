use Rattle.std.proofs.Common.{◌≡◌, take, length, slice_index, arith}
use Rattle.std.proofs.lemmas.Grind.{common_steps}
use Rattle.symtab.specs.Places.{places}
use Rattle.symtab.specs.Tables.{rank}
use Rattle.symtab.proofs.Grouped.{places_more, length-places}
use Rattle.symtab.proofs.places.ranks_of.Goals as goal

pub overflow_add-rank : goal.overflow_add-rank
overflow_add-rank c =
    let numbers = c.args.numbers.now in
    let here = c.loop-number.number-index in
    let key = slice_index numbers here in
    let counted : c.unwrap_or-rank.result ≡ length (places key (take here numbers)) = grind (arith, common_steps, c.loop-number.invariant.counted key) in
    omega (arith, length-places key here numbers)

pub loop-number-preserved : goal.loop-number-preserved
loop-number-preserved c =
    let numbers = c.args.numbers.now in
    let here = c.loop-number.number-index in
    let key = slice_index numbers here in
    let counted : c.unwrap_or-rank.result ≡ rank numbers here = grind (arith, common_steps, c.loop-number.invariant.counted key) in
    record {
      counted = λ number. grind (arith, common_steps, places_more number, c.loop-number.invariant.counted number);
      count = grind (arith, common_steps);
      ranked = λ place within. grind (arith, common_steps, c.loop-number.invariant.ranked place);
    }
