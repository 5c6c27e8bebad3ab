use Rattle.place_core.specs.Below.{AreLists, lists_of, none_below}
use Rattle.place_core.proofs.below.no_numbers.Given as goal

abbrev pub invariant-loop : goal.invariant-loop
invariant-loop l = AreLists l.counter none_below (lists_of l.lists.items)
