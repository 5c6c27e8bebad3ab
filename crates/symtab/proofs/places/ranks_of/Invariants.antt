use Rattle.std.proofs.Common.{◌≡◌, ◌<◌, ℕ, List, take, length, slice_index, unwrap_or, nat_eq}
use Rattle.std.specs.HashMap.{get}
use Rattle.symtab.specs.Places.{places}
use Rattle.symtab.specs.Tables.{rank, Counts}
use Rattle.symtab.proofs.places.ranks_of.Given as goal

-- each number was counted in the front, and the ranks of the front are there
pub record AreRanked (numbers : List ℕ) (front : ℕ) (counts : Counts) (ranks : List ℕ) : Type 0 where
  pub counted : (number : ℕ) → unwrap_or (get nat_eq counts number) 0 ≡ length (places number (take front numbers))
  pub count : length ranks ≡ front
  pub ranked : (place : ℕ) → place < front → slice_index ranks place ≡ rank numbers place

abbrev pub invariant-loop-number : goal.invariant-loop-number
invariant-loop-number l = AreRanked l.numbers l.number-index l.counts l.ranks.items
