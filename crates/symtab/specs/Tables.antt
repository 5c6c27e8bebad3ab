-- The tables that are made of a list of numbers.
use Rattle.std.specs.Prelude.{◌≡◌, ℕ, ◌<◌, nat_eq, List, [], length, take, slice_index, Vec}
use Rattle.std.specs.Option.{option_map_or}
use Rattle.std.specs.HashMap.{get, HashMap}
use Rattle.std.specs.declared.hash.FoldHasher.{FoldHasher}
use Rattle.std.specs.declared.hash.BuildHasherDefault.{BuildHasherDefault}
use Rattle.std.specs.declared.alloc.Global.{Global}
use Rattle.symtab.specs.Places.{places}

-- how many times the number at a place stands before it
abbrev pub rank : List ℕ → ℕ → ℕ
rank xs place = length (places (slice_index xs place) (take place xs))

-- lists by number
abbrev pub Groups : Type 0
Groups = HashMap ℕ (Vec ℕ Global) (BuildHasherDefault FoldHasher)

-- the list of a number, empty where there is none
abbrev pub group_of : Groups → ℕ → List ℕ
group_of groups number = option_map_or (λ group. group.items) (get nat_eq groups number) []

-- counts by number
abbrev pub Counts : Type 0
Counts = HashMap ℕ ℕ (BuildHasherDefault FoldHasher)

-- the tables of a list of numbers: where each number stands, and the rank of each place
pub record AreTables (xs : List ℕ) (groups : Groups) (ranks : List ℕ) : Type 0 where
  pub places : (number : ℕ) → group_of groups number ≡ places number xs
  pub count : length ranks ≡ length xs
  pub ranked : (place : ℕ) → place < length xs → slice_index ranks place ≡ rank xs place
