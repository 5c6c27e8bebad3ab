-- A list that grows at its end, where it is told: the bytes that a sink took, the names that were asked for.
use Rattle.std.specs.Prelude.{◌≡◌, List, ◌++◌, Option}
use Rattle.std.specs.Option.{option_map}

-- the new list is the old one and then this piece, where the lists are told; one is told where the other is
abbrev pub Appends : {A : Type 0} → Option (List A) → Option (List A) → List A → Type 0
Appends old new piece = new ≡ option_map (λ taken. taken ++ piece) old

-- the new list is the old one and then a front of this piece
pub record AppendsFront {A : Type 0} (old new : Option (List A)) (piece : List A) : Type 0 where
  pub front : List A
  pub rest : List A
  pub split : piece ≡ front ++ rest
  pub grown : Appends old new front

-- the new list begins with the old one
pub record Grows {A : Type 0} (old new : Option (List A)) : Type 0 where
  pub more : List A
  pub grown : Appends old new more

-- what the new list has beyond the old one, and then this rest, are all of it
pub record IsLeft {A : Type 0} (old new : Option (List A)) (rest all : List A) : Type 0 where
  pub done : List A
  pub whole : all ≡ done ++ rest
  pub grown : Appends old new done
