-- Which names are known.
use Rattle.std.specs.Prelude.{◌≡◌, ℕ, Bool, false, ◌||◌, ◌&&◌, List, ◌++◌, bytes_eq}
use Rattle.std.specs.List.{list_any}

-- a name, as its bytes
abbrev pub Name : Type 0
Name = List ℕ

-- whether each name is known
abbrev pub Known : Type 0
Known = Name → Bool

abbrev pub none : Known
none x = false

-- those of a list
abbrev pub has : List Name → Known
has names x = list_any (bytes_eq x) names

-- one more
abbrev pub with : Name → Known → Known
with y known = λ x. bytes_eq x y || known x

-- these as well
abbrev pub either : Known → Known → Known
either new known = λ x. new x || known x

-- those that both know
abbrev pub both : Known → Known → Known
both first second = λ x. first x && second x

-- a list of names that begins with another
pub record Begins (old new : List Name) : Type 0 where
  pub more : List Name
  pub is : new ≡ old ++ more
