-- Scopes by their numbers: 0 is outside every scope, and 1 is the first scope that the text opens.
use Rattle.std.specs.Prelude.{ℕ, ◌+◌, Bool, List, [], ◌∷◌, get_or, if◌then◌else◌}
use Rattle.vcd_read.specs.declared.variable.VcdVar.{VcdVar}
use Rattle.vcd_read.specs.Head.{Var}

-- the path of a number, where the scopes that are opened have these
abbrev pub path_at : List (List ℕ) → ℕ → List ℕ
path_at paths number = get_or ([] ∷ paths) number []

-- a variable, where the scopes that are opened have these paths
abbrev pub var_of : List (List ℕ) → VcdVar → Var
var_of paths var = record {
  scope = path_at paths var.scope;
  name = var.name.now;
  code = var.code;
  size = var.size;
  counted = var.counted;
}

-- the places of the elements that pass a test, the first of which has this place
abbrev pub places_from : {X : Type 0} → ℕ → (X → Bool) → List X → List ℕ
places_from place test [] = []
places_from place test (x ∷ xs) = if test x then place ∷ places_from (place + 1) test xs else places_from (place + 1) test xs
