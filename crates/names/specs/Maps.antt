-- Values of names, as a map keeps them.
use Rattle.std.specs.Prelude.{bytes_eq, List, [], ◌∷◌, Option, Some, None, if◌then◌else◌}
use Rattle.names.specs.Known.{Name}

-- the value of a name
abbrev pub value_of : {V : Type 0} → List (Name × V) → Name → Option V
value_of [] x = None
value_of (e ∷ entries) x = if bytes_eq x e.0 then Some e.1 else value_of entries x

abbrev pub put_value : {V : Type 0} → Name → V → (Name → Option V) → Name → Option V
put_value y v known x = if bytes_eq x y then Some v else known x

abbrev pub no_value : {V : Type 0} → Name → Option V
no_value x = None
