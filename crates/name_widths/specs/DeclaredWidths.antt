-- Declared widths, as the code keeps them.
use Rattle.std.specs.Prelude.{ℕ, ℤ, bytes_eq, List, [], ◌∷◌, Option, Some, None, option_map, unwrap_or, if◌then◌else◌}
use Rattle.design_core.specs.declared.variant.Signal.{Signal}
use Rattle.design_core.specs.Widths.{bits}
use Rattle.names.specs.Known.{Name}
use Rattle.check_core.specs.Faults.{earlier}

abbrev pub Declared : Type 0
Declared = Name → Option ℤ

-- the width of a name that none before has
abbrev pub declared_also : Declared → Signal → Declared
declared_also widths s = λ y. earlier (widths y) (if bytes_eq s.name y then Some s.width else None)

abbrev pub all_declared : Declared → List Signal → Declared
all_declared widths [] = widths
all_declared widths (s ∷ rest) = all_declared (declared_also widths s) rest

abbrev pub width_at : Declared → Name → ℕ
width_at widths = λ x. unwrap_or (option_map bits (widths x)) 1
