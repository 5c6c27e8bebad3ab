-- Widths of names, as the code keeps them.
use Rattle.std.specs.Prelude.{ℤ, List, option_map}
use Rattle.names.specs.Known.{Name}
use Rattle.names.specs.Maps.{value_of}
use Rattle.check_core.specs.Widths.{Widths, over}
use Rattle.design_core.specs.Widths.{bits}

abbrev pub widths_at : List (Name × ℤ) → Widths
widths_at widths x = option_map bits (value_of widths x)

-- of lets, and of signals
abbrev pub widths_in : List (Name × ℤ) → List (Name × ℤ) → Widths
widths_in lets signals = over (widths_at lets) (widths_at signals)
