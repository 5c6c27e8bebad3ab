-- The table of a compiled design is the table of its design.
use Rattle.std.specs.Prelude.{◌≡◌, ℕ}
use Rattle.design_core.specs.Design.{Design}
use Rattle.net_core.specs.Nets.{NetParts}
use Rattle.symtab.specs.declared.parts.TableParts.{TableParts}
use Rattle.world_core.specs.declared.mode.Mode.{Mode}
use Rattle.trim_core.specs.KeptTable.{kept_table}
use Rattle.trim_core.specs.Trimmed.{IsTrimmed}

-- n is how many signals are driven
abbrev pub CompiledTablesAreKept : Type 0
CompiledTablesAreKept = (d : Design) (n : ℕ) (mode : Mode) (net : NetParts) (parts : TableParts) → IsTrimmed d n mode net parts → parts ≡ kept_table d n mode
