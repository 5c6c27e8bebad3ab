-- The table of a compiled design keeps every rule of a symbol table.
use Rattle.std.specs.Prelude.{ℕ, ◌<◌, ◌^◌, List, length}
use Rattle.design_core.specs.Design.{Design}
use Rattle.net_core.specs.Nets.{NetParts}
use Rattle.symtab.specs.declared.parts.TableParts.{TableParts}
use Rattle.symtab.specs.Shape.{IsTable}
use Rattle.check_exec.specs.Premises.{IsSound}
use Rattle.place_core.specs.Orders.{TellsOrder}
use Rattle.world_core.specs.declared.mode.Mode.{Mode}
use Rattle.trim_core.specs.Trimmed.{IsKeptNet, TellsDesign}

-- the nodes are numbered with 64 bits
abbrev pub TrimmedAreTables : Type 0
TrimmedAreTables =
    (d : Design) (pairs : List (ℕ × ℕ)) (mode : Mode) (net : NetParts) (parts : TableParts) → IsSound d → TellsOrder d pairs → length net.nodes < 2 ^ 64 →
    IsKeptNet d (length pairs) mode net → TellsDesign d (length pairs) mode net.nodes parts → IsTable parts
