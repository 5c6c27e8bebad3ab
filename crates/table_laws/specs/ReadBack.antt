-- What is printed of a design's symbol table is read as the table.
use Rattle.std.specs.Prelude.{◌≡◌, ℕ, ◌≤◌, ◌^◌, List, length, Ok}
use Rattle.design_core.specs.Design.{Design}
use Rattle.net_core.specs.Nets.{NetParts}
use Rattle.symtab.specs.declared.parts.TableParts.{TableParts}
use Rattle.symtab_json.specs.Told.{told_table}
use Rattle.check_exec.specs.Premises.{IsSound}
use Rattle.place_core.specs.Orders.{TellsOrder}
use Rattle.world_core.specs.declared.mode.Mode.{Mode}
use Rattle.trim_core.specs.Trimmed.{IsTrimmed}
use Rattle.symbol_net.specs.Line.{symbols_line}
use Rattle.name_laws.specs.Texts.{HasTexts}

-- the file of a compiled design whose names are texts, with a line feed behind it, if it has at most 64 MiB with that
abbrev pub TableLinesReadBack : Type 0
TableLinesReadBack =
    (d : Design) (pairs : List (ℕ × ℕ)) (mode : Mode) (net : NetParts) (parts : TableParts) → IsSound d → TellsOrder d pairs → HasTexts d → IsTrimmed d (length pairs) mode net parts
    → length (symbols_line parts) ≤ 2 ^ 26 → told_table (symbols_line parts) ≡ Ok parts
