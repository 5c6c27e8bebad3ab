-- What the definitions of reading come to, in the words of tables and of printed values.
use Rattle.std.specs.Prelude.{◌≡◌, ◌↔◌, ℕ, List, Some, Ok}
use Rattle.bv_core.specs.Value.{Bits, IsBits}
use Rattle.bv_core.specs.Text.{shown}
use Rattle.symtab.specs.Shape.{IsTable}
use Rattle.symtab.specs.declared.parts.TableParts.{TableParts}
use Rattle.symtab_json.specs.Literals.{told_literal}
use Rattle.symtab_json.specs.Told.{told_table}

-- a text is read as a value exactly where it is what the value is printed as
abbrev pub LiteralsAreShown : Type 0
LiteralsAreShown = (text : List ℕ) (bits : Bits) → IsBits bits → (told_literal text ≡ Some bits) ↔ (text ≡ shown bits)

-- the parts that a text tells keep every rule of a table
abbrev pub TablesAreTold : Type 0
TablesAreTold = (text : List ℕ) (parts : TableParts) → told_table text ≡ Ok parts → IsTable parts
