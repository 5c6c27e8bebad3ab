-- A symbol file as it is printed.
use Rattle.std.specs.Prelude.{ℕ, List, ◌++◌, codes}
use Rattle.symtab.specs.declared.parts.TableParts.{TableParts}
use Rattle.symtab_json.specs.Files.{symbols_text}

-- the file, and a line feed
abbrev pub symbols_line : TableParts → List ℕ
symbols_line parts = symbols_text parts ++ codes "\n"
