-- What a table holds beside its parts.
use Rattle.std.specs.Prelude.{◌≡◌, ℕ, List, map}
use Rattle.symtab.specs.declared.parts.TableParts.{TableParts}
use Rattle.symtab.specs.Shape.{IsTable, variants_of, lines_of, paths_of}

-- the parts are a table's, and the tables made of them are theirs
pub record IsIndexed (parts : TableParts) (lines variants : List ℕ) (paths : List (List ℕ)) (names : List (List (List ℕ))) : Type 0 where
  pub table : IsTable parts
  pub of_lines : lines ≡ lines_of parts.slots
  pub of_variants : variants ≡ variants_of parts.instances
  pub of_paths : paths ≡ paths_of parts.instances
  pub of_names : names ≡ map (λ slot. slot.names) parts.slots
