-- Entries that are the parts of a table.
use Rattle.std.specs.Prelude.{◌<◌, ◌^◌}
use Rattle.std.specs.List.{AllByRecursion}
use Rattle.symtab.specs.Shape.{IsTable}
use Rattle.symtab_json.specs.declared.entries.Entries.{Entries}
use Rattle.symtab_json.specs.Judged.{told_parts}

-- the parts keep every rule, and the variants are below 2^32
pub record AreTableParts (e : Entries) : Type 0 where
  pub table : IsTable (told_parts e)
  pub instances : AllByRecursion (λ instance. instance.variant < 2 ^ 32) e.instances
  pub slots : AllByRecursion (λ slot. slot.variant < 2 ^ 32) e.slots
