-- What is found in the parts of a symbol table.
use Rattle.std.specs.Prelude.{ℕ, ◌==◌, List, [], Option, slice_get, option_and_then, option_map, position, bytes_eq, Contains, IsSomeAnd}
use Rattle.std.specs.Option.{option_map_or}
use Rattle.bv_core.specs.declared.Ref.{Ref}
use Rattle.bv_core.specs.declared.Binding.{Binding}
use Rattle.symtab.specs.declared.parts.Row.{Row}
use Rattle.symtab.specs.declared.parts.TableParts.{TableParts}
use Rattle.symtab.specs.Places.{places}
use Rattle.symtab.specs.Shape.{variants_of}

-- the instances of a slot's variant, in order
abbrev pub instances_of : TableParts → ℕ → List ℕ
instances_of parts k = option_map_or (λ slot. places slot.variant (variants_of parts.instances)) (slice_get parts.slots k) []

-- the place of a name among the names of a slot
abbrev pub name_place : TableParts → ℕ → List ℕ → Option ℕ
name_place parts k name = option_and_then (λ slot. position (bytes_eq name) slot.names) (slice_get parts.slots k)

-- a name of a slot
abbrev pub IsInScope : TableParts → ℕ → List ℕ → Type 0
IsInScope parts k name = IsSomeAnd (slice_get parts.slots k) (λ slot. Contains slot.names name)

-- the row of a slot for an instance: it stands where the instance stands among those of the slot's variant
abbrev pub row_of : TableParts → ℕ → ℕ → Option Row
row_of parts k instance =
    option_and_then (λ slot. option_and_then (slice_get slot.rows) (position (λ other. other == instance) (instances_of parts k))) (slice_get parts.slots k)

-- where the enable of a slot is found for an instance
abbrev pub enable_of : TableParts → ℕ → ℕ → Option Ref
enable_of parts k instance = option_map (λ row. row.on) (row_of parts k instance)

-- what a name stands for at a slot, for an instance
abbrev pub binding_of : TableParts → ℕ → ℕ → List ℕ → Option Binding
binding_of parts k instance name =
    option_and_then (λ row. option_and_then (slice_get row.cells) (name_place parts k name)) (row_of parts k instance)
