-- What a table and a trace show at a slot, by the samples of the cycle at which the trace stands.
use Rattle.std.specs.Prelude.{ℕ, ◌<◌, List, [], ◌∷◌, filter, map, Option, Some, None, slice_get}
use Rattle.bv_core.specs.declared.reference.Binding.{Binding}
use Rattle.bv_core.specs.declared.reference.Binding.TheVariants as binding
use Rattle.bv_core.specs.declared.reference.Ref.{Ref}
use Rattle.bv_core.specs.declared.reference.Ref.TheVariants.{Node, Const}
use Rattle.bv_core.specs.declared.reference.Sample.{Sample}
use Rattle.exec_core.specs.Block.{Name}
use Rattle.symtab.specs.declared.parts.Slot.{Slot}
use Rattle.symtab.specs.declared.parts.TableParts.{TableParts}
use Rattle.symtab.specs.Lookups.{instances_of, binding_of}
use Rattle.trace_world.specs.TraceWorld.{binding_shown}
use Rattle.machine_core.specs.declared.reply.Shown.{Shown}
use Rattle.machine_core.specs.Machine.{told}
use Rattle.site_core.specs.Sampled.{is_thread}

-- the instances that are threads of a slot, in preorder
abbrev pub slot_threads : TableParts → (ℕ → Sample) → ℕ → List ℕ
slot_threads parts samples k = filter (is_thread parts samples k) (instances_of parts k)

-- a literal, or one of so many nodes
abbrev pub IsAmong : ℕ → Ref → Type 0
IsAmong nodes (Node id width) = id.0 < nodes
IsAmong nodes (Const bits) = Unit {0}

abbrev pub IsCellAmong : ℕ → Binding → Type 0
IsCellAmong nodes (binding.Value at) = IsAmong nodes at
IsCellAmong nodes binding.Unset = Unit {0}
IsCellAmong nodes binding.Removed = Unit {0}

-- what is shown of a name that stands for this
abbrev pub cell_shown : (ℕ → Sample) → Binding → Shown
cell_shown samples cell = told (binding_shown samples (Some cell))

-- what is shown of names that stand for these
abbrev pub cells_shown : (ℕ → Sample) → List Name → List Binding → List (Name × Shown)
cells_shown samples [] cells = []
cells_shown samples (x ∷ names) [] = []
cells_shown samples (x ∷ names) (cell ∷ cells) = (x, cell_shown samples cell) ∷ cells_shown samples names cells

-- what is shown of the names of a slot in an instance
abbrev pub names_of : Option Slot → List Name
names_of None = []
names_of (Some slot) = slot.names

abbrev pub named_shown : TableParts → (ℕ → Sample) → (slot instance : ℕ) → Name → Name × Shown
named_shown parts samples k i x = (x, told (binding_shown samples (binding_of parts k i x)))

abbrev pub row_shown : TableParts → (ℕ → Sample) → (slot instance : ℕ) → List (Name × Shown)
row_shown parts samples k i = map (named_shown parts samples k i) (names_of (slice_get parts.slots k))
