-- The text of a table's rows by the samples of a trace.
use Rattle.std.specs.Prelude.{◌≡◌, ℕ, List, [], ◌∷◌, ◌++◌, length, Some, slice_index_or, codes, if◌then◌else◌}
use Rattle.std.specs.List.{flat_map}
use Rattle.std.specs.Fmt.{decimal, signed_decimal}
use Rattle.bv_core.specs.declared.reference.Binding.{Binding}
use Rattle.bv_core.specs.declared.reference.Sample.{Sample}
use Rattle.bv_core.specs.declared.reference.Sample.TheVariants as sampled
use Rattle.exec_core.specs.Block.{Name}
use Rattle.list_core.specs.Lists.{from}
use Rattle.symtab.specs.declared.parts.GenVariable.{GenVariable}
use Rattle.symtab.specs.declared.parts.InstanceParts.{InstanceParts}
use Rattle.symtab.specs.declared.parts.Row.{Row}
use Rattle.symtab.specs.declared.parts.Slot.{Slot}
use Rattle.symtab.specs.declared.parts.TableParts.{TableParts}
use Rattle.symtab.specs.Shape.{IsTable}
use Rattle.symtab.specs.Lookups.{instances_of}
use Rattle.trace_core.specs.Samples.{Samples}
use Rattle.world_core.specs.World.{Shown, Value, Unknown, place_text, shown_by, shown_text, trail_text}
use Rattle.trace_world.specs.TraceWorld.{is_on, status_by, value_by, trace_world}

-- what is shown of a sample
abbrev pub sample_shown : Sample → Shown
sample_shown (sampled.Known bits) = Value bits
sample_shown sampled.Unknown = Unknown

-- what is shown of a name that stands for this
abbrev pub cell_shown : (ℕ → Sample) → Binding → Shown
cell_shown samples cell = shown_by (status_by (Some cell)) (value_by samples (Some cell))

-- a blank, and name=number or name=shown
abbrev pub variable_text : GenVariable → List ℕ
variable_text g = codes " " ++ g.name ++ codes "=" ++ signed_decimal g.value

abbrev pub cell_text : (ℕ → Sample) → Name → Binding → List ℕ
cell_text samples x cell = codes " " ++ x ++ codes "=" ++ shown_text (cell_shown samples cell)

abbrev pub cells_text : (ℕ → Sample) → List Name → List Binding → List ℕ
cells_text samples [] cells = []
cells_text samples (x ∷ names) [] = []
cells_text samples (x ∷ names) (cell ∷ cells) = cell_text samples x cell ++ cells_text samples names cells

-- the cycle, the place, the path, the generator variables, and the names in scope, joined by one blank
abbrev pub line_text : ℕ → Slot → Name → (ℕ → Sample) → List Binding → List ℕ
line_text cycle slot path samples cells =
    decimal cycle ++ codes " " ++ place_text slot.line ++ codes " " ++ path ++ flat_map variable_text slot.gens ++ cells_text samples slot.names cells ++ codes "\n"

-- a slot and an instance of no table
abbrev pub no_slot : Slot
no_slot = record { variant = 0; line = 0; gens = []; names = []; rows = [] }

abbrev pub no_instance : InstanceParts
no_instance = record { path = []; variant = 0 }

abbrev pub slot_at : TableParts → ℕ → Slot
slot_at parts k = slice_index_or parts.slots k no_slot

abbrev pub path_at : TableParts → ℕ → Name
path_at parts i = (slice_index_or parts.instances i no_instance).path

-- a row of an instance: a line where its enable is 1
abbrev pub row_text : ℕ → (ℕ → Sample) → TableParts → Slot → ℕ → Row → List ℕ
row_text cycle samples parts slot i row = if is_on samples (Some row.on) then line_text cycle slot (path_at parts i) samples row.cells else []

-- those of a slot, instance by instance; of a cycle, slot by slot; and the whole, cycle after cycle
abbrev pub rows_text : ℕ → (ℕ → Sample) → TableParts → Slot → List ℕ → List Row → List ℕ
rows_text cycle samples parts slot [] rows = []
rows_text cycle samples parts slot (i ∷ instances) [] = []
rows_text cycle samples parts slot (i ∷ instances) (row ∷ rows) = row_text cycle samples parts slot i row ++ rows_text cycle samples parts slot instances rows

abbrev pub slot_text : ℕ → (ℕ → Sample) → TableParts → ℕ → List ℕ
slot_text cycle samples parts k = rows_text cycle samples parts (slot_at parts k) (instances_of parts k) (slot_at parts k).rows

abbrev pub cycle_text : Samples → TableParts → ℕ → List ℕ
cycle_text s parts cycle = flat_map (slot_text cycle (s.sample cycle) parts) (from 0 (length parts.slots))

abbrev pub table_text : Samples → TableParts → List ℕ
table_text s parts = flat_map (cycle_text s parts) (from 0 s.cycles)

-- it is the trail of the world that the table and the trace tell
abbrev pub TextsAreTrails : Type 0
TextsAreTrails = (parts : TableParts) → IsTable parts → (s : Samples) → table_text s parts ≡ trail_text (trace_world parts s)
