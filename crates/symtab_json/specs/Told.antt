-- The table that the bytes of a symbol file tell, or the first reason why they tell none.
use Rattle.std.specs.Prelude.{◌≡◌, ℕ, ◌^◌, ◌==◌, List, length, Bool, true, false, is_some, nat_lt, codes, Option, Some, None, Result, Ok, Err, if◌then◌else◌}
use Rattle.std.specs.Str.{is_utf8}
use Rattle.symtab.specs.declared.parts.NodeName.{NodeName}
use Rattle.symtab.specs.declared.parts.VariantParts.{VariantParts}
use Rattle.symtab.specs.declared.parts.TableParts.{TableParts}
use Rattle.serde_json.specs.Data.{Data}
use Rattle.serde_json.specs.Find.{as_object}
use Rattle.serde_json.specs.Read.{read}
use Rattle.symtab_json.specs.declared.entries.InstanceEntry.{InstanceEntry}
use Rattle.symtab_json.specs.declared.entries.SlotEntry.{SlotEntry}
use Rattle.symtab_json.specs.declared.entries.Entries.{Entries}
use Rattle.symtab_json.specs.declared.entries.Outside.{Outside}
use Rattle.symtab_json.specs.declared.fault.Part.{Part}
use Rattle.symtab_json.specs.declared.fault.Part.TheVariants as part
use Rattle.symtab_json.specs.declared.fault.TableFault.{TableFault}
use Rattle.symtab_json.specs.declared.fault.TableFault.TheVariants as fault
use Rattle.symtab_json.specs.Entries.{told_count, told_member}
use Rattle.symtab_json.specs.Judged.{told_instances, told_nodes, told_slots, told_top, told_variants, entries_outside, told_parts}

-- ---- the parts, in the order of their names: the first that breaks a rule of shape is the fault

abbrev pub misshapen : {A : Type 0} → Part → Result A TableFault
misshapen path = Err (fault.BadShape path)

abbrev pub by_variants : List InstanceEntry → List NodeName → List SlotEntry → List ℕ → Option (List VariantParts) → Result Entries TableFault
by_variants instances nodes slots top None = misshapen part.Variants
by_variants instances nodes slots top (Some variants) =
    Ok (record { top = top; nodes = nodes; variants = variants; instances = instances; slots = slots })

abbrev pub by_top : Data → List InstanceEntry → List NodeName → List SlotEntry → Option (List ℕ) → Result Entries TableFault
by_top d instances nodes slots None = misshapen part.Top
by_top d instances nodes slots (Some top) = by_variants instances nodes slots top (told_variants d)

abbrev pub by_slots : Data → List InstanceEntry → List NodeName → Option (List SlotEntry) → Result Entries TableFault
by_slots d instances nodes None = misshapen part.Slots
by_slots d instances nodes (Some slots) = by_top d instances nodes slots (told_top d instances)

abbrev pub by_nodes : Bool → Data → List InstanceEntry → Option (List NodeName) → Result Entries TableFault
by_nodes filed d instances None = misshapen part.Nodes
by_nodes filed d instances (Some nodes) = by_slots d instances nodes (told_slots filed d instances nodes)

abbrev pub by_instances : Bool → Data → Option (List InstanceEntry) → Result Entries TableFault
by_instances filed d None = misshapen part.Instances
by_instances filed d (Some instances) = by_nodes filed d instances (told_nodes d)

-- ---- the version goes before the parts, and the JSON before the version. Slots have files from version 2 on

abbrev pub by_version : Data → Option ℕ → Result Entries TableFault
by_version d None = misshapen part.Version
by_version d (Some version) =
    if version == 1 then by_instances false d (told_instances d)
    else (if version == 2 then by_instances true d (told_instances d) else Err (fault.Version version))

-- an object
abbrev pub told_tree : Data → Result Entries TableFault
told_tree d = if is_some (as_object d) then by_version d (told_member told_count (codes "version") d) else misshapen part.Whole

abbrev pub by_json : Option Data → Result Entries TableFault
by_json None = Err fault.NotJson
by_json (Some d) = told_tree d

-- the JSON value of bytes, where they are UTF-8
abbrev pub json_of : List ℕ → Option Data
json_of text = if is_utf8 text then read text else None

-- at most 64 MiB
abbrev pub told_entries : List ℕ → Result Entries TableFault
told_entries text = if nat_lt (2 ^ 26) (length text) then Err fault.TooLong else by_json (json_of text)

-- ---- and the numbers go last

abbrev pub by_numbers : Entries → Option Outside → Result TableParts TableFault
by_numbers e None = Ok (told_parts e)
by_numbers e (Some outside) = Err (fault.BadReference outside.id outside.size)

abbrev pub by_entries : Result Entries TableFault → Result TableParts TableFault
by_entries (Ok e) = by_numbers e (entries_outside e)
by_entries (Err f) = Err f

-- the parts of the table that a text tells, or its fault
abbrev pub told_table : List ℕ → Result TableParts TableFault
told_table text = by_entries (told_entries text)

-- the fault that is told, unless it is want of memory
abbrev pub IsFaultOf : {A : Type 0} → Result A TableFault → TableFault → Type 0
IsFaultOf told found = (found ≡ fault.NoMemory → ⊥) → told ≡ Err found
