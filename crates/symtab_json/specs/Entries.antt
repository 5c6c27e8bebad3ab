-- What each JSON value of a symbol file tells. None is for one that is missing, of another kind or of another form.
use Rattle.std.specs.Prelude.{ℕ, ◌^◌, ◌&&◌, ◌==◌, ℤ, pos, neg_ℤ, int_le, List, [], ◌∷◌, length, slice_get, Bool, nat_le, nat_lt, is_some, codes, bytes_eq, Option, Some, None, option_map, option_and_then, if◌then◌else◌}
use Rattle.std.specs.Option.{option_map_or, option_or}
use Rattle.places.specs.Places.{place}
use Rattle.bv_core.specs.declared.Ref.{Ref}
use Rattle.bv_core.specs.declared.Ref.TheVariants.{Node, Const}
use Rattle.bv_core.specs.declared.Binding.{Binding}
use Rattle.bv_core.specs.declared.Binding.TheVariants.{Value, Unset, Removed}
use Rattle.symtab.specs.Shape.{width_of}
use Rattle.symtab.specs.declared.parts.NodeName.{NodeName}
use Rattle.symtab.specs.declared.parts.GenVariable.{GenVariable}
use Rattle.symtab.specs.declared.parts.VariantParts.{VariantParts}
use Rattle.symtab.specs.declared.parts.Row.{Row}
use Rattle.serde_json.specs.Data.{Data, Items, no_items, item}
use Rattle.serde_json.specs.Find.{get, at, as_number, as_u64, as_i64, as_str, as_array}
use Rattle.symtab_json.specs.declared.entries.InstanceEntry.{InstanceEntry}
use Rattle.symtab_json.specs.declared.entries.SlotEntry.{SlotEntry}
use Rattle.symtab_json.specs.Literals.{told_literal}

-- what was found, if it passes a test
abbrev pub kept_if : {A : Type 0} → (A → Bool) → Option A → Option A
kept_if test None = None
kept_if test (Some x) = if test x then Some x else None

-- two that were found
abbrev pub two_found : {A B : Type 0} → Option A → Option B → Option (A × B)
two_found None found = None
two_found (Some x) found = option_map (λ y. (x, y)) found

-- ---- numbers and lists

-- a whole number from 0 to 2^64-1
abbrev pub told_count : Data → Option ℕ
told_count d = option_and_then as_u64 (as_number d)

-- a width: from 1 to 128
abbrev pub is_node_width : ℕ → Bool
is_node_width n = nat_le 1 n && nat_le n 128

abbrev pub told_width : Data → Option ℕ
told_width d = kept_if is_node_width (told_count d)

-- a file and a line of it: below 64, and below 2^24
abbrev pub is_place : ℕ → ℕ → Bool
is_place file line = nat_lt file 64 && nat_lt line (2 ^ 24)

-- the number of a generator variable: from -2^62 to 2^62
abbrev pub is_gen_number : ℤ → Bool
is_gen_number n = int_le (neg_ℤ (pos (2 ^ 62))) n && int_le n (pos (2 ^ 62))

abbrev pub told_gen_number : Data → Option ℤ
told_gen_number d = kept_if is_gen_number (option_and_then as_i64 (as_number d))

-- one more in front
abbrev pub told_first : {A : Type 0} → Option A → Option (List A) → Option (List A)
told_first None rest = None
told_first (Some x) rest = option_map (λ xs. x ∷ xs) rest

abbrev pub told_items : {A : Type 0} → (Data → Option A) → Items → Option (List A)
told_items told no_items = Some []
told_items told (item d ds) = told_first (told d) (told_items told ds)

-- a list of any length
abbrev pub told_list : {A : Type 0} → (Data → Option A) → Data → Option (List A)
told_list told d = option_and_then (told_items told) (as_array d)

-- fewer than 2^32 entries
abbrev pub is_short : {A : Type 0} → List A → Bool
is_short xs = nat_lt (length xs) (2 ^ 32)

abbrev pub told_short : {A : Type 0} → (Data → Option A) → Data → Option (List A)
told_short told d = kept_if is_short (told_list told d)

-- a list of exactly two
abbrev pub told_two : Data → Option (Data × Data)
told_two d = if is_some (at 2 d) then None else two_found (at 0 d) (at 1 d)

-- the member of an object that has this key; of two of one key the last
abbrev pub told_member : {A : Type 0} → (Data → Option A) → List ℕ → Data → Option A
told_member told key d = option_and_then told (get key d)

-- ---- the entries of the lists

abbrev pub made_node : Option (List ℕ) → Option ℕ → Option NodeName
made_node None width = None
made_node (Some name) None = None
made_node (Some name) (Some width) = Some (record { name = name; width = width })

abbrev pub told_node : Data → Option NodeName
told_node d = option_and_then (λ two. made_node (as_str two.0) (told_width two.1)) (told_two d)

abbrev pub made_gen : Option (List ℕ) → Option ℤ → Option GenVariable
made_gen None number = None
made_gen (Some name) None = None
made_gen (Some name) (Some number) = Some (record { name = name; value = number })

abbrev pub told_gen : Data → Option GenVariable
told_gen d = option_and_then (λ two. made_gen (as_str two.0) (told_gen_number two.1)) (told_two d)

abbrev pub made_variant : Option (List ℕ) → Option (List GenVariable) → Option VariantParts
made_variant None gens = None
made_variant (Some name) None = None
made_variant (Some name) (Some gens) = Some (record { «module» = name; gens = gens })

abbrev pub told_variant : Data → Option VariantParts
told_variant d = option_and_then (λ two. made_variant (as_str two.0) (told_short told_gen two.1)) (told_two d)

abbrev pub made_instance : Option (List ℕ) → Option ℕ → Option InstanceEntry
made_instance None variant = None
made_instance (Some path) None = None
made_instance (Some path) (Some variant) = Some (record { path = path; variant = variant })

abbrev pub told_instance : Data → Option InstanceEntry
told_instance d = option_and_then (λ two. made_instance (as_str two.0) (told_count two.1)) (told_two d)

-- ---- slots, over the nodes

-- the width of a node. One that is not there is taken to have width 1, so that no rule on widths is broken by it: its
-- number is judged for itself
abbrev pub told_width_at : List NodeName → ℕ → ℕ
told_width_at nodes id = option_map_or (λ node. node.width) (slice_get nodes id) 1

-- a node by its number, or a literal
abbrev pub told_ref : List NodeName → Data → Option Ref
told_ref nodes d =
    option_or (option_map (λ id. Node (record { 0 = id }) (told_width_at nodes id)) (told_count d))
    (option_map Const (option_and_then told_literal (as_str d)))

-- a word in place of a value
abbrev pub told_mark : List ℕ → Option Binding
told_mark text = if bytes_eq text (codes "unset") then Some Unset else if bytes_eq text (codes "removed") then Some Removed else None

abbrev pub told_cell : List NodeName → Data → Option Binding
told_cell nodes d = option_or (option_and_then told_mark (as_str d)) (option_map Value (told_ref nodes d))

-- a value of width 1
abbrev pub is_one_wide : Ref → Bool
is_one_wide at = width_of at == 1

abbrev pub told_on : List NodeName → Data → Option Ref
told_on nodes d = kept_if is_one_wide (told_ref nodes d)

abbrev pub made_row : Option Ref → Option (List Binding) → Option Row
made_row None cells = None
made_row (Some on) None = None
made_row (Some on) (Some cells) = Some (record { on = on; cells = cells })

abbrev pub told_row : List NodeName → Data → Option Row
told_row nodes d = made_row (told_member (told_on nodes) (codes "on") d) (told_member (told_short (told_cell nodes)) (codes "cells") d)

-- the file of a slot: what its member tells; where slots have no files, file 0
abbrev pub file_found : Bool → Option ℕ → Option ℕ
file_found filed file = if filed then file else Some 0

-- the place of a line in a file
abbrev pub made_place : Option ℕ → Option ℕ → Option ℕ
made_place None line = None
made_place (Some file) None = None
made_place (Some file) (Some line) = if is_place file line then Some (place file line) else None

abbrev pub made_slot : Option ℕ → Option ℕ → Option (List GenVariable) → Option (List (List ℕ)) → Option (List Row) → Option SlotEntry
made_slot None line gens names rows = None
made_slot (Some variant) None gens names rows = None
made_slot (Some variant) (Some line) None names rows = None
made_slot (Some variant) (Some line) (Some gens) None rows = None
made_slot (Some variant) (Some line) (Some gens) (Some names) None = None
made_slot (Some variant) (Some line) (Some gens) (Some names) (Some rows) =
    Some (record { variant = variant; line = line; gens = gens; names = names; rows = rows })

-- a slot, of a file whose slots have files or of one where they have none
abbrev pub told_slot : Bool → List NodeName → Data → Option SlotEntry
told_slot filed nodes d =
    made_slot (told_member told_count (codes "variant") d)
    (made_place (file_found filed (told_member told_count (codes "file") d)) (told_member told_count (codes "line") d)) (told_member (told_short told_gen) (codes "gens") d)
    (told_member (told_short as_str) (codes "names") d) (told_member (told_short (told_row nodes)) (codes "rows") d)
