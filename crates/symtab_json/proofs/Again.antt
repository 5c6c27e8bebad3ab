-- What is written of a table is read as the table.
use Rattle.std.proofs.Common.{◌≡◌, ℕ, suc, ◌<◌, ◌^◌, ◌==◌, ◌||◌, Bool, true, false, cond, List, [], ◌∷◌, length, map, nat_le, nat_lt, Option, Some, None, Ok, Err, refl, sym, ap, ◌∙◌, arith}
use Rattle.std.specs.Prelude.{slice_get}
use Rattle.std.specs.List.{AllByRecursion, list_all}
use Rattle.std.specs.Option.{option_or}
use Rattle.std.proofs.lemmas.Bool.{and_from, lt-ltb}
use Rattle.std.proofs.lemmas.Bool.Decides.{nat_tests}
use Rattle.std.proofs.lemmas.List.Elements.{recursion_from_All}
use Rattle.std.proofs.lemmas.Slice.Eq.{bytes_eq-Decides}
use Rattle.places.specs.Places.{place, file_of, line_in}
use Rattle.places.proofs.Places.{is_of}
use Rattle.bv_core.specs.declared.Ref.{Ref}
use Rattle.bv_core.specs.declared.Ref.TheVariants.{Node, Const}
use Rattle.bv_core.specs.declared.Binding.{Binding}
use Rattle.bv_core.specs.declared.Binding.TheVariants.{Value, Unset, Removed}
use Rattle.symtab.specs.Places.{places}
use Rattle.symtab.specs.Shape.{IsWidth, AreGens, IsFound, IsCell, IsRow, IsSlot, IsTable, variants_of, paths_of}
use Rattle.symtab.specs.declared.parts.NodeName.{NodeName}
use Rattle.symtab.specs.declared.parts.InstanceParts.{InstanceParts}
use Rattle.symtab.specs.declared.parts.Row.{Row}
use Rattle.symtab.specs.declared.parts.Slot.{Slot}
use Rattle.symtab.specs.declared.parts.TableParts.{TableParts}
use Rattle.serde_json.specs.Data.{Data, string}
use Rattle.serde_json.specs.Events.{items_len}
use Rattle.serde_json.specs.Find.{as_str}
use Rattle.serde_json.specs.View.{items_of}
use Rattle.symtab_json.specs.declared.entries.InstanceEntry.{InstanceEntry}
use Rattle.symtab_json.specs.declared.entries.SlotEntry.{SlotEntry}
use Rattle.symtab_json.specs.declared.entries.Entries.{Entries}
use Rattle.symtab_json.specs.declared.entries.Outside.{Outside}
use Rattle.symtab_json.specs.declared.fault.TableFault.TheVariants as fault
use Rattle.symtab_json.specs.Files.{node_json, variant_json, instance_json, row_json, slot_json, table_json, symbols_text}
use Rattle.symtab_json.specs.Entries.{kept_if, is_place, made_place, made_slot, told_instance, told_node, told_row, told_slot, told_variant}
use Rattle.symtab_json.specs.Places.{are_apart, instance_count}
use Rattle.symtab_json.specs.Judged.{paths_differ, names_of_nodes_differ, variants_len, has_cells, is_full, are_full, is_first, told_instances, told_nodes, told_slots, told_top, told_variants, outside_list, first_outside, ref_outside, cell_outside, row_outside, slot_outside, instance_outside, entries_outside, instance_parts, slot_parts, told_parts}
use Rattle.symtab_json.specs.Told.{by_variants, by_top, by_slots, by_nodes, by_instances, by_json, by_entries, by_numbers, told_tree, told_entries, json_of}
use Rattle.symtab_json.specs.ReadBack.{RowIsValue, SlotIsText, AreTexts, FilesReadBack}
use Rattle.symtab_json.proofs.Backs.{kept_back, short_back, list_same, short_same, each, every, every_two, apart_back, node_back, gens_back, variant_back, row_back}
use Rattle.symtab_json.proofs.Rounds.{json_back}
use Rattle.symtab_json.proofs.Trees.{round_table, node_inside}

-- an instance as it is told
abbrev instance_entry : InstanceParts → InstanceEntry
instance_entry i = record { path = i.path; variant = i.variant }

-- a slot as it is told
abbrev slot_entry : Slot → SlotEntry
slot_entry s = record { variant = s.variant; line = s.line; gens = s.gens; names = s.names; rows = s.rows }

-- the parts as they are told
abbrev entries_of : TableParts → Entries
entries_of p = record { top = p.top; nodes = p.nodes; variants = p.variants; instances = map instance_entry p.instances; slots = map slot_entry p.slots }

same_paths : (instances : List InstanceParts) → map (λ (i : InstanceEntry). i.path) (map instance_entry instances) ≡ map (λ (i : InstanceParts). i.path) instances
same_paths [] = refl
same_paths (i ∷ is) = ap (λ xs. i.path ∷ xs) (same_paths is)

same_variants : (instances : List InstanceParts) → map (λ (i : InstanceEntry). i.variant) (map instance_entry instances) ≡ map (λ (i : InstanceParts). i.variant) instances
same_variants [] = refl
same_variants (i ∷ is) = ap (λ xs. i.variant ∷ xs) (same_variants is)

-- ---- each part

instances_back : (p : TableParts) → IsTable p → told_instances (table_json p) ≡ Some (map instance_entry p.instances)
instances_back p h =
    ap (kept_if paths_differ) (short_back told_instance instance_json instance_entry p.instances h.short_instances
    (each (λ i. told_instance (instance_json i) ≡ Some (instance_entry i)) (λ i. refl) p.instances))
    ∙ kept_back paths_differ (map instance_entry p.instances) (ap are_apart (same_paths p.instances) ∙ apart_back (paths_of p.instances) h.paths)

nodes_back : (p : TableParts) → IsTable p → told_nodes (table_json p) ≡ Some p.nodes
nodes_back p h =
    ap (kept_if names_of_nodes_differ) (list_same told_node node_json p.nodes
    (every (λ n. IsWidth n.width) (λ n. told_node (node_json n) ≡ Some n) node_back p.nodes (recursion_from_All (λ n. IsWidth n.width) p.nodes h.widths)))
    ∙ kept_back names_of_nodes_differ p.nodes (apart_back _ h.node_names)

-- a place is told by its file and its line
place_back : (at : ℕ) → at < 2 ^ 30 → made_place (Some (file_of at)) (Some (line_in at)) ≡ Some at
place_back at h =
    let file : file_of at < 64 = omega (arith, h) in
    let both : is_place (file_of at) (line_in at) ≡ true = and_from _ _ (lt-ltb (file_of at) 64 file) (lt-ltb (line_in at) 16777216 (is_of at).1) in
    ap (λ b. cond b (Some (place (file_of at) (line_in at))) None) both ∙ ap Some (is_of at).0

all_slots : (line : Option ℕ) (gens : Option _) (names : Option _) (rows : Option _) (s : Slot) → line ≡ Some s.line → gens ≡ Some s.gens → names ≡ Some s.names → rows ≡ Some s.rows →
    made_slot (Some s.variant) line gens names rows ≡ Some (slot_entry s)
all_slots line gens names rows s a b c d = λ i. made_slot (Some s.variant) (a i) (b i) (c i) (d i)

slot_back : (nodes : List NodeName) (variants : ℕ) (of : List ℕ) (s : Slot) → IsSlot nodes variants of s → SlotIsText s → told_slot true nodes (slot_json s) ≡ Some (slot_entry s)
slot_back nodes variants of s h t =
    all_slots _ _ _ _ s (place_back s.line h.line) (gens_back s.gens h.gens)
    (short_same as_str string s.names h.short_names (each (λ n. as_str (string n) ≡ Some n) (λ n. refl) s.names))
    (short_same (told_row nodes) row_json s.rows h.short_rows
    (every_two (IsRow nodes s.names) RowIsValue (λ row. told_row nodes (row_json row) ≡ Some row) (row_back nodes s.names) s.rows (recursion_from_All (IsRow nodes s.names) s.rows h.rows) t.rows))

same_number : (n : ℕ) → (n == n) ≡ true
same_number n = grind (arith, nat_tests)

or_right : (a b : Bool) → b ≡ true → (a || b) ≡ true
or_right true b e = refl
or_right false b e = e

cells_full : (nodes : List NodeName) (names : List (List ℕ)) (rows : List Row) → AllByRecursion (IsRow nodes names) rows → list_all (has_cells (length names)) rows ≡ true
cells_full nodes names [] h = refl
cells_full nodes names (row ∷ rows) h =
    and_from (has_cells (length names) row) _ (ap (λ n. n == length names) h.0.count ∙ same_number (length names)) (cells_full nodes names rows h.1)

slot_full : (p : TableParts) (s : Slot) → IsSlot p.nodes (length p.variants) (variants_of p.instances) s → is_full (length p.variants) (instance_count (map instance_entry p.instances)) (slot_entry s) ≡ true
slot_full p s h =
    let count : length s.rows ≡ instance_count (map instance_entry p.instances) s.variant = h.count ∙ ap (λ xs. length (places s.variant xs)) (sym (same_variants p.instances)) in
    and_from _ _ (or_right (nat_le (length p.variants) s.variant) _ (ap (λ n. n == instance_count (map instance_entry p.instances) s.variant) count ∙ same_number (instance_count (map instance_entry p.instances) s.variant)))
    (and_from _ _ (cells_full p.nodes s.names s.rows (recursion_from_All (IsRow p.nodes s.names) s.rows h.rows)) (apart_back s.names h.names))

list_full : (n : ℕ) (count : ℕ → ℕ) (slots : List Slot) → AllByRecursion (λ s. is_full n count (slot_entry s) ≡ true) slots → are_full n count (map slot_entry slots) ≡ true
list_full n count [] h = refl
list_full n count (s ∷ ss) h = and_from (is_full n count (slot_entry s)) _ h.0 (list_full n count ss h.1)

items_count : {A : Type 0} (tree : A → Data) (xs : List A) → items_len (items_of (map tree xs)) ≡ length xs
items_count tree [] = refl
items_count tree (x ∷ xs) = ap suc (items_count tree xs)

slots_back : (p : TableParts) → IsTable p → AreTexts p → told_slots true (table_json p) (map instance_entry p.instances) p.nodes ≡ Some (map slot_entry p.slots)
slots_back p h t =
    let of = variants_of p.instances in
    let count = instance_count (map instance_entry p.instances) in
    let slots = recursion_from_All (IsSlot p.nodes (length p.variants) of) p.slots h.slots in
    let full : are_full (length p.variants) count (map slot_entry p.slots) ≡ true =
    list_full (length p.variants) count p.slots (every (IsSlot p.nodes (length p.variants) of) (λ s. is_full (length p.variants) count (slot_entry s) ≡ true) (slot_full p) p.slots slots) in
    let many : variants_len (table_json p) ≡ length p.variants = items_count variant_json p.variants in
    ap (kept_if (are_full (variants_len (table_json p)) count)) (short_back (told_slot true p.nodes) slot_json slot_entry p.slots h.short_slots
    (every_two (IsSlot p.nodes (length p.variants) of) SlotIsText (λ s. told_slot true p.nodes (slot_json s) ≡ Some (slot_entry s)) (slot_back p.nodes (length p.variants) of) p.slots slots t.slots))
    ∙ kept_back (are_full (variants_len (table_json p)) count) (map slot_entry p.slots) (ap (λ n. are_full n count (map slot_entry p.slots)) many ∙ full)

first_back : (instances : List InstanceParts) (top : List ℕ) → slice_get (paths_of instances) 0 ≡ Some top → is_first (map instance_entry instances) top ≡ true
first_back [] top e = absurd (cc)
first_back (i ∷ is) top e = (bytes_eq-Decides i.path top).1 (let same : i.path ≡ top = cc in same)

top_back : (p : TableParts) → IsTable p → told_top (table_json p) (map instance_entry p.instances) ≡ Some p.top
top_back p h = kept_back (is_first (map instance_entry p.instances)) p.top (first_back p.instances p.top h.top)

variants_back : (p : TableParts) → IsTable p → told_variants (table_json p) ≡ Some p.variants
variants_back p h =
    short_same told_variant variant_json p.variants h.short_variants
    (every (λ v. AreGens v.gens) (λ v. told_variant (variant_json v) ≡ Some v) variant_back p.variants (recursion_from_All (λ v. AreGens v.gens) p.variants h.variants))

tree_back : (p : TableParts) → IsTable p → AreTexts p → told_tree (table_json p) ≡ Ok (entries_of p)
tree_back p h t =
    let d = table_json p in
    let is = map instance_entry p.instances in
    let ss = map slot_entry p.slots in
    ap (by_instances true d) (instances_back p h) ∙ ap (by_nodes true d is) (nodes_back p h) ∙ ap (by_slots d is p.nodes) (slots_back p h t)
    ∙ ap (by_top d is p.nodes ss) (top_back p h) ∙ ap (by_variants is p.nodes ss p.top) (variants_back p h)

-- ---- numbers

or_back : {A : Type 0} (a b : Option A) → a ≡ None → b ≡ None → option_or a b ≡ None
or_back None b e f = f
or_back (Some x) b e f = absurd (cc)

outside_none : {A B : Type 0} (outside : B → Option Outside) (f : A → B) (xs : List A) → AllByRecursion (λ x. outside (f x) ≡ None) xs → first_outside outside (map f xs) ≡ None
outside_none outside f [] h = refl
outside_none outside f (x ∷ xs) h = or_back (outside (f x)) _ h.0 (outside_none outside f xs h.1)

none_outside : {A : Type 0} (outside : A → Option Outside) (xs : List A) → AllByRecursion (λ x. outside x ≡ None) xs → first_outside outside xs ≡ None
none_outside outside [] h = refl
none_outside outside (x ∷ xs) h = or_back (outside x) _ h.0 (none_outside outside xs h.1)

inside : (size id : ℕ) → id < size → outside_list size id ≡ None
inside size id l = ap (λ b. cond b (Some (record { id = id; size = size })) None) (let e : nat_le size id ≡ false = grind (arith, nat_tests) in e)

ref_inside : (nodes : List NodeName) (at : Ref) → IsFound nodes at → ref_outside (length nodes) at ≡ None
ref_inside nodes (Node id width) found = inside (length nodes) id.0 (node_inside nodes id.0 width found)
ref_inside nodes (Const bits) found = refl

cell_inside : (nodes : List NodeName) (cell : Binding) → IsCell nodes cell → cell_outside (length nodes) cell ≡ None
cell_inside nodes (Value at) found = ref_inside nodes at found
cell_inside nodes Unset found = refl
cell_inside nodes Removed found = refl

row_inside : (nodes : List NodeName) (names : List (List ℕ)) (row : Row) → IsRow nodes names row → row_outside (length nodes) row ≡ None
row_inside nodes names row h =
    or_back (first_outside (cell_outside (length nodes)) row.cells) _
    (none_outside (cell_outside (length nodes)) row.cells (every (IsCell nodes) (λ cell. cell_outside (length nodes) cell ≡ None) (cell_inside nodes) row.cells (recursion_from_All (IsCell nodes) row.cells h.cells)))
    (ref_inside nodes row.on h.on)

slot_inside : (nodes : List NodeName) (variants : ℕ) (of : List ℕ) (s : Slot) → IsSlot nodes variants of s → slot_outside variants (length nodes) (slot_entry s) ≡ None
slot_inside nodes variants of s h =
    or_back (outside_list variants s.variant) _ (inside variants s.variant h.variant)
    (none_outside (row_outside (length nodes)) s.rows (every (IsRow nodes s.names) (λ row. row_outside (length nodes) row ≡ None) (row_inside nodes s.names) s.rows (recursion_from_All (IsRow nodes s.names) s.rows h.rows)))

entries_inside : (p : TableParts) → IsTable p → entries_outside (entries_of p) ≡ None
entries_inside p h =
    or_back (first_outside (instance_outside (length p.variants)) (map instance_entry p.instances)) _
    (outside_none (instance_outside (length p.variants)) instance_entry p.instances
    (every (λ i. i.variant < length p.variants) (λ i. instance_outside (length p.variants) (instance_entry i) ≡ None) (λ i l. inside (length p.variants) i.variant l) p.instances
    (recursion_from_All (λ i. i.variant < length p.variants) p.instances h.instances)))
    (outside_none (slot_outside (length p.variants) (length p.nodes)) slot_entry p.slots
    (every (IsSlot p.nodes (length p.variants) (variants_of p.instances)) (λ s. slot_outside (length p.variants) (length p.nodes) (slot_entry s) ≡ None)
    (slot_inside p.nodes (length p.variants) (variants_of p.instances)) p.slots (recursion_from_All (IsSlot p.nodes (length p.variants) (variants_of p.instances)) p.slots h.slots)))

same_instances : (instances : List InstanceParts) → map instance_parts (map instance_entry instances) ≡ instances
same_instances [] = refl
same_instances (i ∷ is) = ap (λ xs. i ∷ xs) (same_instances is)

same_slots : (slots : List Slot) → map slot_parts (map slot_entry slots) ≡ slots
same_slots [] = refl
same_slots (s ∷ ss) = ap (λ xs. s ∷ xs) (same_slots ss)

parts_back : (p : TableParts) → told_parts (entries_of p) ≡ p
parts_back p = λ i. record { top = p.top; nodes = p.nodes; variants = p.variants; instances = same_instances p.instances i; slots = same_slots p.slots i }

pub files_read_back : FilesReadBack
files_read_back p h t short =
    let text = symbols_text p in
    let within : nat_lt (2 ^ 26) (length text) ≡ false = grind (arith, nat_tests) in
    let entries : told_entries text ≡ Ok (entries_of p) =
    ap (λ b. cond b (Err fault.TooLong) (by_json (json_of text))) within ∙ ap by_json (json_back (table_json p) (round_table p h t)) ∙ tree_back p h t in
    ap by_entries entries ∙ ap (by_numbers (entries_of p)) (entries_inside p h) ∙ ap Ok (parts_back p)
