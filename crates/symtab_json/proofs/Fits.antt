-- Entries of the right shape, all of whose numbers are inside their lists, are the parts of a table.
use Rattle.std.proofs.Common.{◌≡◌, ℕ, suc, ◌<◌, ◌^◌, ◌==◌, ◌||◌, Bool, true, false, cond, List, [], ◌∷◌, length, map, codes, nat_le, Option, Some, None, Ok, Err, inl, inr, refl, sym, ap, ◌∙◌, subst, arith, leb-true}
use Rattle.std.specs.Prelude.{⊤, slice_get, is_some, nat_lt}
use Rattle.std.specs.List.{AllByRecursion}
use Rattle.std.specs.Option.{option_map_or}
use Rattle.std.proofs.lemmas.Bool.{and_parts, or_cases, eqb-true}
use Rattle.std.proofs.lemmas.List.Elements.{All-from_recursion}
use Rattle.std.proofs.lemmas.Slice.Eq.{bytes_eq-Decides}
use Rattle.symtab.specs.Apart.{AreApart}
use Rattle.symtab.specs.Places.{places}
use Rattle.symtab.specs.Shape.{IsWidth, AreGens, IsRow, IsSlot, IsCell, variants_of}
use Rattle.symtab.specs.declared.parts.NodeName.{NodeName}
use Rattle.symtab.specs.declared.parts.VariantParts.{VariantParts}
use Rattle.symtab.specs.declared.parts.InstanceParts.{InstanceParts}
use Rattle.symtab.specs.declared.parts.Row.{Row}
use Rattle.serde_json.specs.Data.{Data}
use Rattle.serde_json.specs.Events.{items_len}
use Rattle.serde_json.specs.Find.{get, as_array, as_object}
use Rattle.symtab_json.specs.declared.entries.InstanceEntry.{InstanceEntry}
use Rattle.symtab_json.specs.declared.entries.SlotEntry.{SlotEntry}
use Rattle.symtab_json.specs.declared.entries.Entries.{Entries}
use Rattle.symtab_json.specs.Entries.{is_short, told_count, told_instance, told_items, told_list, told_member, told_node, told_short, told_slot, told_variant}
use Rattle.symtab_json.specs.Places.{instance_count}
use Rattle.symtab_json.specs.Judged.{paths_differ, told_instances, names_of_nodes_differ, told_nodes, list_len, variants_len, has_cells, is_full, are_full, told_slots, is_first, told_top, told_variants, row_outside, cell_outside, ref_outside, slot_outside, instance_outside, outside_list, first_outside, entries_outside, instance_parts, slot_parts}
use Rattle.symtab_json.specs.declared.fault.Part.TheVariants as part
use Rattle.symtab_json.specs.declared.fault.TableFault.{TableFault}
use Rattle.symtab_json.specs.declared.fault.TableFault.TheVariants as fault
use Rattle.symtab_json.specs.Told.{misshapen, by_variants, by_top, by_slots, by_nodes, by_instances, by_version, by_json, told_entries, json_of}
use Rattle.symtab_json.specs.Fit.{AreTableParts}
use Rattle.symtab_json.proofs.Found.{kept_parts, and_then_parts, items_told, list_told, short_told, names_differ, all_one, all_two, all_three, all_pass}
use Rattle.symtab_json.proofs.Rules.{node_read, variant_read, RowRead, SlotRead, slot_read}
use Rattle.symtab_json.proofs.Outside.{or_none, none_outside, inside_list, ref_found, cell_found}

-- ---- what was told is what the entries are

pub record AreOf (filed : Bool) (d : Data) (e : Entries) : Type 0 where
  pub instances : told_instances d ≡ Some e.instances
  pub nodes : told_nodes d ≡ Some e.nodes
  pub slots : told_slots filed d e.instances e.nodes ≡ Some e.slots
  pub top : told_top d e.instances ≡ Some e.top
  pub variants : told_variants d ≡ Some e.variants

of_variants : (instances : List InstanceEntry) (nodes : List NodeName) (slots : List SlotEntry) (top : List ℕ) (variants : Option (List VariantParts)) (e : Entries) →
    by_variants instances nodes slots top variants ≡ Ok e → (instances ≡ e.instances) × (nodes ≡ e.nodes) × (slots ≡ e.slots) × (top ≡ e.top) × (variants ≡ Some e.variants)
of_variants instances nodes slots top None e h = absurd (cc)
of_variants instances nodes slots top (Some variants) e h =
    let same : record { top = top; nodes = nodes; variants = variants; instances = instances; slots = slots } ≡ e = cc in
    (ap (λ (x : Entries). x.instances) same, ap (λ (x : Entries). x.nodes) same, ap (λ (x : Entries). x.slots) same, ap (λ (x : Entries). x.top) same, ap (λ (x : Entries). Some x.variants) same)

of_top : (d : Data) (instances : List InstanceEntry) (nodes : List NodeName) (slots : List SlotEntry) (top : Option (List ℕ)) (e : Entries) →
    by_top d instances nodes slots top ≡ Ok e → (instances ≡ e.instances) × (nodes ≡ e.nodes) × (slots ≡ e.slots) × (top ≡ Some e.top) × (told_variants d ≡ Some e.variants)
of_top d instances nodes slots None e h = absurd (cc)
of_top d instances nodes slots (Some top) e h = let of = of_variants instances nodes slots top (told_variants d) e h in (of.0, of.1, of.2, ap Some of.3, of.4)

of_slots : (d : Data) (instances : List InstanceEntry) (nodes : List NodeName) (slots : Option (List SlotEntry)) (e : Entries) →
    by_slots d instances nodes slots ≡ Ok e → (instances ≡ e.instances) × (nodes ≡ e.nodes) × (slots ≡ Some e.slots) × (told_top d instances ≡ Some e.top) × (told_variants d ≡ Some e.variants)
of_slots d instances nodes None e h = absurd (cc)
of_slots d instances nodes (Some slots) e h = let of = of_top d instances nodes slots (told_top d instances) e h in (of.0, of.1, ap Some of.2, of.3, of.4)

of_nodes : (filed : Bool) (d : Data) (instances : List InstanceEntry) (nodes : Option (List NodeName)) (e : Entries) →
    by_nodes filed d instances nodes ≡ Ok e → (instances ≡ e.instances) × (nodes ≡ Some e.nodes) × (told_slots filed d instances e.nodes ≡ Some e.slots) × (told_top d instances ≡ Some e.top) × (told_variants d ≡ Some e.variants)
of_nodes filed d instances None e h = absurd (cc)
of_nodes filed d instances (Some nodes) e h =
    let of = of_slots d instances nodes (told_slots filed d instances nodes) e h in
    (of.0, ap Some of.1, ap (λ (ns : List NodeName). told_slots filed d instances ns) (sym of.1) ∙ of.2, of.3, of.4)

of_instances : (filed : Bool) (d : Data) (instances : Option (List InstanceEntry)) (e : Entries) → told_instances d ≡ instances → by_instances filed d instances ≡ Ok e → AreOf filed d e
of_instances filed d None e is h = absurd (cc)
of_instances filed d (Some instances) e is h =
    let of = of_nodes filed d instances (told_nodes d) e h in
    record {
      instances = is ∙ ap Some of.0;
      nodes = of.1;
      slots = ap (λ (xs : List InstanceEntry). told_slots filed d xs e.nodes) (sym of.0) ∙ of.2;
      top = ap (told_top d) (sym of.0) ∙ of.3;
      variants = of.4;
    }

-- of one version or the other
abbrev pub AreOfOne : Data → Entries → Type 0
AreOfOne d e = (filed : Bool) × AreOf filed d e

if_known : (first second : Bool) (f : TableFault) (d : Data) (e : Entries) →
    cond first (by_instances false d (told_instances d)) (cond second (by_instances true d (told_instances d)) (Err f)) ≡ Ok e → AreOfOne d e
if_known true second f d e h = (false, of_instances false d (told_instances d) e refl h)
if_known false true f d e h = (true, of_instances true d (told_instances d) e refl h)
if_known false false f d e h = absurd (cc)

of_version : (d : Data) (version : Option ℕ) (e : Entries) → by_version d version ≡ Ok e → AreOfOne d e
of_version d None e h = absurd (cc)
of_version d (Some version) e h = if_known (version == 1) (version == 2) (fault.Version version) d e h

of_tree : (b : Bool) (d : Data) (e : Entries) → cond b (by_version d (told_member told_count (codes "version") d)) (misshapen part.Whole) ≡ Ok e → AreOfOne d e
of_tree true d e h = of_version d (told_member told_count (codes "version") d) e h
of_tree false d e h = absurd (cc)

of_json : (o : Option Data) (e : Entries) → by_json o ≡ Ok e → (d : Data) × AreOfOne d e
of_json None e h = absurd (cc)
of_json (Some d) e h = (d, of_tree (is_some (as_object d)) d e h)

of_text : (b : Bool) (text : List ℕ) (e : Entries) → cond b (Err fault.TooLong) (by_json (json_of text)) ≡ Ok e → (d : Data) × AreOfOne d e
of_text true text e h = absurd (cc)
of_text false text e h = of_json (json_of text) e h

-- ---- rows and slots

row_fits : (nodes : List NodeName) (names : List (List ℕ)) (row : Row) → RowRead nodes row → has_cells (length names) row ≡ true → row_outside (length nodes) row ≡ None → IsRow nodes names row
row_fits nodes names row told full inside =
    let both = or_none (first_outside (cell_outside (length nodes)) row.cells) (ref_outside (length nodes) row.on) inside in
    let cells = all_two (λ cell. cell_found nodes cell) row.cells told.cells (none_outside (cell_outside (length nodes)) row.cells both.0) in
    record {
      on = ref_found nodes row.on told.on both.1;
      on_width = told.bit;
      short = told.short;
      count = eqb-true (length row.cells) (length names) full;
      cells = All-from_recursion (IsCell nodes) row.cells cells;
    }

same_variants : (instances : List InstanceEntry) → map (λ (i : InstanceParts). i.variant) (map instance_parts instances) ≡ map (λ (i : InstanceEntry). i.variant) instances
same_variants [] = refl
same_variants (i ∷ is) = ap (λ xs. i.variant ∷ xs) (same_variants is)

same_paths : (instances : List InstanceEntry) → map (λ (i : InstanceParts). i.path) (map instance_parts instances) ≡ map (λ (i : InstanceEntry). i.path) instances
same_paths [] = refl
same_paths (i ∷ is) = ap (λ xs. i.path ∷ xs) (same_paths is)

row_count : (variants variant rows count : ℕ) → variant < variants → (nat_le variants variant || rows == count) ≡ true → rows ≡ count
row_count variants variant rows count inside e = elim (or_cases (nat_le variants variant) (rows == count) e) [
  | inl outside ↦ absurd (omega (arith, leb-true variants variant outside))
  | inr same ↦ eqb-true rows count same
]

slot_fits : (variants : ℕ) (nodes : List NodeName) (instances : List InstanceEntry) (slot : SlotEntry) →
    SlotRead nodes slot → is_full variants (instance_count instances) slot ≡ true → slot_outside variants (length nodes) slot ≡ None →
    IsSlot nodes variants (variants_of (map instance_parts instances)) (slot_parts slot)
slot_fits variants nodes instances slot told full inside =
    let both = or_none (outside_list variants slot.variant) (first_outside (row_outside (length nodes)) slot.rows) inside in
    let variant = inside_list variants slot.variant both.0 in
    let counts = and_parts _ _ full in
    let rest = and_parts _ _ counts.1 in
    let rows = all_three (RowRead nodes) (λ row. has_cells (length slot.names) row ≡ true) (λ row. row_outside (length nodes) row ≡ None) (IsRow nodes slot.names)
    (row_fits nodes slot.names) slot.rows told.rows (all_pass (has_cells (length slot.names)) slot.rows rest.0) (none_outside (row_outside (length nodes)) slot.rows both.1) in
    record {
      variant = variant;
      line = told.line;
      gens = told.gens;
      short_names = told.short_names;
      names = names_differ slot.names rest.1;
      short_rows = told.short_rows;
      count = row_count variants slot.variant _ _ variant counts.0 ∙ ap (λ xs. length (places slot.variant xs)) (sym (same_variants instances));
      rows = All-from_recursion (IsRow nodes slot.names) slot.rows rows;
    }

-- ---- whole tables

all_map : {A B : Type 0} (f : A → B) (P : B → Type 0) (xs : List A) → AllByRecursion (λ x. P (f x)) xs → AllByRecursion P (map f xs)
all_map f P [] h = tt
all_map f P (x ∷ xs) h = (h.0, all_map f P xs h.1)

length_map : {A B : Type 0} (f : A → B) (xs : List A) → length (map f xs) ≡ length xs
length_map f [] = refl
length_map f (x ∷ xs) = ap suc (length_map f xs)

first_path : (instances : List InstanceEntry) (top : List ℕ) → is_first instances top ≡ true → slice_get (map (λ (i : InstanceEntry). i.path) instances) 0 ≡ Some top
first_path [] top e = absurd (cc)
first_path (i ∷ is) top e = ap Some ((bytes_eq-Decides i.path top).0 e)

variants_are : (d : Data) (variants : List VariantParts) → told_variants d ≡ Some variants → variants_len d ≡ length variants
variants_are d variants e =
    let found = and_then_parts (told_short told_variant) (get (codes "variants") d) variants e in
    let kept = kept_parts is_short (told_list told_variant found.0) variants found.2 in
    let items = and_then_parts (told_items told_variant) (as_array found.0) variants kept.0 in
    let told = items_told told_variant (λ v. ⊤) (λ x v is. tt) items.0 variants items.2 in
    ap (λ o. option_map_or list_len o 0) found.1 ∙ ap (λ o. option_map_or items_len o 0) items.1 ∙ sym told.1

entries_fit : (filed : Bool) (d : Data) (e : Entries) → AreOf filed d e → entries_outside e ≡ None → AreTableParts e
entries_fit filed d e of inside =
    let both = or_none (first_outside (instance_outside (length e.variants)) e.instances) (first_outside (slot_outside (length e.variants) (length e.nodes)) e.slots) inside in
    let kept_instances = kept_parts paths_differ (told_member (told_short told_instance) (codes "instances") d) e.instances of.instances in
    let instances_at = and_then_parts (told_short told_instance) (get (codes "instances") d) e.instances kept_instances.0 in
    let instances_told = short_told told_instance (λ i. ⊤) (λ x i is. tt) instances_at.0 e.instances instances_at.2 in
    let kept_nodes = kept_parts names_of_nodes_differ (told_member (told_list told_node) (codes "nodes") d) e.nodes of.nodes in
    let nodes_at = and_then_parts (told_list told_node) (get (codes "nodes") d) e.nodes kept_nodes.0 in
    let nodes_told = list_told told_node (λ node. IsWidth node.width) node_read nodes_at.0 e.nodes nodes_at.2 in
    let kept_slots = kept_parts (are_full (variants_len d) (instance_count e.instances)) (told_member (told_short (told_slot filed e.nodes)) (codes "slots") d) e.slots of.slots in
    let slots_at = and_then_parts (told_short (told_slot filed e.nodes)) (get (codes "slots") d) e.slots kept_slots.0 in
    let slots_told = short_told (told_slot filed e.nodes) (SlotRead e.nodes) (slot_read filed e.nodes) slots_at.0 e.slots slots_at.2 in
    let count = variants_are d e.variants of.variants in
    let full : AllByRecursion (λ slot. is_full (length e.variants) (instance_count e.instances) slot ≡ true) e.slots =
    subst (λ n. AllByRecursion (λ slot. is_full n (instance_count e.instances) slot ≡ true) e.slots) count (all_pass (is_full (variants_len d) (instance_count e.instances)) e.slots kept_slots.1) in
    let variants_at = and_then_parts (told_short told_variant) (get (codes "variants") d) e.variants of.variants in
    let variants_told = short_told told_variant (λ v. AreGens v.gens) variant_read variants_at.0 e.variants variants_at.2 in
    let top = kept_parts (is_first e.instances) (told_member _ (codes "top") d) e.top of.top in
    let few : length e.variants < 2 ^ 32 = variants_told.1 in
    let instances_inside : AllByRecursion (λ i. i.variant < length e.variants) e.instances =
    all_one (λ i none. inside_list (length e.variants) i.variant none) e.instances (none_outside (instance_outside (length e.variants)) e.instances both.0) in
    let slots_inside = none_outside (slot_outside (length e.variants) (length e.nodes)) e.slots both.1 in
    let slots = all_three (SlotRead e.nodes) (λ slot. is_full (length e.variants) (instance_count e.instances) slot ≡ true) (λ slot. slot_outside (length e.variants) (length e.nodes) slot ≡ None)
    (λ slot. IsSlot e.nodes (length e.variants) (variants_of (map instance_parts e.instances)) (slot_parts slot))
    (slot_fits (length e.variants) e.nodes e.instances) e.slots slots_told.0 full slots_inside in
    record {
      table = record {
        widths = All-from_recursion (λ node. IsWidth node.width) e.nodes nodes_told;
        node_names = names_differ _ kept_nodes.1;
        short_variants = few;
        variants = All-from_recursion (λ v. AreGens v.gens) e.variants variants_told.0;
        short_instances = subst (λ n. n < 2 ^ 32) (sym (length_map instance_parts e.instances)) instances_told.1;
        instances = All-from_recursion (λ i. i.variant < length e.variants) (map instance_parts e.instances) (all_map instance_parts (λ i. i.variant < length e.variants) e.instances instances_inside);
        paths = subst AreApart (sym (same_paths e.instances)) (names_differ _ kept_instances.1);
        top = ap (λ xs. slice_get xs 0) (same_paths e.instances) ∙ first_path e.instances e.top top.1;
        short_slots = subst (λ n. n < 2 ^ 32) (sym (length_map slot_parts e.slots)) slots_told.1;
        slots = All-from_recursion (IsSlot e.nodes (length e.variants) (variants_of (map instance_parts e.instances))) (map slot_parts e.slots) (all_map slot_parts (IsSlot e.nodes (length e.variants) (variants_of (map instance_parts e.instances))) e.slots slots);
      };
      instances = all_one (λ i inside_list'. let n : i.variant < 2 ^ 32 = omega (arith, few, inside_list') in n) e.instances instances_inside;
      slots = all_one (λ slot none. let n : slot.variant < 2 ^ 32 = omega (arith, few, inside_list (length e.variants) slot.variant (or_none (outside_list (length e.variants) slot.variant) (first_outside (row_outside (length e.nodes)) slot.rows) none).0) in n) e.slots slots_inside;
    }

-- the entries of a text
pub text_fits : (text : List ℕ) (e : Entries) → told_entries text ≡ Ok e → entries_outside e ≡ None → AreTableParts e
text_fits text e told inside = let of = of_text (nat_lt (2 ^ 26) (length text)) text e told in entries_fit of.1.0 of.0 e of.1.1 inside
