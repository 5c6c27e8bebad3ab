-- What is found in the table of a compiled design, at a statement in an instance.
use Rattle.std.proofs.Common.{◌≡◌, ℕ, zero, suc, ◌+◌, ◌==◌, Bool, true, false, cond, List, [], ◌∷◌, map, Option, Some, None, IsSome, option_map, position, bytes_eq, refl, sym, ap, ◌∙◌, subst}
use Rattle.std.specs.Prelude.{slice_get, is_some, option_and_then, filter}
use Rattle.std.specs.List.{enumerate_from}
use Rattle.std.specs.Option.{option_map_or}
use Rattle.std.proofs.lemmas.Bool.{false≢true}
use Rattle.std.proofs.lemmas.Option.{none-some, same_Some, slice_get-map, slice_get_within, get_or_from_slice_get}
use Rattle.bv_core.specs.declared.reference.Binding.{Binding}
use Rattle.exec_core.specs.Block.{Name}
use Rattle.list_core.specs.Lists.{IsIn}
use Rattle.design_core.specs.declared.design.Instance.{Instance}
use Rattle.design_core.specs.Design.{Design}
use Rattle.design_exec.specs.Processes.{Numbered}
use Rattle.net_core.specs.Nodes.{Shape}
use Rattle.symtab.specs.declared.parts.Row.{Row}
use Rattle.symtab.specs.declared.parts.Slot.{Slot}
use Rattle.symtab.specs.declared.parts.InstanceParts.{InstanceParts}
use Rattle.symtab.specs.declared.parts.TableParts.{TableParts}
use Rattle.symtab.specs.Shape.{variants_of}
use Rattle.symtab.specs.Places.{places_from, places}
use Rattle.symtab.specs.Lookups.{instances_of, name_place, row_of, enable_of, binding_of}
use Rattle.symtab.proofs.Positions.{text_at, text_there}
use Rattle.symtab.proofs.Rows as rows
use Rattle.check_exec.proofs.Facts.{in_index}
use Rattle.world_core.specs.declared.mode.Mode.{Mode}
use Rattle.world_core.specs.Sites.{Site, sites_in_order, instances_with, Spot, spots_of}
use Rattle.world_core.specs.Kept.{name_tree}
use Rattle.lower_core.specs.Shape.{instance_part, slot_part, shape_of}
use Rattle.trim_core.specs.Trimmed.{NameTold, NamesTold, RowTold, RowsTold, SlotsTold, bare_slot, bare}

-- ---- the instances of a variant

places_are : (v n : ℕ) (list : List Instance) → places_from n v (map (λ (p : InstanceParts). p.variant) (map instance_part list)) ≡ map (λ (q : Numbered). q.0) (filter (λ (q : Numbered). q.1.variant == v) (enumerate_from n list))
places_are v n [] = refl
places_are v n (r ∷ list) = by_test (r.variant == v) (places_are v (n + 1) list)
  where
    by_test : (b : Bool) → places_from (n + 1) v (map (λ (p : InstanceParts). p.variant) (map instance_part list)) ≡ map (λ (q : Numbered). q.0) (filter (λ (q : Numbered). q.1.variant == v) (enumerate_from (n + 1) list))
        → cond b (n ∷ places_from (n + 1) v (map (λ (p : InstanceParts). p.variant) (map instance_part list))) (places_from (n + 1) v (map (λ (p : InstanceParts). p.variant) (map instance_part list)))
        ≡ map (λ (q : Numbered). q.0) (cond b ((n, r) ∷ filter (λ (q : Numbered). q.1.variant == v) (enumerate_from (n + 1) list)) (filter (λ (q : Numbered). q.1.variant == v) (enumerate_from (n + 1) list)))
    by_test true rest = ap (λ l. n ∷ l) rest
    by_test false rest = rest

-- ---- lists that go side by side

rows_at : (d : Design) (n : ℕ) (mode : Mode) (nodes : List Shape) (s : Site) (is : List ℕ) (rows : List Row) → RowsTold d n mode nodes (map (λ i. (s, i)) is) rows → (j i : ℕ) → slice_get is j ≡ Some i
    → (row : Row) × ((slice_get rows j ≡ Some row) × RowTold d n mode nodes (s, i) row)
rows_at d n mode nodes s [] rows h j i e = absurd (none-some i e)
rows_at d n mode nodes s (k ∷ is) [] h j i e = absurd h
rows_at d n mode nodes s (k ∷ is) (row ∷ rows) h zero i e = (row, (refl, subst (λ m. RowTold d n mode nodes (s, m) row) (same_Some k i e) h.0))
rows_at d n mode nodes s (k ∷ is) (row ∷ rows) h (suc j) i e = rows_at d n mode nodes s is rows h.1 j i e

names_at : (d : Design) (n : ℕ) (mode : Mode) (nodes : List Shape) (p : Spot) (names : List Name) (cells : List Binding) → NamesTold d n mode nodes p names cells → (j : ℕ) (x : Name) → slice_get names j ≡ Some x
    → (cell : Binding) × ((slice_get cells j ≡ Some cell) × NameTold d n mode nodes (name_tree d n p x) cell)
names_at d n mode nodes p [] cells h j x e = absurd (none-some x e)
names_at d n mode nodes p (y ∷ names) [] h j x e = absurd h
names_at d n mode nodes p (y ∷ names) (cell ∷ cells) h zero x e = (cell, (refl, subst (λ z. NameTold d n mode nodes (name_tree d n p z) cell) (same_Some y x e) h.0))
names_at d n mode nodes p (y ∷ names) (cell ∷ cells) h (suc j) x e = names_at d n mode nodes p names cells h.1 j x e

slots_at : (d : Design) (n : ℕ) (mode : Mode) (nodes : List Shape) (sites : List Site) (slots : List Slot) → SlotsTold d n mode nodes sites slots → (k : ℕ) (s : Site) → slice_get sites k ≡ Some s
    → (slot : Slot) × ((slice_get slots k ≡ Some slot) × RowsTold d n mode nodes (spots_of d s) slot.rows)
slots_at d n mode nodes [] slots h k s e = absurd (none-some s e)
slots_at d n mode nodes (r ∷ sites) [] h k s e = absurd h
slots_at d n mode nodes (r ∷ sites) (slot ∷ slots) h zero s e = (slot, (refl, subst (λ (z : Site). RowsTold d n mode nodes (spots_of d z) slot.rows) (same_Some r s e) h.0))
slots_at d n mode nodes (r ∷ sites) (slot ∷ slots) h (suc k) s e = slots_at d n mode nodes sites slots h.1 k s e

-- the place of a name
name_at : (x : Name) (names : List Name) → IsIn x names → (j : ℕ) × ((position (bytes_eq x) names ≡ Some j) × (slice_get names j ≡ Some x))
name_at x names i = by_place (position (bytes_eq x) names) refl
  where
    there : IsSome (position (bytes_eq x) names)
    there =
        let at = in_index names x i in
        (text_there x names (position (bytes_eq x) names) refl).1 (at.0, slice_get_within names at.0 x at.1, get_or_from_slice_get names at.0 x x at.1)

    by_place : (o : Option ℕ) → position (bytes_eq x) names ≡ o → (j : ℕ) × ((position (bytes_eq x) names ≡ Some j) × (slice_get names j ≡ Some x))
    by_place (Some j) e = (j, (e, text_at x names (Some j) (sym e)))
    by_place None e = absurd (false≢true (sym (ap is_some e) ∙ there))

-- ---- the table

module _ (d : Design) (n : ℕ) (mode : Mode) (nodes : List Shape) (parts : TableParts) (shape : bare parts ≡ shape_of d) (told : SlotsTold d n mode nodes (sites_in_order d) parts.slots) where
  slots_are : map bare_slot parts.slots ≡ map slot_part (sites_in_order d)
  slots_are = ap (λ (p : TableParts). p.slots) shape

  instances_are : parts.instances ≡ map instance_part d.instances
  instances_are = ap (λ (p : TableParts). p.instances) shape

  pub variant_places : (v : ℕ) → places v (variants_of parts.instances) ≡ instances_with d v
  variant_places v = ap (λ (is : List InstanceParts). places v (map (λ (p : InstanceParts). p.variant) is)) instances_are ∙ places_are v 0 d.instances

  -- what a statement's slot is
  pub record SlotIs (k : ℕ) (s : Site) : Type 0 where
    pub slot : Slot
    pub at : slice_get parts.slots k ≡ Some slot
    pub variant : slot.variant ≡ s.variant
    pub names : slot.names ≡ s.names
    pub rows_told : RowsTold d n mode nodes (spots_of d s) slot.rows

  pub slot_is : (k : ℕ) (s : Site) → slice_get (sites_in_order d) k ≡ Some s → SlotIs k s
  slot_is k s e =
      let found = slots_at d n mode nodes (sites_in_order d) parts.slots told k s e in
      let left : slice_get (map bare_slot parts.slots) k ≡ Some (bare_slot found.0) = slice_get-map bare_slot parts.slots k ∙ ap (option_map bare_slot) found.1.0 in
      let right : slice_get (map slot_part (sites_in_order d)) k ≡ Some (slot_part s) = slice_get-map slot_part (sites_in_order d) k ∙ ap (option_map slot_part) e in
      let same : bare_slot found.0 ≡ slot_part s = same_Some (bare_slot found.0) (slot_part s) (sym left ∙ ap (λ l. slice_get l k) slots_are ∙ right) in
      record { slot = found.0; at = found.1.0; variant = ap (λ (z : Slot). z.variant) same; names = ap (λ (z : Slot). z.names) same; rows_told = found.1.1 }

  module _ (k : ℕ) (s : Site) (e : slice_get (sites_in_order d) k ≡ Some s) where
    its : SlotIs k s
    its = slot_is k s e

    pub slot_instances : instances_of parts k ≡ instances_with d s.variant
    slot_instances =
        ap (λ o. option_map_or (λ (z : Slot). places z.variant (variants_of parts.instances)) o []) its.at
        ∙ ap (λ v. places v (variants_of parts.instances)) its.variant
        ∙ variant_places s.variant

    -- the row of an instance
    pub record RowIs (i : ℕ) : Type 0 where
      pub row : Row
      pub is : row_of parts k i ≡ Some row
      pub row_told : RowTold d n mode nodes (s, i) row

    pub row_is : (i : ℕ) → IsIn i (instances_with d s.variant) → RowIs i
    row_is i among =
        let at = in_index (instances_with d s.variant) i among in
        let found = rows_at d n mode nodes s (instances_with d s.variant) its.slot.rows its.rows_told at.0 i at.1 in
        record { row = found.0; is = rows.row_at parts k its.slot at.0 i its.at (ap (λ l. slice_get l at.0) slot_instances ∙ at.1) ∙ found.1.0; row_told = found.1.1 }

    pub enable_is : (i : ℕ) (among : IsIn i (instances_with d s.variant)) → enable_of parts k i ≡ Some (row_is i among).row.on
    enable_is i among = ap (option_map (λ (row : Row). row.on)) (row_is i among).is

    -- what a name stands for
    pub record CellIs (i : ℕ) (x : Name) : Type 0 where
      pub cell : Binding
      pub is : binding_of parts k i x ≡ Some cell
      pub cell_told : NameTold d n mode nodes (name_tree d n (s, i) x) cell

    pub cell_is : (i : ℕ) → IsIn i (instances_with d s.variant) → (x : Name) → IsIn x s.names → CellIs i x
    cell_is i among x at =
        let row = row_is i among in
        let place = name_at x s.names at in
        let found = names_at d n mode nodes (s, i) s.names row.row.cells row.row_told.cells place.0 x place.1.1 in
        let placed : name_place parts k x ≡ Some place.0 =
        ap (option_and_then (λ (z : Slot). position (bytes_eq x) z.names)) its.at ∙ ap (position (bytes_eq x)) its.names ∙ place.1.0 in
        record {
          cell = found.0;
          is =
              ap (option_and_then (λ (r : Row). option_and_then (slice_get r.cells) (name_place parts k x))) row.is
              ∙ ap (option_and_then (slice_get row.row.cells)) placed
              ∙ found.1.0;
          cell_told = found.1.1;
        }
