-- The table of a compiled design is the table of its design.
use Rattle.std.proofs.Common.{◌≡◌, ℕ, ◌||◌, true, List, [], ◌∷◌, map, Option, Some, None, if◌then◌else◌, refl, sym, ap, ap₂, ◌∙◌}
use Rattle.std.specs.Prelude.{is_some}
use Rattle.std.proofs.lemmas.Bool.{false_from_ne_true}
use Rattle.bv_core.specs.declared.reference.Ref.{Ref}
use Rattle.bv_core.specs.declared.reference.Ref.TheVariants.{Node, Const}
use Rattle.bv_core.specs.declared.reference.Binding.{Binding}
use Rattle.bv_core.specs.declared.reference.Binding.TheVariants.{Value, Unset, Removed}
use Rattle.tree_core.specs.Tree.{Whole}
use Rattle.tree_core.specs.Fold.{constant}
use Rattle.exec_core.specs.Block.{Name}
use Rattle.exec_core.specs.Kept.{has_number}
use Rattle.design_core.specs.Design.{Design}
use Rattle.net_core.specs.Nodes.{trees_of}
use Rattle.net_core.specs.Nets.{NetParts}
use Rattle.symtab.specs.declared.parts.Row.{Row}
use Rattle.symtab.specs.declared.parts.Slot.{Slot}
use Rattle.symtab.specs.declared.parts.TableParts.{TableParts}
use Rattle.world_core.specs.declared.mode.Mode.{Mode}
use Rattle.world_core.specs.Sites.{Site, sites_in_order, Spot, spots_of}
use Rattle.world_core.specs.Kept.{enable_tree, name_tree, kept_trees}
use Rattle.world_core.proofs.Kept.{number_told, has_told}
use Rattle.lower_core.specs.Shape.{slot_part}
use Rattle.trim_core.specs.Named.{node_names}
use Rattle.trim_core.specs.KeptNet.{node_of, kept_net}
use Rattle.trim_core.specs.KeptTable.{found_as, found_at, name_cell, enable_cell, kept_cell, kept_row, kept_slot, kept_table}
use Rattle.trim_core.specs.Trimmed.{FoundTold, NameTold, NamesTold, RowTold, RowsTold, SlotsTold, bare_slot, IsTrimmed}
use Rattle.trim_table.specs.KeptTables.{CompiledTablesAreKept}
use Rattle.trim_table.proofs.Nodes.{nodes_are, stands_at, stands_in}

module _ (d : Design) (n : ℕ) (mode : Mode) (net : NetParts) (parts : TableParts) (trimmed : IsTrimmed d n mode net parts) where
  abbrev ts : List Whole
  ts = trees_of net.nodes

  -- ---- what is found of a tree

  found_same : (at : Ref) (t : Whole) → FoundTold net.nodes t at → at ≡ found_at ts t
  found_same (Const b) t e = sym (ap (λ o. found_as o ts t) e)
  found_same (Node id width) t h =
      ap₂ (λ (k w : ℕ). Node (record { 0 = k }) w) (sym (stands_at net.nodes trimmed.is_kept.is_net.shared id.0 t h.1.0)) h.1.1
      ∙ sym (ap (λ o. found_as o ts t) h.0)

  -- a tree that is found is a constant or has a number
  found_there : (at : Ref) (t : Whole) → FoundTold net.nodes t at → (is_some (constant t) || has_number t ts) ≡ true
  found_there (Const b) t e = ap (λ o. is_some o || has_number t ts) e
  found_there (Node id width) t h =
      ap (λ o. is_some o || has_number t ts) h.0 ∙ has_told t ts (stands_in net.nodes id.0 t h.1.0)

  -- ---- a name, and a row

  name_same : (o : Option Whole) (cell : Binding) → NameTold d n mode net.nodes o cell → cell ≡ name_cell ts o
  name_same None (Value at) h = absurd h
  name_same None Removed h = absurd h
  name_same None Unset h = refl
  name_same (Some t) Unset h = absurd h
  name_same (Some t) (Value at) h = ap Value (found_same at t h) ∙ sym (ap (λ b. if b then Value (found_at ts t) else Removed) (found_there at t h))
  name_same (Some t) Removed h =
      sym
      (ap (λ o. if is_some o || has_number t ts then Value (found_at ts t) else Removed) h.0
      ∙ ap (λ b. if b then Value (found_at ts t) else Removed) (false_from_ne_true (has_number t ts) (λ k. h.1 ((trimmed.is_kept.kept t).0 (number_told t ts k)))))

  cells_same : (p : Spot) (names : List Name) (cells : List Binding) → NamesTold d n mode net.nodes p names cells → cells ≡ map (kept_cell d n ts p) names
  cells_same p [] [] h = refl
  cells_same p [] (cell ∷ cells) h = absurd h
  cells_same p (x ∷ names) [] h = absurd h
  cells_same p (x ∷ names) (cell ∷ cells) h = ap₂ (λ (c : Binding) (cs : List Binding). c ∷ cs) (name_same (name_tree d n p x) cell h.0) (cells_same p names cells h.1)

  row_same : (p : Spot) (row : Row) → RowTold d n mode net.nodes p row → row ≡ kept_row d n ts p
  row_same p row h =
      let on : row.on ≡ enable_cell ts (enable_tree d n p) = found_same row.on h.enable h.on ∙ sym (ap (enable_cell ts) h.is) in
      let cells : row.cells ≡ map (kept_cell d n ts p) p.0.names = cells_same p p.0.names row.cells h.cells in
      (λ i. record { on = on i; cells = cells i })

  rows_same : (spots : List Spot) (rows : List Row) → RowsTold d n mode net.nodes spots rows → rows ≡ map (kept_row d n ts) spots
  rows_same [] [] h = refl
  rows_same [] (row ∷ rows) h = absurd h
  rows_same (p ∷ spots) [] h = absurd h
  rows_same (p ∷ spots) (row ∷ rows) h = ap₂ (λ (r : Row) (rs : List Row). r ∷ rs) (row_same p row h.0) (rows_same spots rows h.1)

  -- ---- a statement, and all of them

  slot_same : (s : Site) (slot : Slot) → bare_slot slot ≡ slot_part s → RowsTold d n mode net.nodes (spots_of d s) slot.rows → slot ≡ kept_slot d n ts s
  slot_same s slot same h =
      let rows : slot.rows ≡ map (kept_row d n ts) (spots_of d s) = rows_same (spots_of d s) slot.rows h in
      (λ i. record { variant = (same i).variant; line = (same i).line; gens = (same i).gens; names = (same i).names; rows = rows i })

  slots_same : (sites : List Site) (slots : List Slot) → map bare_slot slots ≡ map slot_part sites → SlotsTold d n mode net.nodes sites slots → slots ≡ map (kept_slot d n ts) sites
  slots_same [] [] e h = refl
  slots_same [] (slot ∷ slots) e h = absurd h
  slots_same (s ∷ sites) [] e h = absurd h
  slots_same (s ∷ sites) (slot ∷ slots) e h =
      let head : bare_slot slot ≡ slot_part s = cc in
      let rest : map bare_slot slots ≡ map slot_part sites = cc in
      ap₂ (λ (z : Slot) (zs : List Slot). z ∷ zs) (slot_same s slot head h.0) (slots_same sites slots rest h.1)

  -- ---- the table

  numbered : ts ≡ kept_trees d n mode
  numbered = trimmed.is_kept.numbered

  nodes_same : parts.nodes ≡ node_names (kept_net d n mode).nodes
  nodes_same =
      trimmed.tells.names
      ∙ ap node_names (nodes_are net.nodes trimmed.is_kept.is_net.shared)
      ∙ ap (λ us. node_names (map (node_of us) us)) numbered

  table_slots : parts.slots ≡ map (kept_slot d n (kept_trees d n mode)) (sites_in_order d)
  table_slots =
      slots_same (sites_in_order d) parts.slots (ap (λ (p : TableParts). p.slots) trimmed.tells.shape) trimmed.tells.slots
      ∙ ap (λ us. map (kept_slot d n us) (sites_in_order d)) numbered

  table_same : parts ≡ kept_table d n mode
  table_same = (λ i. record {
    top = (trimmed.tells.shape i).top;
    nodes = nodes_same i;
    variants = (trimmed.tells.shape i).variants;
    instances = (trimmed.tells.shape i).instances;
    slots = table_slots i;
  })

pub compiled_tables_are_kept : CompiledTablesAreKept
compiled_tables_are_kept d n mode net parts trimmed = table_same d n mode net parts trimmed
