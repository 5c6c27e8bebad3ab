-- The rows of the table of a compiled design.
use Rattle.std.proofs.Common.{◌≡◌, ℕ, zero, suc, ◌+◌, ◌<◌, ◌^◌, List, [], ◌∷◌, length, Option, Some, None, option_map, refl, sym, ap, ◌∙◌, subst, arith}
use Rattle.std.specs.Prelude.{slice_get, option_and_then, All}
use Rattle.std.specs.List.{enumerate_from}
use Rattle.std.proofs.lemmas.List.Elements.{All-nil, All-cons}
use Rattle.std.proofs.lemmas.Option.{none-some, same_Some, slice_get-map, slice_get-get_or}
use Rattle.bv_core.specs.declared.reference.Ref.{Ref}
use Rattle.bv_core.specs.declared.reference.Ref.TheVariants.{Node, Const}
use Rattle.bv_core.specs.declared.reference.Binding.{Binding}
use Rattle.bv_core.specs.declared.reference.Binding.TheVariants.{Value, Unset, Removed}
use Rattle.tree_core.specs.Tree.{Whole}
use Rattle.tree_core.specs.Width.{tree_width}
use Rattle.exec_core.specs.Block.{Name}
use Rattle.list_core.specs.Lists.{IsIn}
use Rattle.exec_core.specs.Trees.{Row, block_rows, row_at}
use Rattle.exec_core.specs.Paths.{HasTree, RowChecked}
use Rattle.exec_core.specs.Whole.{Place}
use Rattle.exec_core.specs.Design.{moved, signals_of, width_in}
use Rattle.exec_core.specs.Accepted.{Accepted}
use Rattle.list_core.proofs.Lists.{each_member}
use Rattle.exec_core.proofs.Sources.{process_checked}
use Rattle.exec_core.proofs.Moving.{moved_fits}
use Rattle.exec_core.proofs.Folded.{nodes_by_node}
use Rattle.design_core.specs.Design.{Variant, Design}
use Rattle.design_exec.specs.Processes.{process, processes_of}
use Rattle.net_core.specs.Nodes.{Shape, shape_at, no_shape, width_at}
use Rattle.net_core.proofs.Applying.{constant_width}
use Rattle.symtab.specs.declared.parts.NodeName.{NodeName}
use Rattle.symtab.specs.declared.parts.Row as table
use Rattle.symtab.specs.Shape as symtab
use Rattle.symtab.specs.Shape.{IsShort, IsFound, IsCell, IsRow}
use Rattle.check_exec.specs.Premises.{IsSound}
use Rattle.check_exec.proofs.Instances as instances
use Rattle.world_core.specs.declared.mode.Mode.{Mode}
use Rattle.world_core.specs.Sites.{Site, site_body, sites_of, Spot, all_spots}
use Rattle.world_core.specs.Kept.{block_row, whole_in, enable_tree, name_tree}
use Rattle.world_laws.proofs.SitesOf.{SiteIs, sites_are, ordered, spot_is}
use Rattle.world_laws.proofs.Spots.{process_in, process_widths}
use Rattle.trim_core.specs.Named.{named, node_names}
use Rattle.trim_core.specs.Trimmed.{FoundTold, NameTold, NamesTold, RowTold}

mapped_from : {A B : Type 0} (f : A → B) (o : Option A) (b : B) → option_map f o ≡ Some b → (a : A) × ((o ≡ Some a) × (f a ≡ b))
mapped_from f None b e = absurd (none-some b e)
mapped_from f (Some a) b e = (a, (refl, same_Some (f a) b e))

-- ---- the width of an enable

module _ (d : Design) (sound : IsSound d) (order : List Place) (ok : Accepted (processes_of d) order) where
  its_width : (i : ℕ) (v : Variant) (s : Site) → IsIn (process i v.signals s.block) (processes_of d).processes → s.widths ≡ width_in (processes_of d) (process i v.signals s.block) → (row : Row) → block_row s ≡ Some row → (T : Whole) → enable_tree d (length order) (s, i) ≡ Some T → tree_width T ≡ 1
  its_width i v s m wide row is T e =
      let here : option_map (whole_in d (length order) i) row.enable ≡ Some T = sym (ap (λ o. option_map (whole_in d (length order) i) (option_and_then (λ (r : Row). r.enable) o)) is) ∙ e in
      let tree = mapped_from (whole_in d (length order) i) row.enable T here in
      let checked : RowChecked (signals_of (processes_of d) (process i v.signals s.block)) (width_in (processes_of d) (process i v.signals s.block)) (site_body s) row =
      (process_checked (processes_of d) order ok (process i v.signals s.block) m).each_row s.slot row (subst (λ w. row_at s.slot (block_rows w (site_body s)) ≡ Some row) wide is) in
      let has : HasTree (signals_of (processes_of d) (process i v.signals s.block)) (width_in (processes_of d) (process i v.signals s.block)) 1 (Some tree.0) =
      subst (HasTree (signals_of (processes_of d) (process i v.signals s.block)) (width_in (processes_of d) (process i v.signals s.block)) 1) tree.1.0 checked.enable in
      let fits = moved_fits (processes_of d) (process i v.signals s.block) tree.0 has.0 in
      let whole = (nodes_by_node (processes_of d) order ok).fits (moved i tree.0) fits.0 in
      sym (ap tree_width tree.1.1) ∙ whole.1 ∙ fits.1 ∙ has.1

  row_of_enable : (p : Spot) (T : Whole) → enable_tree d (length order) p ≡ Some T → (row : Row) × (block_row p.0 ≡ Some row)
  row_of_enable p T e = by_row (block_row p.0) e
    where
      by_row : (o : Option Row) → option_map (whole_in d (length order) p.1) (option_and_then (λ (row : Row). row.enable) o) ≡ Some T → (row : Row) × (o ≡ Some row)
      by_row (Some row) e = (row, refl)
      by_row None e = absurd (none-some T e)

  pub enable_width : (p : Spot) → IsIn p (all_spots d) → (T : Whole) → enable_tree d (length order) p ≡ Some T → tree_width T ≡ 1
  enable_width p among T e =
      let is = spot_is d p among in
      let alone = ordered d sound.kept p.0 is.site in
      let site = each_member (SiteIs d) (sites_of d) (sites_are d) p.0 alone.among in
      let stands : instances.Stands d p.1 is.of site.of = record { instance = is.at; variant = ap (slice_get d.variants) is.variant ∙ site.at } in
      let row = row_of_enable p T e in
      its_width p.1 site.of p.0 (process_in d p.1 is.of site.of stands p.0.block site.among) (process_widths d sound p.1 is.of p.0 site stands) row.0 row.1 T e

-- ---- what is found

numbered_got : {A : Type 0} (n : ℕ) (xs : List A) (i : ℕ) (x : A) → slice_get xs i ≡ Some x → slice_get (enumerate_from n xs) i ≡ Some (n + i, x)
numbered_got n [] i x e = absurd (none-some x e)
numbered_got n (y ∷ xs) zero x e = ap (λ z. Some (n, z)) (same_Some y x e) ∙ ap (λ k. Some (k, x)) (let z : n ≡ n + 0 = omega arith in z)
numbered_got n (y ∷ xs) (suc i) x e = numbered_got (n + 1) xs i x e ∙ ap (λ k. Some (k, x)) (let z : n + 1 + i ≡ n + suc i = omega arith in z)

module _ (nodes : List Shape) (names : List NodeName) (named_by : names ≡ node_names nodes) where
  node_width : (id : ℕ) → id < length nodes → option_map (λ (node : NodeName). node.width) (slice_get names id) ≡ Some (width_at nodes id)
  node_width id l =
      let there : slice_get nodes id ≡ Some (shape_at nodes id) = slice_get-get_or nodes id no_shape l in
      ap (λ (ns : List NodeName). option_map (λ (node : NodeName). node.width) (slice_get ns id)) named_by
      ∙ ap (option_map (λ (node : NodeName). node.width)) (slice_get-map (named nodes) (enumerate_from 0 nodes) id ∙ ap (option_map (named nodes)) (numbered_got 0 nodes id (shape_at nodes id) there))
      ∙ ap (λ k. Some (width_at nodes k)) (let z : 0 + id ≡ id = omega arith in z)

  found_fits : (t : Whole) (at : Ref) → FoundTold nodes t at → IsFound names at
  found_fits t (Const b) h = tt
  found_fits t (Node id width) h = node_width id.0 h.1.0.within ∙ ap (λ w. Some w) (ap tree_width h.1.0.tree ∙ sym h.1.1)

  found_width : (t : Whole) (at : Ref) → FoundTold nodes t at → symtab.width_of at ≡ tree_width t
  found_width t (Const b) h = sym (constant_width t b h)
  found_width t (Node id width) h = h.1.1

  module _ (d : Design) (n : ℕ) (mode : Mode) where
    cell_fits : (o : Option Whole) (cell : Binding) → NameTold d n mode nodes o cell → IsCell names cell
    cell_fits (Some t) (Value at) h = found_fits t at h
    cell_fits None (Value at) h = absurd h
    cell_fits o Unset h = tt
    cell_fits o Removed h = tt

    cells_fit : (p : Spot) (scope : List Name) (cells : List Binding) → NamesTold d n mode nodes p scope cells → All (IsCell names) cells
    cells_fit p [] [] h = All-nil (IsCell names)
    cells_fit p [] (cell ∷ cells) h = absurd h
    cells_fit p (x ∷ scope) [] h = absurd h
    cells_fit p (x ∷ scope) (cell ∷ cells) h = All-cons (IsCell names) cell cells (cell_fits (name_tree d n p x) cell h.0) (cells_fit p scope cells h.1)

    cells_long : (p : Spot) (scope : List Name) (cells : List Binding) → NamesTold d n mode nodes p scope cells → length cells ≡ length scope
    cells_long p [] [] h = refl
    cells_long p [] (cell ∷ cells) h = absurd h
    cells_long p (x ∷ scope) [] h = absurd h
    cells_long p (x ∷ scope) (cell ∷ cells) h = ap suc (cells_long p scope cells h.1)

    pub row_fits : (p : Spot) → ((T : Whole) → enable_tree d n p ≡ Some T → tree_width T ≡ 1) → IsShort p.0.names → (row : table.Row) → RowTold d n mode nodes p row → IsRow names p.0.names row
    row_fits p one few row told =
        let long = cells_long p p.0.names row.cells told.cells in
        record {
          on = found_fits told.enable row.on told.on;
          on_width = found_width told.enable row.on told.on ∙ one told.enable told.is;
          short = subst (λ k. k < 2 ^ 32) (sym long) few;
          count = long;
          cells = cells_fit p p.0.names row.cells told.cells;
        }
