-- What rows tell stays told as the builder grows, behind others, and sorted by slots.
use Rattle.std.proofs.Common.{◌≡◌, ℕ, ◌==◌, Bool, true, false, cond, List, [], ◌∷◌, ◌++◌, Option, Some, None, sym, ap}
use Rattle.std.specs.Prelude.{filter}
use Rattle.std.specs.List.{flat_map}
use Rattle.bv_core.specs.declared.reference.NodeId.{NodeId}
use Rattle.tree_core.specs.Tree.{Tree}
use Rattle.exec_core.specs.Block.{Name, Now}
use Rattle.exec_core.specs.Trees.{Row}
use Rattle.design_core.specs.Design.{Design}
use Rattle.list_core.specs.Lists.{from}
use Rattle.net_core.specs.Nodes.{Shape}
use Rattle.net_core.specs.Builder.{Keeps}
use Rattle.world_core.specs.Sites.{Site, Spot}
use Rattle.term_net.proofs.Fitting.{stands_more}
use Rattle.lower_core.specs.declared.row.FullRow.{FullRow}
use Rattle.lower_core.specs.Rows.{CellTold, CellsTold, RowTold, AreTold}
use Rattle.row_net.specs.Spots.{is_row_of, rows_at, sorted_rows}
use Rattle.row_net.proofs.Transposed.{is_spot_of, sorted_spots}

module _ (d : Design) (n : ℕ) where
  -- ---- a builder that grows

  module _ (old new : List Shape) (keeps : Keeps old new) where
    cell_more : (i : ℕ) (t : Option (Tree Name)) (cell : Option NodeId) → CellTold d n old i t cell → CellTold d n new i t cell
    cell_more i None None h = h
    cell_more i None (Some id) h = h
    cell_more i (Some t) None h = h
    cell_more i (Some t) (Some id) h = stands_more old new id.0 _ keeps h

    cells_more : (i : ℕ) (row : Row) (names : List Name) (cells : List (Option NodeId)) → CellsTold d n old i row names cells → CellsTold d n new i row names cells
    cells_more i row [] [] h = h
    cells_more i row [] (cell ∷ cells) h = h
    cells_more i row (x ∷ names) [] h = h
    cells_more i row (x ∷ names) (cell ∷ cells) h = (cell_more i (row.before (Now x)) cell h.0, cells_more i row names cells h.1)

    row_more : (site : Site) (i : ℕ) (full : FullRow) → RowTold d n old site i full → RowTold d n new site i full
    row_more site i full h = record {
      slot = h.slot;
      instance = h.instance;
      row = h.row;
      is = h.is;
      on = record { tree = (h.on).tree; is = (h.on).is; stands = stands_more old new (full.on).0 _ keeps (h.on).stands };
      cells = cells_more i h.row site.names full.cells h.cells;
    }

    pub told_more : (spots : List Spot) (rows : List FullRow) → AreTold d n old spots rows → AreTold d n new spots rows
    told_more [] [] h = h
    told_more [] (row ∷ rows) h = h
    told_more (spot ∷ spots) [] h = h
    told_more (spot ∷ spots) (row ∷ rows) h = (row_more spot.0 spot.1 row h.0, told_more spots rows h.1)

  -- ---- behind others, and sorted

  module _ (ns : List Shape) where
    pub told_both : (spots others : List Spot) (rows more : List FullRow) → AreTold d n ns spots rows → AreTold d n ns others more → AreTold d n ns (spots ++ others) (rows ++ more)
    told_both [] others [] more h g = g
    told_both [] others (row ∷ rows) more h g = absurd h
    told_both (spot ∷ spots) others [] more h g = absurd h
    told_both (spot ∷ spots) others (row ∷ rows) more h g = (h.0, told_both spots others rows more h.1 g)

    told_filtered : (k : ℕ) (spots : List Spot) (rows : List FullRow) → AreTold d n ns spots rows → AreTold d n ns (filter (is_spot_of k) spots) (filter (is_row_of k) rows)
    told_filtered k [] [] h = h
    told_filtered k [] (row ∷ rows) h = absurd h
    told_filtered k (spot ∷ spots) [] h = absurd h
    told_filtered k (spot ∷ spots) (row ∷ rows) h = by_test (is_spot_of k spot) (is_row_of k row) (ap (λ (j : ℕ). j == k) (sym (h.0).slot)) (told_filtered k spots rows h.1)
      where
        by_test : (a b : Bool) → a ≡ b → AreTold d n ns (filter (is_spot_of k) spots) (filter (is_row_of k) rows)
            → AreTold d n ns (cond a (spot ∷ filter (is_spot_of k) spots) (filter (is_spot_of k) spots)) (cond b (row ∷ filter (is_row_of k) rows) (filter (is_row_of k) rows))
        by_test true true e g = (h.0, g)
        by_test false false e g = g
        by_test true false e g = cc
        by_test false true e g = cc

    told_flat : (ks : List ℕ) (spots : List Spot) (rows : List FullRow) → AreTold d n ns spots rows → AreTold d n ns (flat_map (λ k. filter (is_spot_of k) spots) ks) (flat_map (rows_at rows) ks)
    told_flat [] spots rows h = tt
    told_flat (k ∷ ks) spots rows h =
        told_both (filter (is_spot_of k) spots) (flat_map (λ j. filter (is_spot_of j) spots) ks) (rows_at rows k) (flat_map (rows_at rows) ks) (told_filtered k spots rows h) (told_flat ks spots rows h)

    pub told_sorted : (count : ℕ) (spots : List Spot) (rows : List FullRow) → AreTold d n ns spots rows → AreTold d n ns (sorted_spots count spots) (sorted_rows count rows)
    told_sorted count spots rows h = told_flat (from 0 count) spots rows h
