-- In an accepted design the rows of each block can have nodes, and these stand for the folded whole trees of the rows.
use Rattle.std.proofs.Common.{◌≡◌, ℕ, true, List, [], ◌∷◌, map, Option, Some, None, IsSome, refl, sym, ◌∙◌, subst}
use Rattle.bv_core.specs.declared.reference.NodeId.{NodeId}
use Rattle.tree_core.specs.Tree.{Tree, Const, Leaf, One, Two, Mux, Whole}
use Rattle.tree_core.specs.Width.{WellFormed, tree_width}
use Rattle.exec_core.specs.Block.{Name, Now, body_slots}
use Rattle.exec_core.specs.Leaves.{EachLeaf}
use Rattle.list_core.specs.Lists.{EachOf, IsIn, AreApart}
use Rattle.exec_core.specs.Whole.{Place}
use Rattle.exec_core.specs.Trees.{Row, block_rows}
use Rattle.exec_core.specs.Paths.{HasTree, TreeFits}
use Rattle.exec_core.specs.Design.{Process, moved, signals_of, width_in, folded_tree}
use Rattle.exec_core.specs.States.{NodeByNode}
use Rattle.exec_core.specs.Accepted.{Accepted}
use Rattle.list_core.proofs.Lists.{each_from}
use Rattle.exec_core.proofs.Moving.{moved_fits, good_leaves}
use Rattle.exec_core.proofs.Sources.{process_checked, block_apart}
use Rattle.exec_core.proofs.Wholes.{each_leaf}
use Rattle.design_core.specs.declared.design.Instance.{Instance}
use Rattle.design_core.specs.Design.{Variant, Block, Design}
use Rattle.design_core.specs.Slots.{scope}
use Rattle.design_exec.specs.Processes.{process, processes_of, body_of, is_signal_of}
use Rattle.net_core.specs.Nodes.{Shape}
use Rattle.net_core.specs.Builder.{AreShared, Stands}
use Rattle.check_exec.proofs.Facts.{each_map}
use Rattle.check_exec.proofs.Instances.{Stands as StandsThere}
use Rattle.place_core.specs.Numbering.{Numbers}
use Rattle.term_net.specs.Leaves.{leaf_id, leaf_tree, whole_of, IsReady}
use Rattle.world_core.specs.Sites.{Site}
use Rattle.lower_core.specs.declared.row.FullRow.{FullRow}
use Rattle.lower_core.specs.Rows.{CellTold, CellsTold, EnableTold, RowTold, AreTold}
use Rattle.ssa_nodes.specs.State as states
use Rattle.ssa_nodes.specs.State.{HasNode, SignalsTold}
use Rattle.ssa_nodes.specs.Held.{CanHaveNode, NodeTold}
use Rattle.ssa_nodes.proofs.Placed.{folds_to, ready_from}
use Rattle.row_net.specs.Spots.{at_instance}
use Rattle.row_net.specs.Told.{name_row, names_in, RowReady, CellsHave, EnableHas, RowHas, RowsHave}
use Rattle.row_net.proofs.Aligned.{IsRowOf, Aligned, rows_there}
use Rattle.row_net.proofs.Scopes.{scope_known, process_in}

module _ (d : Design) (n : ℕ) (order : List Place) (ok : Accepted (processes_of d) order) (by : NodeByNode (processes_of d) n) (all : List Numbers) (nodes : List (Option NodeId)) where
  -- ---- rows that can have nodes

  module _ (have : (p : Place) → is_signal_of d p ≡ true → HasNode all nodes p) (ns : List Shape) (shared : AreShared ns) (told : SignalsTold (processes_of d) n all ns nodes)
      (i : ℕ) (r : Instance) (v : Variant) (stands : StandsThere d i r v) (b : Block) (among : IsIn b v.blocks) where
    abbrev ids : Name → Option NodeId
    ids = leaf_id (states.names_in all i) nodes

    abbrev leaves : Name → Whole
    leaves = leaf_tree ns (states.names_in all i) nodes

    abbrev here : Process
    here = process i v.signals b

    tree_ready : (t : Tree Name) → WellFormed (λ x. signals_of (processes_of d) here x ≡ true) (width_in (processes_of d) here) t → IsReady ids leaves t
    tree_ready t formed =
        let fits = moved_fits (processes_of d) here t formed in
        (ready_from (processes_of d) n by all ns nodes shared told i t fits.0
        (each_leaf have (moved i t) (good_leaves (λ p. is_signal_of d p ≡ true) (processes_of d).width (moved i t) fits.0))).0

    enable_ready : (names : List Name) (row : Row) (o : Option (Tree Name)) → row.enable ≡ o → HasTree (signals_of (processes_of d) here) (width_in (processes_of d) here) 1 o
        → EachOf (λ x. CanHaveNode ids leaves (row.before (Now x))) names → RowReady ids leaves names (name_row row)
    enable_ready names row None e h cells = absurd h
    enable_ready names row (Some t) e h cells = record { enable = record { tree = t; is = e; ready = tree_ready t h.0 }; cells = cells }

    cell_ready : (w : ℕ) (o : Option (Tree Name)) → TreeFits (signals_of (processes_of d) here) (width_in (processes_of d) here) w o → CanHaveNode ids leaves o
    cell_ready w None h = tt
    cell_ready w (Some t) h = tree_ready t h.0

    in_processes : IsIn here (processes_of d).processes
    in_processes = process_in d i r v stands b among

    pub slots_apart : AreApart (body_slots (body_of b.clocked b.body))
    slots_apart = block_apart (processes_of d) order ok here in_processes

    row_ready : (row : Row) → IsIn row (block_rows (width_in (processes_of d) here) (body_of b.clocked b.body)) → RowReady ids leaves (scope v b) (name_row row)
    row_ready row inside =
        let checked = (process_checked (processes_of d) order ok here in_processes).each_row row.slot row (rows_there (width_in (processes_of d) here) b slots_apart row inside) in
        enable_ready (scope v b) row row.enable refl checked.enable
        (each_from (λ x. CanHaveNode ids leaves (row.before (Now x))) (scope v b)
        (λ x at. cell_ready (width_in (processes_of d) here x) (row.before (Now x)) (checked.trees (Now x) (scope_known d i r v stands b x at))))

    pub rows_ready : EachOf (RowReady ids leaves (scope v b)) (map name_row (block_rows (width_in (processes_of d) (process i v.signals b)) (body_of b.clocked b.body)))
    rows_ready = each_map (RowReady ids leaves (scope v b)) name_row (block_rows (width_in (processes_of d) here) (body_of b.clocked b.body)) row_ready

  -- ---- what nodes of rows tell

  module _ (ns : List Shape) (shared : AreShared ns) (told : SignalsTold (processes_of d) n all ns nodes) (i : ℕ) (leaves : Name → Whole) where
    abbrev numbers : Name → Option NodeId
    numbers = leaf_id (states.names_in all i) nodes

    abbrev trees : Name → Whole
    trees = leaf_tree ns (states.names_in all i) nodes

    leaves_known : (t : Tree Name) → EachLeaf (λ x. IsSome (numbers x)) t → EachLeaf (HasNode all nodes) (moved i t)
    leaves_known (Const b) h = tt
    leaves_known (Leaf x) h = h
    leaves_known (One op a) h = leaves_known a h
    leaves_known (Two op a b) h = (leaves_known a h.0, leaves_known b h.1)
    leaves_known (Mux c a b) h = (leaves_known c h.0, leaves_known a h.1, leaves_known b h.2)

    tree_told : (t : Tree Name) (id : NodeId) → IsReady numbers leaves t → Stands ns id.0 (whole_of trees t) → Stands ns id.0 (folded_tree (processes_of d) n (moved i t))
    tree_told t id ready s = record {
      within = s.within;
      tree = s.tree ∙ folds_to (processes_of d) n by all ns nodes shared told i t (leaves_known t (good_leaves (λ x. IsSome (numbers x)) (λ x. tree_width (leaves x)) t ready));
    }

    cell_told : (o : Option (Tree Name)) (cell : Option NodeId) → CanHaveNode numbers leaves o → NodeTold ns trees o cell → CellTold d n ns i o cell
    cell_told None None can h = h
    cell_told None (Some id) can h = h
    cell_told (Some t) None can h = h
    cell_told (Some t) (Some id) can h = tree_told t id can h

    cells_told : (row : Row) (names : List Name) (cells : List (Option NodeId)) → EachOf (λ x. CanHaveNode numbers leaves (row.before (Now x))) names
        → CellsHave ns trees (names_in row.before) names cells → CellsTold d n ns i row names cells
    cells_told row [] [] can h = h
    cells_told row [] (cell ∷ cells) can h = h
    cells_told row (x ∷ names) [] can h = h
    cells_told row (x ∷ names) (cell ∷ cells) can h = (cell_told (row.before (Now x)) cell can.0 h.0, cells_told row names cells can.1 h.1)

    enable_told : (row : Row) (on : NodeId) (names : List Name) → RowReady numbers leaves names (name_row row) → EnableHas ns trees row.enable on → EnableTold d n ns i row on
    enable_told row on names ready h =
        let same : (ready.enable).tree ≡ h.tree = (let a = (ready.enable).is in let b = h.is in let c : Some (ready.enable).tree ≡ Some h.tree = sym a ∙ b in cc) in
        record { tree = h.tree; is = h.is; stands = tree_told h.tree on (subst (IsReady numbers leaves) same (ready.enable).ready) h.stands }

    row_told : (names : List Name) (site : Site) (row : Row) (full : FullRow) → IsRowOf names site row → RowReady numbers leaves names (name_row row) → RowHas ns trees i names (name_row row) full → RowTold d n ns site i full
    row_told names site row full of ready h = record {
      slot = h.slot ∙ of.slot;
      instance = h.instance;
      row = row;
      is = of.is;
      on = enable_told row full.on names ready h.on;
      cells = subst (λ l. CellsTold d n ns i row l full.cells) (sym of.scope) (cells_told row names full.cells ready.cells h.cells);
    }

    pub rows_told : (names : List Name) (sites : List Site) (rows : List Row) (fulls : List FullRow) → Aligned names sites rows → EachOf (RowReady numbers leaves names) (map name_row rows)
        → RowsHave ns trees i names (map name_row rows) fulls → AreTold d n ns (at_instance i sites) fulls
    rows_told names [] [] [] aligned ready h = tt
    rows_told names [] [] (full ∷ fulls) aligned ready h = absurd h
    rows_told names [] (row ∷ rows) fulls aligned ready h = absurd aligned
    rows_told names (site ∷ sites) [] fulls aligned ready h = absurd aligned
    rows_told names (site ∷ sites) (row ∷ rows) [] aligned ready h = absurd h
    rows_told names (site ∷ sites) (row ∷ rows) (full ∷ fulls) aligned ready h = (row_told names site row full aligned.0 ready.0 h.0, rows_told names sites rows fulls aligned.1 ready.1 h.1)
