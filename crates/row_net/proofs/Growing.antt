-- Cells and rows that grow while the builder does.
use Rattle.std.proofs.Common.{◌≡◌, ℕ, ◌+◌, ◌<◌, List, [], ◌∷◌, ◌++◌, length, take, get_or, Option, Some, None, refl, sym, ap, ◌∙◌, subst, append_assoc}
use Rattle.std.specs.Borrow.{Bor}
use Rattle.std.proofs.lemmas.List.{map_push}
use Rattle.std.proofs.lemmas.Option.{slice_get_read}
use Rattle.bv_core.specs.declared.reference.NodeId.{NodeId}
use Rattle.tree_core.specs.Tree.{Tree, Whole}
use Rattle.exec_core.specs.Block.{Name}
use Rattle.list_core.specs.Lists.{EachOf}
use Rattle.net_core.specs.Nodes.{Shape}
use Rattle.net_core.specs.Builder.{Keeps}
use Rattle.block_net.specs.declared.term.Term.{Term}
use Rattle.check_exec.proofs.Facts.{each_at}
use Rattle.place_core.specs.Assigned.{names_at}
use Rattle.term_net.specs.Growth.{AreNodes, Grown}
use Rattle.term_net.specs.Leaves.{leaf_id, leaf_tree}
use Rattle.term_net.specs.Memos.{Fits}
use Rattle.term_net.proofs.Fitting.{stands_more, leaves_same}
use Rattle.lower_core.specs.declared.row.FullRow.{FullRow}
use Rattle.list_core.proofs.Growing.{more_of}
use Rattle.ssa_core.proofs.Places.{get_map}
use Rattle.ssa_nodes.specs.Held.{CanHaveNode, NodeTold}
use Rattle.row_net.specs.Told.{Names, NameRow, RowReady, CellsHave, EnableHas, RowHas, RowsHave, CellsPut, RowsPut}

-- ---- names, one after another

pub names_more : (names : List (Bor Name)) (i : ℕ) (y : Bor Name) → i < length names → y ≡ get_or names i y → names_at (take (i + 1) names) ≡ names_at (take i names) ++ y.now ∷ []
names_more names i y below at = ap names_at (more_of names i y below at) ∙ map_push (λ (r : Bor Name). r.now) (take i names) y

pub name_at : (P : Name → Type 0) (names : List (Bor Name)) (i : ℕ) (y : Bor Name) → i < length names → y ≡ get_or names i y → EachOf P (names_at names) → P y.now
name_at P names i y below at h = each_at P (names_at names) i y.now (get_map (λ (r : Bor Name). r.now) names i y (slice_get_read names (length names) i y refl below at)) h

-- ---- a builder that grows

module _ (old new : List Shape) (places : Name → Option ℕ) (nodes : List (Option NodeId)) (keeps : Keeps old new) (are : AreNodes old nodes) where
  same_leaves : leaf_tree new places nodes ≡ leaf_tree old places nodes
  same_leaves = leaves_same old new places nodes keeps are

  module _ (leaves : Name → Whole) where
    cell_more : (t : Option (Tree Name)) (cell : Option NodeId) → NodeTold old leaves t cell → NodeTold new leaves t cell
    cell_more None None h = h
    cell_more None (Some id) h = h
    cell_more (Some t) None h = h
    cell_more (Some t) (Some id) h = stands_more old new id.0 _ keeps h

    cells_more : (trees : Names) (names : List Name) (cells : List (Option NodeId)) → CellsHave old leaves trees names cells → CellsHave new leaves trees names cells
    cells_more trees [] [] h = h
    cells_more trees [] (cell ∷ cells) h = h
    cells_more trees (x ∷ names) [] h = h
    cells_more trees (x ∷ names) (cell ∷ cells) h = (cell_more (trees x) cell h.0, cells_more trees names cells h.1)

    pub enable_more : (o : Option (Tree Name)) (on : NodeId) → EnableHas old leaves o on → EnableHas new leaves o on
    enable_more o on h = record { tree = h.tree; is = h.is; stands = stands_more old new on.0 _ keeps h.stands }

    rows_more : (i : ℕ) (names : List Name) (rows : List NameRow) (fulls : List FullRow) → RowsHave old leaves i names rows fulls → RowsHave new leaves i names rows fulls
    rows_more i names [] [] h = h
    rows_more i names [] (full ∷ fulls) h = h
    rows_more i names (row ∷ rows) [] h = h
    rows_more i names (row ∷ rows) (full ∷ fulls) h =
        (record { slot = (h.0).slot; instance = (h.0).instance; on = enable_more row.enable full.on (h.0).on; cells = cells_more row.before names full.cells (h.0).cells }, rows_more i names rows fulls h.1)

  pub cells_kept : (trees : Names) (names : List Name) (cells : List (Option NodeId)) → CellsHave old (leaf_tree old places nodes) trees names cells → CellsHave new (leaf_tree new places nodes) trees names cells
  cells_kept trees names cells h = subst (λ leaves. CellsHave new leaves trees names cells) (sym same_leaves) (cells_more (leaf_tree old places nodes) trees names cells h)

  pub enable_kept : (o : Option (Tree Name)) (on : NodeId) → EnableHas old (leaf_tree old places nodes) o on → EnableHas new (leaf_tree new places nodes) o on
  enable_kept o on h = subst (λ leaves. EnableHas new leaves o on) (sym same_leaves) (enable_more (leaf_tree old places nodes) o on h)

  pub rows_kept : (i : ℕ) (names : List Name) (rows : List NameRow) (fulls : List FullRow) → RowsHave old (leaf_tree old places nodes) i names rows fulls → RowsHave new (leaf_tree new places nodes) i names rows fulls
  rows_kept i names rows fulls h = subst (λ leaves. RowsHave new leaves i names rows fulls) (sym same_leaves) (rows_more (leaf_tree old places nodes) i names rows fulls h)

  pub can_kept : (t : Option (Tree Name)) → CanHaveNode (leaf_id places nodes) (leaf_tree old places nodes) t → CanHaveNode (leaf_id places nodes) (leaf_tree new places nodes) t
  can_kept t h = subst (λ leaves. CanHaveNode (leaf_id places nodes) leaves t) (sym same_leaves) h

  pub each_kept : (trees : Names) (names : List Name) → EachOf (λ x. CanHaveNode (leaf_id places nodes) (leaf_tree old places nodes) (trees x)) names → EachOf (λ x. CanHaveNode (leaf_id places nodes) (leaf_tree new places nodes) (trees x)) names
  each_kept trees names h = subst (λ leaves. EachOf (λ x. CanHaveNode (leaf_id places nodes) leaves (trees x)) names) (sym same_leaves) h

  pub ready_kept : (names : List Name) (rows : List NameRow) → EachOf (RowReady (leaf_id places nodes) (leaf_tree old places nodes) names) rows → EachOf (RowReady (leaf_id places nodes) (leaf_tree new places nodes) names) rows
  ready_kept names rows h = subst (λ leaves. EachOf (RowReady (leaf_id places nodes) leaves names) rows) (sym same_leaves) h

-- ---- cells

cells_push : (ns : List Shape) (leaves : Name → Whole) (trees : Names) (names : List Name) (cells : List (Option NodeId)) (x : Name) (cell : Option NodeId) → CellsHave ns leaves trees names cells → NodeTold ns leaves (trees x) cell
    → CellsHave ns leaves trees (names ++ x ∷ []) (cells ++ cell ∷ [])
cells_push ns leaves trees [] [] x cell h g = (g, tt)
cells_push ns leaves trees [] (c ∷ cells) x cell h g = absurd h
cells_push ns leaves trees (y ∷ names) [] x cell h g = absurd h
cells_push ns leaves trees (y ∷ names) (c ∷ cells) x cell h g = (h.0, cells_push ns leaves trees names cells x cell h.1 g)

pub cell_put : (old new : List Shape) (places : Name → Option ℕ) (nodes : List (Option NodeId)) (terms : List Term) (memo : List (Option NodeId)) (trees : Names) (x : Name) (cell : Option NodeId) (cells after : List (Option NodeId)) →
    Fits old places nodes terms memo → Grown old new → NodeTold new (leaf_tree new places nodes) (trees x) cell → after ≡ cells ++ cell ∷ [] → CellsPut old new places nodes trees (x ∷ []) cells after
cell_put old new places nodes terms memo trees x cell cells after fits g told push before h =
    subst (CellsHave new (leaf_tree new places nodes) trees (before ++ x ∷ [])) (sym push)
    (cells_push new (leaf_tree new places nodes) trees before cells x cell (cells_kept old new places nodes g.keeps fits.leaves trees before cells h) told)

pub cells_then : (a b c : List Shape) (places : Name → Option ℕ) (nodes : List (Option NodeId)) (trees : Names) (xs ys : List Name) (first next last : List (Option NodeId)) → CellsPut a b places nodes trees xs first next →
    CellsPut b c places nodes trees ys next last → CellsPut a c places nodes trees (xs ++ ys) first last
cells_then a b c places nodes trees xs ys first next last p q before h =
    subst (λ l. CellsHave c (leaf_tree c places nodes) trees l last) (append_assoc before xs ys) (q (before ++ xs) (p before h))

-- ---- rows

rows_push : (ns : List Shape) (leaves : Name → Whole) (i : ℕ) (names : List Name) (rows : List NameRow) (fulls : List FullRow) (row : NameRow) (full : FullRow) → RowsHave ns leaves i names rows fulls → RowHas ns leaves i names row full
    → RowsHave ns leaves i names (rows ++ row ∷ []) (fulls ++ full ∷ [])
rows_push ns leaves i names [] [] row full h g = (g, tt)
rows_push ns leaves i names [] (f ∷ fulls) row full h g = absurd h
rows_push ns leaves i names (r ∷ rows) [] row full h g = absurd h
rows_push ns leaves i names (r ∷ rows) (f ∷ fulls) row full h g = (h.0, rows_push ns leaves i names rows fulls row full h.1 g)

pub row_put : (old new : List Shape) (places : Name → Option ℕ) (nodes : List (Option NodeId)) (terms : List Term) (memo : List (Option NodeId)) (i : ℕ) (names : List Name) (row : NameRow) (full : FullRow) (fulls after : List FullRow) →
    Fits old places nodes terms memo → Grown old new → RowHas new (leaf_tree new places nodes) i names row full → after ≡ fulls ++ full ∷ [] → RowsPut old new places nodes i names (row ∷ []) fulls after
row_put old new places nodes terms memo i names row full fulls after fits g has push before h =
    subst (RowsHave new (leaf_tree new places nodes) i names (before ++ row ∷ [])) (sym push)
    (rows_push new (leaf_tree new places nodes) i names before fulls row full (rows_kept old new places nodes g.keeps fits.leaves i names before fulls h) has)
