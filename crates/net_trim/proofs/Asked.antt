-- The trees of the nodes that are asked for are those that are asked for of the design.
use Rattle.std.proofs.Common.{◌≡◌, ℕ, true, List, [], ◌∷◌, ◌++◌, map, Option, Some, None, option_map, inl, inr, refl, sym, ap, ap₂, ◌∙◌, subst}
use Rattle.std.specs.Prelude.{option_and_then}
use Rattle.std.specs.List.{flat_map}
use Rattle.std.proofs.lemmas.List.{map-append}
use Rattle.bv_core.specs.declared.reference.NodeId.{NodeId}
use Rattle.tree_core.specs.Tree.{Tree, Leaf, Whole}
use Rattle.exec_core.specs.Block.{Name, Now}
use Rattle.list_core.specs.Lists.{EachOf, IsIn}
use Rattle.exec_core.specs.Trees.{Row}
use Rattle.exec_core.specs.Design.{place, folded_tree}
use Rattle.list_core.proofs.Lists.{in_left, in_right}
use Rattle.design_core.specs.Design.{Design}
use Rattle.design_core.specs.Ports.{ports_in, top_signals}
use Rattle.design_exec.specs.Processes.{processes_of}
use Rattle.net_core.specs.Nodes.{Shape, tree_of}
use Rattle.world_core.specs.declared.mode.Mode.{Mode}
use Rattle.world_core.specs.declared.mode.Mode.TheVariants.{Opt, Keep}
use Rattle.world_core.specs.Sites.{Spot, all_spots}
use Rattle.world_core.specs.Kept.{block_row, whole_in, enable_tree, name_tree, listed, enable_trees, name_trees, named_trees, asked_trees}
use Rattle.lower_core.specs.declared.row.FullRow.{FullRow}
use Rattle.lower_core.specs.Rows.{CellTold, CellsTold, RowTold, AreTold}
use Rattle.lower_core.specs.Lowered.{OutputsTold}
use Rattle.walk_net.specs.Next.{tree_by, trees_by}
use Rattle.walk_net.specs.Renaming.{IsNode}
use Rattle.walk_net.specs.Answer.{IsRoot}
use Rattle.net_trim.specs.Roots.{id_of, on_of, cell_ids, row_ids, named_ids, root_ids}

module _ (d : Design) (n : ℕ) (nodes : List Shape) where
  -- ---- outputs

  outputs_trees : (ports outputs : List (Name × ℕ)) → OutputsTold d n nodes ports outputs → map (tree_by nodes) (map id_of outputs) ≡ map (λ (port : Name × ℕ). folded_tree (processes_of d) n (Leaf (place 0 port.0))) ports
  outputs_trees [] [] h = refl
  outputs_trees [] (o ∷ outputs) h = absurd h
  outputs_trees (p ∷ ports) [] h = absurd h
  outputs_trees (p ∷ ports) (o ∷ outputs) h = ap₂ (λ (t : Whole) ts. t ∷ ts) h.0.stands.tree (outputs_trees ports outputs h.1)

  outputs_nodes : (ports outputs : List (Name × ℕ)) → OutputsTold d n nodes ports outputs → EachOf (IsNode nodes) (map id_of outputs)
  outputs_nodes [] [] h = tt
  outputs_nodes [] (o ∷ outputs) h = absurd h
  outputs_nodes (p ∷ ports) [] h = absurd h
  outputs_nodes (p ∷ ports) (o ∷ outputs) h = (h.0.stands.within, outputs_nodes ports outputs h.1)

  -- ---- enables

  pub enable_is : (p : Spot) (row : FullRow) (told : RowTold d n nodes p.0 p.1 row) → enable_tree d n p ≡ Some (whole_in d n p.1 told.on.tree)
  enable_is p row told =
      ap (λ (o : Option Row). option_map (whole_in d n p.1) (option_and_then (λ (r : Row). r.enable) o)) told.is ∙ ap (option_map (whole_in d n p.1)) told.on.is

  enables_trees : (spots : List Spot) (rows : List FullRow) → AreTold d n nodes spots rows → map (tree_by nodes) (map on_of rows) ≡ enable_trees d n spots
  enables_trees [] [] h = refl
  enables_trees [] (row ∷ rows) h = absurd h
  enables_trees (p ∷ spots) [] h = absurd h
  enables_trees (p ∷ spots) (row ∷ rows) h =
      ap₂ (λ (t : Whole) ts. t ∷ ts) h.0.on.stands.tree (enables_trees spots rows h.1)
      ∙ ap (λ o. listed o ++ enable_trees d n spots) (sym (enable_is p row h.0))

  enables_nodes : (spots : List Spot) (rows : List FullRow) → AreTold d n nodes spots rows → EachOf (IsNode nodes) (map on_of rows)
  enables_nodes [] [] h = tt
  enables_nodes [] (row ∷ rows) h = absurd h
  enables_nodes (p ∷ spots) [] h = absurd h
  enables_nodes (p ∷ spots) (row ∷ rows) h = (h.0.on.stands.within, enables_nodes spots rows h.1)

  -- ---- cells

  pub name_is : (p : Spot) (row : Row) → block_row p.0 ≡ Some row → (x : Name) → name_tree d n p x ≡ option_map (whole_in d n p.1) (row.before (Now x))
  name_is p row is x = ap (λ (o : Option Row). option_map (whole_in d n p.1) (option_and_then (λ (r : Row). r.before (Now x)) o)) is

  cells_trees : (p : Spot) (row : Row) → block_row p.0 ≡ Some row → (names : List Name) (cells : List (Option NodeId)) → CellsTold d n nodes p.1 row names cells
      → map (tree_by nodes) (cell_ids cells) ≡ flat_map (λ x. listed (name_tree d n p x)) names
  cells_trees p row is [] [] h = refl
  cells_trees p row is [] (cell ∷ cells) h = absurd h
  cells_trees p row is (x ∷ names) [] h = absurd h
  cells_trees p row is (x ∷ names) (cell ∷ cells) h =
      by_cell (row.before (Now x)) refl cell h.0 (cells_trees p row is names cells h.1)
    where
      by_cell : (o : Option (Tree Name)) → row.before (Now x) ≡ o → (cell : Option NodeId) → CellTold d n nodes p.1 o cell → map (tree_by nodes) (cell_ids cells) ≡ flat_map (λ y. listed (name_tree d n p y)) names
          → map (tree_by nodes) (cell_ids (cell ∷ cells)) ≡ listed (name_tree d n p x) ++ flat_map (λ y. listed (name_tree d n p y)) names
      by_cell None e None g rest = rest ∙ ap (λ o. listed o ++ flat_map (λ y. listed (name_tree d n p y)) names) (sym (name_is p row is x ∙ ap (option_map (whole_in d n p.1)) e))
      by_cell None e (Some id) g rest = absurd g
      by_cell (Some t) e None g rest = absurd g
      by_cell (Some t) e (Some id) g rest =
          ap₂ (λ (u : Whole) us. u ∷ us) g.tree rest
          ∙ ap (λ o. listed o ++ flat_map (λ y. listed (name_tree d n p y)) names) (sym (name_is p row is x ∙ ap (option_map (whole_in d n p.1)) e))

  cells_nodes : (i : ℕ) (row : Row) (names : List Name) (cells : List (Option NodeId)) → CellsTold d n nodes i row names cells → EachOf (IsNode nodes) (cell_ids cells)
  cells_nodes i row [] [] h = tt
  cells_nodes i row [] (cell ∷ cells) h = absurd h
  cells_nodes i row (x ∷ names) [] h = absurd h
  cells_nodes i row (x ∷ names) (cell ∷ cells) h = by_cell (row.before (Now x)) cell h.0 (cells_nodes i row names cells h.1)
    where
      by_cell : (o : Option (Tree Name)) (cell : Option NodeId) → CellTold d n nodes i o cell → EachOf (IsNode nodes) (cell_ids cells) → EachOf (IsNode nodes) (cell_ids (cell ∷ cells))
      by_cell None None g rest = rest
      by_cell None (Some id) g rest = absurd g
      by_cell (Some t) None g rest = absurd g
      by_cell (Some t) (Some id) g rest = (g.within, rest)

  rows_trees : (spots : List Spot) (rows : List FullRow) → AreTold d n nodes spots rows → map (tree_by nodes) (flat_map row_ids rows) ≡ name_trees d n spots
  rows_trees [] [] h = refl
  rows_trees [] (row ∷ rows) h = absurd h
  rows_trees (p ∷ spots) [] h = absurd h
  rows_trees (p ∷ spots) (row ∷ rows) h =
      map-append (tree_by nodes) (cell_ids row.cells) (flat_map row_ids rows)
      ∙ ap₂ (λ (a b : List Whole). a ++ b) (cells_trees p h.0.row h.0.is p.0.names row.cells h.0.cells) (rows_trees spots rows h.1)

  each_append : (a b : List NodeId) → EachOf (IsNode nodes) a → EachOf (IsNode nodes) b → EachOf (IsNode nodes) (a ++ b)
  each_append [] b h g = g
  each_append (x ∷ a) b h g = (h.0, each_append a b h.1 g)

  rows_nodes : (spots : List Spot) (rows : List FullRow) → AreTold d n nodes spots rows → EachOf (IsNode nodes) (flat_map row_ids rows)
  rows_nodes [] [] h = tt
  rows_nodes [] (row ∷ rows) h = absurd h
  rows_nodes (p ∷ spots) [] h = absurd h
  rows_nodes (p ∷ spots) (row ∷ rows) h = each_append (cell_ids row.cells) (flat_map row_ids rows) (cells_nodes p.1 h.0.row p.0.names row.cells h.0.cells) (rows_nodes spots rows h.1)

  -- ---- all of them

  named_same : (mode : Mode) (rows : List FullRow) → AreTold d n nodes (all_spots d) rows → map (tree_by nodes) (named_ids mode rows) ≡ named_trees d n mode
  named_same Opt rows h = refl
  named_same Keep rows h = rows_trees (all_spots d) rows h

  named_nodes : (mode : Mode) (rows : List FullRow) → AreTold d n nodes (all_spots d) rows → EachOf (IsNode nodes) (named_ids mode rows)
  named_nodes Opt rows h = tt
  named_nodes Keep rows h = rows_nodes (all_spots d) rows h

  pub asked_are : (outputs : List (Name × ℕ)) → OutputsTold d n nodes (ports_in true (top_signals d)) outputs → (mode : Mode) (rows : List FullRow) → AreTold d n nodes (all_spots d) rows
      → trees_by nodes (root_ids outputs mode rows) ≡ asked_trees d n mode
  asked_are outputs o mode rows h =
      map-append (tree_by nodes) (map id_of outputs) (map on_of rows ++ named_ids mode rows)
      ∙ ap₂ (λ (a b : List Whole). a ++ b) (outputs_trees (ports_in true (top_signals d)) outputs o)
      (map-append (tree_by nodes) (map on_of rows) (named_ids mode rows) ∙ ap₂ (λ (a b : List Whole). a ++ b) (enables_trees (all_spots d) rows h) (named_same mode rows h))

  pub asked_nodes : (outputs : List (Name × ℕ)) → OutputsTold d n nodes (ports_in true (top_signals d)) outputs → (mode : Mode) (rows : List FullRow) → AreTold d n nodes (all_spots d) rows
      → EachOf (IsNode nodes) (root_ids outputs mode rows)
  asked_nodes outputs o mode rows h =
      each_append (map id_of outputs) (map on_of rows ++ named_ids mode rows) (outputs_nodes (ports_in true (top_signals d)) outputs o)
      (each_append (map on_of rows) (named_ids mode rows) (enables_nodes (all_spots d) rows h) (named_nodes mode rows h))

-- the outputs are among them
pub outputs_asked : (nodes : List Shape) (outputs : List (List ℕ × ℕ)) (mode : Mode) (rows : List FullRow) → EachOf (IsRoot nodes (trees_by nodes (root_ids outputs mode rows))) outputs
outputs_asked nodes outputs mode rows = each outputs outputs (λ t i. i)
  where
    among : (some : List (List ℕ × ℕ)) (o : List ℕ × ℕ) → IsIn o some → IsIn (tree_of nodes o.1) (map (tree_by nodes) (map id_of some))
    among [] o i = i
    among (x ∷ some) o (inl e) = inl (ap (λ (p : List ℕ × ℕ). tree_of nodes p.1) e)
    among (x ∷ some) o (inr i) = inr (among some o i)

    there : (o : List ℕ × ℕ) → IsIn o outputs → IsIn (tree_of nodes o.1) (trees_by nodes (root_ids outputs mode rows))
    there o i =
        subst (λ ts. IsIn (tree_of nodes o.1) ts) (sym (map-append (tree_by nodes) (map id_of outputs) (map on_of rows ++ named_ids mode rows)))
        (in_left (tree_of nodes o.1) (map (tree_by nodes) (map id_of outputs)) (map (tree_by nodes) (map on_of rows ++ named_ids mode rows)) (among outputs o i))

    each : (some all : List (List ℕ × ℕ)) → ((o : List ℕ × ℕ) → IsIn o some → IsIn o outputs) → EachOf (IsRoot nodes (trees_by nodes (root_ids outputs mode rows))) some
    each [] all h = tt
    each (o ∷ some) all h = (there o (h o (inl refl)), each some all (λ p i. h p (inr i)))

-- and so are the enables
pub enable_asked : (nodes : List Shape) (outputs : List (List ℕ × ℕ)) (mode : Mode) (rows : List FullRow) (row : FullRow) → IsIn row rows → IsIn (tree_of nodes row.on.0) (trees_by nodes (root_ids outputs mode rows))
enable_asked nodes outputs mode rows row i =
    subst (λ ts. IsIn (tree_of nodes row.on.0) ts) (sym (map-append (tree_by nodes) (map id_of outputs) (map on_of rows ++ named_ids mode rows)))
    (in_right (tree_of nodes row.on.0) (map (tree_by nodes) (map id_of outputs)) (map (tree_by nodes) (map on_of rows ++ named_ids mode rows))
    (subst (λ ts. IsIn (tree_of nodes row.on.0) ts) (sym (map-append (tree_by nodes) (map on_of rows) (named_ids mode rows)))
    (in_left (tree_of nodes row.on.0) (map (tree_by nodes) (map on_of rows)) (map (tree_by nodes) (named_ids mode rows)) (among rows i))))
  where
    among : (some : List FullRow) → IsIn row some → IsIn (tree_of nodes row.on.0) (map (tree_by nodes) (map on_of some))
    among [] i = i
    among (x ∷ some) (inl e) = inl (ap (λ (r : FullRow). tree_of nodes r.on.0) e)
    among (x ∷ some) (inr i) = inr (among some i)
