-- The rows that are made of a lowered design's rows tell the design by the kept nodes.
use Rattle.std.proofs.Common.{◌≡◌, ℕ, ◌+◌, ◌<◌, ◌≤◌, ◌==◌, true, false, List, [], ◌∷◌, ◌++◌, length, map, Option, Some, None, option_map, if◌then◌else◌, inl, inr, refl, sym, ap, ap₂, ◌∙◌, subst, arith, eq-eqb, ne_eqb}
use Rattle.std.specs.Prelude.{is_some, All}
use Rattle.std.specs.List.{flat_map}
use Rattle.std.specs.Option.{ForSome}
use Rattle.std.proofs.lemmas.List.Elements.{All-nil, All-cons}
use Rattle.std.proofs.lemmas.Option.{none-some, same_Some}
use Rattle.bv_core.specs.Value.{Bits}
use Rattle.bv_core.specs.declared.reference.NodeId.{NodeId}
use Rattle.bv_core.specs.declared.reference.Ref.{Ref}
use Rattle.bv_core.specs.declared.reference.Ref.TheVariants.{Node, Const}
use Rattle.tree_core.specs.Tree.{Tree, Whole}
use Rattle.tree_core.specs.Width.{tree_width}
use Rattle.tree_core.specs.Fold.{constant}
use Rattle.exec_core.specs.Block.{Name, Now}
use Rattle.list_core.specs.Lists.{IsIn, from}
use Rattle.exec_core.specs.Trees.{Row}
use Rattle.design_core.specs.Design.{Design}
use Rattle.net_core.specs.Nodes.{Shape, Fixed, TopInput, Register, OfOne, OfTwo, OfMux, shape_at, node_tree, trees_of, tree_of, width_at, AreNumbered}
use Rattle.net_core.specs.Builder.{Stands, constant_shape}
use Rattle.net_core.proofs.TreeLists.{tree_is}
use Rattle.symtab.specs.declared.parts.Row as table
use Rattle.symtab.specs.declared.parts.Slot.{Slot}
use Rattle.world_core.specs.declared.mode.Mode.{Mode}
use Rattle.world_core.specs.Sites.{Site, Spot, spots_of, instances_with}
use Rattle.world_core.specs.Kept.{whole_in, name_tree, IsKeptIn}
use Rattle.lower_core.specs.declared.row.FullRow.{FullRow}
use Rattle.lower_core.specs.Shape.{slot_part}
use Rattle.lower_core.specs.Rows.{CellTold, CellsTold, RowTold, AreTold}
use Rattle.walk_net.specs.Renaming.{id_at}
use Rattle.trim_core.specs.Trimmed as trimmed
use Rattle.trim_core.specs.Trimmed.{FoundTold, NameTold, NamesTold, RowsTold, SlotsTold, bare_slot}
use Rattle.net_trim.specs.Made.{ref_by, ref_made, found_binding, cell_made, IsMade, AreMade, CanBeMade, front_of, rest_of, IsFilled, AreFilled}
use Rattle.list_core.proofs.Listing.{map_in, map_from, flat_from, from_in}
use Rattle.net_trim.proofs.Asked.{enable_is, name_is}

-- ---- where a tree is found

-- a node's new id stands for its tree, which is kept; and one without an id has a tree that is not
pub record AreNewIds (kept : Whole → Type 0) (old new : List Shape) (ids : List (Option NodeId)) : Type 0 where
  pub numbered : AreNumbered old
  pub some : (j : ℕ) (id : NodeId) → j < length old → id_at ids j ≡ Some id → Stands new id.0 (tree_of old j)
  pub none : (j : ℕ) → j < length old → id_at ids j ≡ None → kept (tree_of old j) → ⊥

constant_told : (ts : List Whole) (s : Shape) → constant (node_tree ts s) ≡ constant_shape s
constant_told ts (Fixed b) = refl
constant_told ts (TopInput name width) = refl
constant_told ts (Register instance name start) = refl
constant_told ts (OfOne op a) = refl
constant_told ts (OfTwo op a b) = refl
constant_told ts (OfMux c a b) = refl

module _ (kept : Whole → Type 0) (old new : List Shape) (ids : List (Option NodeId)) (h : AreNewIds kept old new ids) where
  -- a node that stands for a tree is a constant exactly where the tree is
  constant_at : (id : ℕ) (t : Whole) → Stands old id t → constant t ≡ constant_shape (shape_at old id)
  constant_at id t s = ap constant (sym s.tree ∙ tree_is old h.numbered id s.within) ∙ constant_told (trees_of old) (shape_at old id)

  found_told : (id : NodeId) (t : Whole) → Stands old id.0 t → (at : Ref) → ref_made old ids id ≡ Some at → FoundTold new t at
  found_told id t s at e = by_constant (constant_shape (shape_at old id.0)) (constant_at id.0 t s) (id_at ids id.0) refl e
    where
      by_constant : (c : Option Bits) → constant t ≡ c → (o : Option NodeId) → id_at ids id.0 ≡ o → ref_by c o (width_at old id.0) ≡ Some at → FoundTold new t at
      by_constant (Some b) k o i f = subst (FoundTold new t) (same_Some (Const b) at f) k
      by_constant None k (Some new_id) i f =
          let stands = h.some id.0 new_id s.within i in
          subst (FoundTold new t) (same_Some (Node new_id (width_at old id.0)) at f)
          (k, (record { within = stands.within; tree = stands.tree ∙ s.tree }, ap tree_width s.tree))
      by_constant None k None i f = absurd (none-some at f)

  not_found : (id : NodeId) (t : Whole) → Stands old id.0 t → ref_made old ids id ≡ None → (constant t ≡ None) × (kept t → ⊥)
  not_found id t s e = by_constant (constant_shape (shape_at old id.0)) (constant_at id.0 t s) (id_at ids id.0) refl e
    where
      by_constant : (c : Option Bits) → constant t ≡ c → (o : Option NodeId) → id_at ids id.0 ≡ o → ref_by c o (width_at old id.0) ≡ None → (constant t ≡ None) × (kept t → ⊥)
      by_constant (Some b) k o i f = absurd (none-some (Const b) (sym f))
      by_constant None k (Some new_id) i f = absurd (none-some (Node new_id (width_at old id.0)) (sym f))
      by_constant None k None i f = (k, λ g. h.none id.0 s.within i (subst kept (sym s.tree) g))

  -- a kept tree is found
  pub found_kept : (id : NodeId) → id.0 < length old → kept (tree_of old id.0) → is_some (ref_made old ids id) ≡ true
  found_kept id l k = by_constant (constant_shape (shape_at old id.0)) (id_at ids id.0) refl
    where
      by_constant : (c : Option Bits) (o : Option NodeId) → id_at ids id.0 ≡ o → is_some (ref_by c o (width_at old id.0)) ≡ true
      by_constant (Some b) o i = refl
      by_constant None (Some new_id) i = refl
      by_constant None None i = absurd (h.none id.0 l i k)

-- ---- rows

module _ (d : Design) (n : ℕ) (mode : Mode) (old new : List Shape) (ids : List (Option NodeId)) (h : AreNewIds (IsKeptIn d n mode) old new ids) where
  cell_told : (i : ℕ) (o : Option (Tree Name)) (cell : Option NodeId) → CellTold d n old i o cell → NameTold d n mode new (option_map (whole_in d n i) o) (cell_made old ids cell)
  cell_told i None None g = tt
  cell_told i None (Some id) g = absurd g
  cell_told i (Some t) None g = absurd g
  cell_told i (Some t) (Some id) g = by_found (ref_made old ids id) refl
    where
      by_found : (o : Option Ref) → ref_made old ids id ≡ o → NameTold d n mode new (Some (whole_in d n i t)) (found_binding o)
      by_found (Some at) e = found_told (IsKeptIn d n mode) old new ids h id (whole_in d n i t) g at e
      by_found None e = not_found (IsKeptIn d n mode) old new ids h id (whole_in d n i t) g e

  cells_told : (p : Spot) (row : Row) → ((x : Name) → name_tree d n p x ≡ option_map (whole_in d n p.1) (row.before (Now x))) → (names : List Name) (cells : List (Option NodeId)) → CellsTold d n old p.1 row names cells
      → NamesTold d n mode new p names (map (cell_made old ids) cells)
  cells_told p row is [] [] g = tt
  cells_told p row is [] (cell ∷ cells) g = absurd g
  cells_told p row is (x ∷ names) [] g = absurd g
  cells_told p row is (x ∷ names) (cell ∷ cells) g = (
    subst (λ o. NameTold d n mode new o (cell_made old ids cell)) (sym (is x)) (cell_told p.1 (row.before (Now x)) cell g.0),
    cells_told p row is names cells g.1,
  )

  row_told : (p : Spot) (full : FullRow) → RowTold d n old p.0 p.1 full → (row : table.Row) → IsMade old ids full row → trimmed.RowTold d n mode new p row
  row_told p full told row made = record {
    enable = whole_in d n p.1 told.on.tree;
    is = enable_is d n old p full told;
    on = found_told (IsKeptIn d n mode) old new ids h full.on (whole_in d n p.1 told.on.tree) told.on.stands row.on made.on;
    cells = subst (NamesTold d n mode new p p.0.names) (sym made.cells) (cells_told p told.row (name_is d n old p told.row told.is) p.0.names full.cells told.cells);
  }

  rows_told : (spots : List Spot) (rows : List FullRow) → AreTold d n old spots rows → (made : List table.Row) → AreMade old ids rows made → RowsTold d n mode new spots made
  rows_told [] [] g [] m = tt
  rows_told [] [] g (row ∷ made) m = absurd m
  rows_told [] (full ∷ rows) g made m = absurd g
  rows_told (p ∷ spots) [] g made m = absurd g
  rows_told (p ∷ spots) (full ∷ rows) g [] m = absurd m
  rows_told (p ∷ spots) (full ∷ rows) g (row ∷ made) m = (row_told p full g.0 row m.0, rows_told spots rows g.1 made m.1)

  -- ---- the rows of a slot

  record Split (k : ℕ) (spots more : List Spot) (rows : List FullRow) : Type 0 where
    front : AreTold d n old spots (front_of k rows)
    rest : AreTold d n old more (rest_of k rows)

  split : (k : ℕ) (spots more : List Spot) (rows : List FullRow) → ((p : Spot) → IsIn p spots → p.0.slot ≡ k) → ((p : Spot) → IsIn p more → p.0.slot ≡ k → ⊥) → AreTold d n old (spots ++ more) rows → Split k spots more rows
  split k [] [] [] a b g = record { front = tt; rest = tt }
  split k [] [] (row ∷ rows) a b g = absurd g
  split k [] (p ∷ more) [] a b g = absurd g
  split k [] (p ∷ more) (row ∷ rows) a b g =
      let other : (row.slot == k) ≡ false = ne_eqb row.slot k (λ e. b p (inl refl) (sym g.0.slot ∙ e)) in
      record {
        front = subst (AreTold d n old []) (sym (ap (λ t. if t then row ∷ front_of k rows else []) other)) tt;
        rest = subst (AreTold d n old (p ∷ more)) (sym (ap (λ t. if t then rest_of k rows else row ∷ rows) other)) g;
      }
  split k (p ∷ spots) more [] a b g = absurd g
  split k (p ∷ spots) more (row ∷ rows) a b g =
      let here : (row.slot == k) ≡ true = eq-eqb row.slot k (g.0.slot ∙ a p (inl refl)) in
      let later = split k spots more rows (λ q i. a q (inr i)) b g.1 in
      record {
        front = subst (AreTold d n old (p ∷ spots)) (sym (ap (λ t. if t then row ∷ front_of k rows else []) here)) (g.0, later.front);
        rest = subst (AreTold d n old more) (sym (ap (λ t. if t then rest_of k rows else row ∷ rows) here)) later.rest;
      }

  -- ---- slots

  spot_slot : (s : Site) (p : Spot) → IsIn p (spots_of d s) → p.0 ≡ s
  spot_slot s p i = let found = map_from (λ (k : ℕ). (s, k)) (instances_with d s.variant) p i in ap (λ (q : Spot). q.0) found.1.1

  later_slots : (k : ℕ) (sites : List Site) → map (λ (z : Site). z.slot) sites ≡ from (k + 1) (length sites) → (p : Spot) → IsIn p (flat_map (spots_of d) sites) → p.0.slot ≡ k → ⊥
  later_slots k sites e p i same =
      let found = flat_from (spots_of d) sites p i in
      let number : IsIn found.0.slot (from (k + 1) (length sites)) = subst (λ xs. IsIn found.0.slot xs) e (map_in (λ (z : Site). z.slot) sites found.0 found.1.0) in
      let least : k + 1 ≤ found.0.slot = (from_in (k + 1) (length sites) found.0.slot number).0 in
      let equal : found.0.slot ≡ k = sym (ap (λ (z : Site). z.slot) (spot_slot found.0 p found.1.1)) ∙ same in
      too_far k found.0.slot least equal
    where
      too_far : (k m : ℕ) → k + 1 ≤ m → m ≡ k → ⊥
      too_far k m l e = omega arith

  pub slots_told : (k : ℕ) (sites : List Site) → map (λ (z : Site). z.slot) sites ≡ from k (length sites) → (rows : List FullRow) → AreTold d n old (flat_map (spots_of d) sites) rows
      → (filled : List Slot) → AreFilled old ids k rows (map slot_part sites) filled → SlotsTold d n mode new sites filled
  slots_told k [] e rows g [] f = tt
  slots_told k [] e rows g (slot ∷ filled) f = absurd f
  slots_told k (s ∷ sites) e rows g [] f = absurd f
  slots_told k (s ∷ sites) e rows g (slot ∷ filled) f =
      let first : k ≡ s.slot = cc in
      let rest : map (λ (z : Site). z.slot) sites ≡ from (k + 1) (length sites) = cc in
      let parts = split k (spots_of d s) (flat_map (spots_of d) sites) rows (λ p i. ap (λ (z : Site). z.slot) (spot_slot s p i) ∙ sym first) (later_slots k sites rest) g in
      (rows_told (spots_of d s) (front_of k rows) parts.front slot.rows f.0.rows_made, slots_told (k + 1) sites rest (rest_of k rows) parts.rest filled f.1)

  -- ---- what the functions need

  cells_can : (i : ℕ) (row : Row) (names : List Name) (cells : List (Option NodeId)) → CellsTold d n old i row names cells → All (λ cell. ForSome cell (λ (id : NodeId). id.0 < length old)) cells
  cells_can i row [] [] g = All-nil (λ cell. ForSome cell (λ (id : NodeId). id.0 < length old))
  cells_can i row [] (cell ∷ cells) g = absurd g
  cells_can i row (x ∷ names) [] g = absurd g
  cells_can i row (x ∷ names) (cell ∷ cells) g =
      All-cons (λ cell. ForSome cell (λ (id : NodeId). id.0 < length old)) cell cells (one (row.before (Now x)) cell g.0) (cells_can i row names cells g.1)
    where
      one : (o : Option (Tree Name)) (cell : Option NodeId) → CellTold d n old i o cell → ForSome cell (λ (id : NodeId). id.0 < length old)
      one None None g = λ id e. absurd (none-some id e)
      one None (Some id) g = absurd g
      one (Some t) None g = absurd g
      one (Some t) (Some id) g = λ other e. subst (λ (k : NodeId). k.0 < length old) (same_Some id other e) g.within

  pub rows_can : (spots : List Spot) (rows : List FullRow) → AreTold d n old spots rows → ((row : FullRow) → IsIn row rows → IsKeptIn d n mode (tree_of old row.on.0)) → All (CanBeMade old ids) rows
  rows_can [] [] g k = All-nil (CanBeMade old ids)
  rows_can [] (row ∷ rows) g k = absurd g
  rows_can (p ∷ spots) [] g k = absurd g
  rows_can (p ∷ spots) (row ∷ rows) g k =
      All-cons (CanBeMade old ids) row rows (record {
        on = g.0.on.stands.within;
        cells = cells_can p.1 g.0.row p.0.names row.cells g.0.cells;
        found = found_kept (IsKeptIn d n mode) old new ids h row.on g.0.on.stands.within (k row (inl refl));
      }) (rows_can spots rows g.1 (λ r i. k r (inr i)))

-- ---- the shape

pub bare_filled : (ns : List Shape) (ids : List (Option NodeId)) (k : ℕ) (rows : List FullRow) (sites : List Site) (filled : List Slot) → AreFilled ns ids k rows (map slot_part sites) filled → map bare_slot filled ≡ map slot_part sites
bare_filled ns ids k rows [] [] f = refl
bare_filled ns ids k rows [] (slot ∷ filled) f = absurd f
bare_filled ns ids k rows (s ∷ sites) [] f = absurd f
bare_filled ns ids k rows (s ∷ sites) (slot ∷ filled) f =
    ap₂ (λ (x : Slot) xs. x ∷ xs) (same_slot f.0) (bare_filled ns ids (k + 1) (rest_of k rows) sites filled f.1)
  where
    same_slot : IsFilled ns ids (front_of k rows) (slot_part s) slot → bare_slot slot ≡ slot_part s
    same_slot g = λ i. record { variant = g.variant i; line = g.line i; gens = g.gens i; names = g.names i; rows = [] }
