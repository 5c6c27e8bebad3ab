-- One more node, unless it is there: equal trees keep one id.
use Rattle.std.proofs.Common.{◌≡◌, ℕ, zero, suc, ◌+◌, ◌<◌, ◌≤◌, ◌⊎◌, inl, inr, ⊎_elim, Bool, true, false, ◌||◌, List, [], ◌∷◌, ◌++◌, length, get_or, slice_get, Some, if◌then◌else◌, refl, sym, ap, ap₂, ◌∙◌, subst, arith, length-append}
use Rattle.std.specs.List.{list_any}
use Rattle.std.proofs.Math.Seq.{get_or-append_seam}
use Rattle.std.proofs.Math.ListN.{get_or-append}
use Rattle.std.proofs.lemmas.Bool.{cases_lt}
use Rattle.tree_core.specs.Tree as tree
use Rattle.tree_core.specs.Width.{IsWhole}
use Rattle.tree_core.specs.Fold.{same_tree, same_origin, folded}
use Rattle.tree_core.proofs.Same.{tests_trees}
use Rattle.net_core.specs.Nodes.{Shape, Fixed, TopInput, Register, OfOne, OfTwo, OfMux, same_shape, no_shape, shape_at, tree_at, node_tree, trees_of, tree_of, OperandsBelow}
use Rattle.net_core.specs.Builder.{has_tree, Stands, HaveOneIdEach, AreFolded, AreShared, Keeps, Adds}
use Rattle.net_core.specs.Same.{same_shape-Decides}
use Rattle.net_core.proofs.TreeLists.{at_front, at_last, trees_push, trees_length, tree_is}

-- ---- tests of some element

or_right : (b c : Bool) → c ≡ true → (b || c) ≡ true
or_right true c e = refl
or_right false c e = e

or_left : (b c : Bool) → b ≡ true → (b || c) ≡ true
or_left true c e = refl
or_left false c e = cc

pub any_at : {X : Type 0} (p : X → Bool) (d : X) (xs : List X) (i : ℕ) → i < length xs → p (get_or xs i d) ≡ true → list_any p xs ≡ true
any_at p d [] i h e = absurd (omega arith)
any_at p d (x ∷ xs) zero h e = or_left (p x) (list_any p xs) e
any_at p d (x ∷ xs) (suc i) h e = or_right (p x) (list_any p xs) (any_at p d xs i (omega arith) e)

record Somewhere {X : Type 0} (p : X → Bool) (d : X) (xs : List X) : Type 0 where
  place : ℕ
  within : place < length xs
  passes : p (get_or xs place d) ≡ true

where_step : {X : Type 0} (p : X → Bool) (d x : X) (xs : List X) (b : Bool) → p x ≡ b → (list_any p xs ≡ true → Somewhere p d xs) → (b || list_any p xs) ≡ true → Somewhere p d (x ∷ xs)
where_step p d x xs true e rest h = record { place = 0; within = omega arith; passes = e }
where_step p d x xs false e rest h =
    let s = rest h in
    let l : s.place < length xs = s.within in
    record { place = suc s.place; within = omega arith; passes = s.passes }

any_where : {X : Type 0} (p : X → Bool) (d : X) (xs : List X) → list_any p xs ≡ true → Somewhere p d xs
any_where p d [] h = cc
any_where p d (x ∷ xs) h = where_step p d x xs (p x) refl (any_where p d xs) h

-- ---- a node is known by its tree

pub below_more : (k m : ℕ) → k ≤ m → (n : Shape) → OperandsBelow k n → OperandsBelow m n
below_more k m l (Fixed b) h = tt
below_more k m l (TopInput name width) h = tt
below_more k m l (Register instance name start) h = tt
below_more k m l (OfOne op a) h = omega arith
below_more k m l (OfTwo op a b) h = (omega arith, omega arith)
below_more k m l (OfMux c a b) h = (omega arith, omega arith, omega arith)

known_by_tree : (ts : List tree.Whole) → HaveOneIdEach ts → (n m : Shape) → OperandsBelow (length ts) n → OperandsBelow (length ts) m → node_tree ts n ≡ node_tree ts m → n ≡ m
known_by_tree ts h (Fixed a) (Fixed b) p q e = let s : a ≡ b = cc in ap Fixed s
known_by_tree ts h (TopInput x v) (TopInput y w) p q e =
    let o : ◌≡◌ {A = tree.Origin} (tree.Input x v) (tree.Input y w) = cc in
    let s : x ≡ y = cc in
    let t : v ≡ w = cc in
    ap₂ TopInput s t
known_by_tree ts h (Register i x b) (Register j y c) p q e =
    let o : ◌≡◌ {A = tree.Origin} (tree.Register i x b) (tree.Register j y c) = cc in
    let s : i ≡ j = cc in
    let t : x ≡ y = cc in
    let u : b ≡ c = cc in
    λ k. Register (s k) (t k) (u k)
known_by_tree ts h (OfOne o a) (OfOne r b) p q e =
    let s : o ≡ r = cc in
    let t : tree_at ts a ≡ tree_at ts b = cc in
    ap₂ OfOne s (h.one a b p q t)
known_by_tree ts h (OfTwo o a b) (OfTwo r c d) p q e =
    let s : o ≡ r = cc in
    let t : tree_at ts a ≡ tree_at ts c = cc in
    let u : tree_at ts b ≡ tree_at ts d = cc in
    λ i. OfTwo (s i) (h.one a c p.0 q.0 t i) (h.one b d p.1 q.1 u i)
known_by_tree ts h (OfMux a b c) (OfMux d f g) p q e =
    let s : tree_at ts a ≡ tree_at ts d = cc in
    let t : tree_at ts b ≡ tree_at ts f = cc in
    let u : tree_at ts c ≡ tree_at ts g = cc in
    λ i. OfMux (h.one a d p.0 q.0 s i) (h.one b f p.1 q.1 t i) (h.one c g p.2 q.2 u i)
known_by_tree ts h _ _ p q e = cc

-- ---- the nodes with one more, which goes last unless it is among them

abbrev pub with_shape : List Shape → Shape → List Shape
with_shape ns s = if list_any (same_shape s) ns then ns else ns ++ s ∷ []

-- what one more node makes of a builder's
pub record Placed (old new : List Shape) (id : ℕ) (t : tree.Whole) : Type 0 where
  pub stands : Stands new id t
  pub adds : Adds old new t
  pub keeps : Keeps old new
  pub shared : AreShared new

-- a node that may be put
pub record Fits (ns : List Shape) (s : Shape) : Type 0 where
  pub below : OperandsBelow (length ns) s
  pub whole : IsWhole (node_tree (trees_of ns) s)
  pub folded_already : folded (node_tree (trees_of ns) s) ≡ node_tree (trees_of ns) s

tree_shape : (ns : List Shape) → AreShared ns → (s : Shape) → OperandsBelow (length ns) s → (j : ℕ) → j < length ns → node_tree (trees_of ns) s ≡ tree_of ns j → s ≡ shape_at ns j
tree_shape ns g s op j l e =
    let len = sym (trees_length ns) in
    known_by_tree (trees_of ns) g.trees.one_id s (shape_at ns j)
    (subst (λ k. OperandsBelow k s) len op)
    (subst (λ k. OperandsBelow k (shape_at ns j)) len (below_more j (length ns) (omega arith) (shape_at ns j) (g.numbered.below j l)))
    (e ∙ tree_is ns g.numbered j l)

pub keeps_itself : (ns : List Shape) → Keeps ns ns
keeps_itself ns = record { longer = omega arith; same = λ i l. refl }

found : (ns : List Shape) (s : Shape) (i : ℕ) → AreShared ns → i < length ns → shape_at ns i ≡ s → Placed ns ns i (node_tree (trees_of ns) s)
found ns s i g l e =
    let ts = trees_of ns in
    let t = node_tree ts s in
    let is : tree_of ns i ≡ t = tree_is ns g.numbered i l ∙ ap (node_tree ts) e in
    let there : has_tree t ts ≡ true =
    any_at (same_tree same_origin t) (tree.Const (record { width = 1; value = 0 })) ts i (omega (arith, trees_length ns)) ((tests_trees t (tree_of ns i)).1 (sym is)) in
    record {
      stands = record { within = l; tree = is };
      adds = sym (ap (λ b. if b then ts else ts ++ t ∷ []) there);
      keeps = keeps_itself ns;
      shared = g;
    }

module _ (ns : List Shape) (s : Shape) (g : AreShared ns) (f : Fits ns s) (fresh : list_any (same_shape s) ns ≡ false) where
  grown : length (ns ++ s ∷ []) ≡ length ns + 1
  grown = length-append ns (s ∷ [])

  len : length (trees_of ns) ≡ length ns
  len = trees_length ns

  last_or : (j : ℕ) → j < length (ns ++ s ∷ []) → (j < length ns) ⊎ (j ≡ length ns)
  last_or j h = ⊎_elim inl (λ le. inr (let e : j ≡ length ns = omega (arith, grown) in e)) (cases_lt j (length ns))

  old_tree : (j : ℕ) → j < length ns → tree_of (ns ++ s ∷ []) j ≡ tree_of ns j
  old_tree j h = ap (λ v. tree_at v j) (trees_push ns s) ∙ at_front (trees_of ns) (node_tree (trees_of ns) s ∷ []) j (omega (arith, len))

  new_tree : (j : ℕ) → j ≡ length ns → tree_of (ns ++ s ∷ []) j ≡ node_tree (trees_of ns) s
  new_tree j e = ap (tree_of (ns ++ s ∷ [])) (e ∙ sym len) ∙ ap (λ v. tree_at v (length (trees_of ns))) (trees_push ns s) ∙ at_last (trees_of ns) (node_tree (trees_of ns) s)

  old_shape : (j : ℕ) → j < length ns → shape_at (ns ++ s ∷ []) j ≡ shape_at ns j
  old_shape j h = get_or-append ns (s ∷ []) no_shape j h

  new_shape : (j : ℕ) → j ≡ length ns → shape_at (ns ++ s ∷ []) j ≡ s
  new_shape j e = ap (shape_at (ns ++ s ∷ [])) e ∙ get_or-append_seam ns s [] no_shape

  -- the new tree is none of the old
  other : (j : ℕ) → j < length ns → node_tree (trees_of ns) s ≡ tree_of ns j → ⊥
  other j l e =
      let same : s ≡ shape_at ns j = tree_shape ns g s f.below j l e in
      let there : list_any (same_shape s) ns ≡ true = any_at (same_shape s) no_shape ns j l ((same_shape-Decides s (shape_at ns j)).1 same) in
      cc

  not_there : (b : Bool) → has_tree (node_tree (trees_of ns) s) (trees_of ns) ≡ b → b ≡ false
  not_there false e = refl
  not_there true e =
      let w = any_where (same_tree same_origin (node_tree (trees_of ns) s)) (tree.Const (record { width = 1; value = 0 })) (trees_of ns) e in
      let l : w.place < length (trees_of ns) = w.within in
      absurd (other w.place (omega (arith, len)) ((tests_trees (node_tree (trees_of ns) s) (tree_of ns w.place)).0 w.passes))

  added : Adds ns (ns ++ s ∷ []) (node_tree (trees_of ns) s)
  added =
      trees_push ns s
      ∙ sym (ap (λ b. if b then trees_of ns else trees_of ns ++ node_tree (trees_of ns) s ∷ []) (not_there (has_tree (node_tree (trees_of ns) s) (trees_of ns)) refl))

  numbered : (j : ℕ) → j < length (ns ++ s ∷ []) → OperandsBelow j (shape_at (ns ++ s ∷ []) j)
  numbered j h = ⊎_elim
      (λ l. subst (OperandsBelow j) (sym (old_shape j l)) (g.numbered.below j l))
      (λ e. subst (OperandsBelow j) (sym (new_shape j e)) (subst (λ k. OperandsBelow k s) (sym e) f.below))
      (last_or j h)

  apart : (i j : ℕ) → i < length (ns ++ s ∷ []) → j < length (ns ++ s ∷ []) → tree_of (ns ++ s ∷ []) i ≡ tree_of (ns ++ s ∷ []) j → i ≡ j
  apart i j p q e = ⊎_elim
      (λ l. ⊎_elim (λ k. g.trees.one_id.one i j (omega (arith, len)) (omega (arith, len)) (sym (old_tree i l) ∙ e ∙ old_tree j k)) (λ k. absurd (other i l (sym (new_tree j k) ∙ sym e ∙ old_tree i l))) (last_or j q))
      (λ l. ⊎_elim (λ k. absurd (other j k (sym (new_tree i l) ∙ e ∙ old_tree j k))) (λ k. l ∙ sym k) (last_or j q))
      (last_or i p)

  all_trees : AreFolded (trees_of (ns ++ s ∷ []))
  all_trees =
      let more = trees_length (ns ++ s ∷ []) in
      record {
        whole = λ j h. ⊎_elim
            (λ l. subst IsWhole (sym (old_tree j l)) (g.trees.whole j (omega (arith, len))))
            (λ e. subst IsWhole (sym (new_tree j e)) f.whole)
            (last_or j (omega (arith, more)));
        folded_already = λ j h. ⊎_elim
            (λ l. subst (λ u. folded u ≡ u) (sym (old_tree j l)) (g.trees.folded_already j (omega (arith, len))))
            (λ e. subst (λ u. folded u ≡ u) (sym (new_tree j e)) f.folded_already)
            (last_or j (omega (arith, more)));
        one_id = record { one = λ i j p q e. apart i j (omega (arith, more)) (omega (arith, more)) e };
      }

  new_placed : (i : ℕ) → i ≡ length ns → Placed ns (ns ++ s ∷ []) i (node_tree (trees_of ns) s)
  new_placed i e = record {
    stands = record { within = omega (arith, grown); tree = new_tree i e };
    adds = added;
    keeps = record { longer = omega (arith, grown); same = old_tree };
    shared = record { numbered = record { below = numbered }; trees = all_trees };
  }

-- what a look-up by place says
pub got : (ns : List Shape) (i : ℕ) (s : Shape) → slice_get ns i ≡ Some s → (i < length ns) × (shape_at ns i ≡ s)
got [] i s e = cc
got (n ∷ ns) zero s e = (omega arith, let p : n ≡ s = cc in p)
got (n ∷ ns) (suc i) s e = let r = got ns i s e in let l : i < length ns = r.0 in (omega arith, r.1)

at_the_end : (ns : List Shape) (s : Shape) (i : ℕ) → list_any (same_shape s) ns ≡ false → slice_get (ns ++ s ∷ []) i ≡ Some s → i ≡ length ns
at_the_end ns s i fresh e =
    let r = got (ns ++ s ∷ []) i s e in
    let h : i < length (ns ++ s ∷ []) = r.0 in
    ⊎_elim
    (λ l. let there : list_any (same_shape s) ns ≡ true = any_at (same_shape s) no_shape ns i l ((same_shape-Decides s (shape_at ns i)).1 (sym (sym (get_or-append ns (s ∷ []) no_shape i l) ∙ r.1))) in cc)
    (λ le. let e : i ≡ length ns = omega (arith, length-append ns (s ∷ [])) in e)
    (cases_lt i (length ns))

placed_by : (ns : List Shape) (s : Shape) (i : ℕ) (b : Bool) → AreShared ns → Fits ns s → list_any (same_shape s) ns ≡ b → slice_get (if b then ns else ns ++ s ∷ []) i ≡ Some s → Placed ns (if b then ns else ns ++ s ∷ []) i (node_tree (trees_of ns) s)
placed_by ns s i true g f e h = let r = got ns i s h in found ns s i g r.0 r.1
placed_by ns s i false g f e h = new_placed ns s g f e i (at_the_end ns s i e h)

-- a node that is put stands where a look-up finds it
pub placed : (ns new : List Shape) (s : Shape) (i : ℕ) → AreShared ns → Fits ns s → new ≡ with_shape ns s → slice_get new i ≡ Some s → Placed ns new i (node_tree (trees_of ns) s)
placed ns new s i g f e h =
    subst (λ v. Placed ns v i (node_tree (trees_of ns) s)) (sym e)
    (placed_by ns s i (list_any (same_shape s) ns) g f refl (ap (λ v. slice_get v i) (sym e) ∙ h))
