-- The form of an expression stands for its tree, where each name has its place.
use Rattle.std.proofs.Common.{◌≡◌, ℕ, zero, suc, List, [], ◌∷◌, ◌++◌, length, take, drop, get_or, map, reverse, Option, Some, unwrap_or, refl, sym, ap, ap₂, subst, ◌∙◌, ◌<◌, ◌≤◌, ◌+◌, ◌-◌, arith}
use Rattle.std.proofs.lemmas.List.{reverse-append, take_more, take_rest}
use Rattle.std.specs.Prelude.{slice_get}
use Rattle.bv_core.specs.declared.Op1.TheVariants as op1
use Rattle.bv_core.specs.declared.Ref.{Ref}
use Rattle.bv_core.specs.declared.Ref.TheVariants as ref
use Rattle.names.specs.Known.{Begins}
use Rattle.tree_core.specs.Tree.{Tree, Leaf, One, Two, Mux}
use Rattle.gen_tree.specs.Tree.{Expr, read, out, value, unary, binary, mux, zext, slice}
use Rattle.gen_text.specs.declared.pieces.Piece.{Piece}
use Rattle.gen_text.specs.declared.pieces.Piece.TheVariants as piece
use Rattle.gen_text.specs.Pieces.{with_piece, exprs_of}
use Rattle.gen_text.proofs.Piles.{one_behind}
use Rattle.cond_lang.specs.declared.form.Part.{Part}
use Rattle.cond_lang.specs.declared.form.Part.TheVariants as part
use Rattle.cond_lang.specs.Names.{Name, number, fam_name, output_name}
use Rattle.cond_lang.specs.Meaning.{unary_of, binary_of, tree_of}
use Rattle.cond_lang.specs.Bound.{mapped, IsRef}
use Rattle.cond_lang.specs.Form.{Seat, place_in, names_in, all_names, noted_by, first_tree, grown, trees, seats, seated, seats_of, part_of}
use Rattle.cond_lang.specs.Places.{ref_at, AreRefs, tree_at}
use Rattle.cond_lang.proofs.Names.{found_at, begins_first}

-- ---- trees over other leaves

first_mapped : {A B : Type 0} (f : A → B) (ts : List (Tree A)) → first_tree (map (mapped f) ts) ≡ mapped f (first_tree ts)
first_mapped f [] = refl
first_mapped f (t ∷ ts) = refl

with_mapped : {A B : Type 0} (f : A → B) (leaf : Seat → A) (p : Part) (ts : List (Tree A)) → grown (λ s. f (leaf s)) p (map (mapped f) ts) ≡ map (mapped f) (grown leaf p ts)
with_mapped f leaf (part.Const w v) ts = refl
with_mapped f leaf (part.Leaf k n) ts = refl
with_mapped f leaf (part.One o) [] = refl
with_mapped f leaf (part.One o) (a ∷ ts) = refl
with_mapped f leaf (part.Two o) [] = refl
with_mapped f leaf (part.Two o) (a ∷ []) = refl
with_mapped f leaf (part.Two o) (a ∷ b ∷ ts) = refl
with_mapped f leaf part.Mux [] = refl
with_mapped f leaf part.Mux (a ∷ []) = refl
with_mapped f leaf part.Mux (a ∷ b ∷ []) = refl
with_mapped f leaf part.Mux (a ∷ b ∷ c ∷ ts) = refl

trees_mapped : {A B : Type 0} (f : A → B) (leaf : Seat → A) (parts : List Part) → trees (λ s. f (leaf s)) parts ≡ map (mapped f) (trees leaf parts)
trees_mapped f leaf [] = refl
trees_mapped f leaf (p ∷ ps) = ap (grown (λ s. f (leaf s)) p) (trees_mapped f leaf ps) ∙ with_mapped f leaf p (trees leaf ps)

-- the tree at places, by the places of its names
pub tree_mapped : (refs : List Ref) (parts : List Part) → tree_at refs parts ≡ mapped (λ s. ref_at refs s.place) (first_tree (seats parts))
tree_mapped refs parts = ap first_tree (trees_mapped (λ s. ref_at refs s.place) (λ s. s) parts) ∙ first_mapped (λ s. ref_at refs s.place) (seats parts)

-- ---- an expression's names have their places

module _ (r : Name → Ref) (all : List Name) where
  leaf_is : (names : List Name) (x : Name) → Begins (names_in names (Leaf x)) all → ref_at (map r all) (place_in names x) ≡ r x
  leaf_is names x h = ap (λ (o : Option Ref). unwrap_or o (ref.Const (record { width = 0; value = 0 }))) (found_at r names all x h)

  abbrev placed : Tree Seat → Tree Ref
  placed t = mapped (λ s. ref_at (map r all) s.place) t

  pub seated_is : (names : List Name) (e : Expr) → Begins (names_in names (tree_of e)) all → placed (seated names e) ≡ mapped r (tree_of e)
  seated_is names (read f) h = ap Leaf (leaf_is names (fam_name f) h)
  seated_is names (out f q) h = ap Leaf (leaf_is names (output_name f q) h)
  seated_is names (value l) h = refl
  seated_is names (unary o e) h = ap (One (unary_of o)) (seated_is names e h)
  seated_is names (binary o e f) h =
      let second = names_in names (tree_of e) in
      ap₂ (Two (binary_of o)) (seated_is names e (begins_first second all (tree_of f) h)) (seated_is second f h)
  seated_is names (mux e f g) h =
      let second = names_in names (tree_of e) in
      let third = names_in second (tree_of f) in
      λ i. Mux (seated_is names e (begins_first second all (tree_of f) (begins_first third all (tree_of g) h)) i)
      (seated_is second f (begins_first third all (tree_of g) h) i) (seated_is third g h i)
  seated_is names (zext e w) h = ap (One (op1.Zext (number w))) (seated_is names e h)
  seated_is names (slice e hi lo) h = ap (One (op1.Slice (number hi) (number lo))) (seated_is names e h)

-- ---- the parts of pieces

-- the names that a piece leaves
pub names_step : (p : Piece) (es : List Expr) → noted_by (all_names es) p ≡ all_names (with_piece p es)
names_step (piece.Read x i) es = refl
names_step (piece.Out x i q) es = refl
names_step (piece.Value l) es = refl
names_step (piece.Un o) [] = refl
names_step (piece.Un o) (a ∷ es) = refl
names_step (piece.Bin o) [] = refl
names_step (piece.Bin o) (b ∷ []) = refl
names_step (piece.Bin o) (b ∷ a ∷ es) = refl
names_step piece.Mux [] = refl
names_step piece.Mux (b ∷ []) = refl
names_step piece.Mux (b ∷ a ∷ []) = refl
names_step piece.Mux (b ∷ a ∷ c ∷ es) = refl
names_step (piece.Zext w) [] = refl
names_step (piece.Zext w) (a ∷ es) = refl
names_step (piece.Slice h l) [] = refl
names_step (piece.Slice h l) (a ∷ es) = refl

-- the trees that a piece's part leaves
seats_step : (p : Piece) (es : List Expr) → grown (λ s. s) (part_of (all_names es) p) (seats_of es) ≡ seats_of (with_piece p es)
seats_step (piece.Read x i) es = refl
seats_step (piece.Out x i q) es = refl
seats_step (piece.Value l) es = refl
seats_step (piece.Un o) [] = refl
seats_step (piece.Un o) (a ∷ es) = refl
seats_step (piece.Bin o) [] = refl
seats_step (piece.Bin o) (b ∷ []) = refl
seats_step (piece.Bin o) (b ∷ a ∷ es) = refl
seats_step piece.Mux [] = refl
seats_step piece.Mux (b ∷ []) = refl
seats_step piece.Mux (b ∷ a ∷ []) = refl
seats_step piece.Mux (b ∷ a ∷ c ∷ es) = refl
seats_step (piece.Zext w) [] = refl
seats_step (piece.Zext w) (a ∷ es) = refl
seats_step (piece.Slice h l) [] = refl
seats_step (piece.Slice h l) (a ∷ es) = refl

-- one more piece, with its part behind the others
pub one_part : (parts more : List Part) (ps : List Piece) (i : ℕ) (q : Piece) (p : Part) (names : List Name) → i < length ps → q ≡ get_or ps i q → more ≡ parts ++ p ∷ [] → p ≡ part_of names q
    → names ≡ all_names (exprs_of (take i ps)) → seats (reverse parts) ≡ seats_of (exprs_of (take i ps)) → seats (reverse more) ≡ seats_of (exprs_of (take (i + 1) ps))
one_part parts more ps i q p names below is more_is part_is names_is before =
    ap (λ (l : List Part). seats (reverse l)) more_is
    ∙ ap seats (reverse-append parts (p ∷ []))
    ∙ ap₂ (λ (p : Part) (ts : List (Tree Seat)). grown (λ s. s) p ts) (part_is ∙ ap (λ (names : List Name). part_of names q) names_is) before
    ∙ seats_step q (exprs_of (take i ps))
    ∙ ap seats_of (sym (one_behind (take i ps) q) ∙ ap exprs_of (ap (λ (q : Piece). take i ps ++ q ∷ []) is ∙ sym (take_more ps i q below)))

pub one_name : (ps : List Piece) (i : ℕ) (q : Piece) (names more : List Name) → i < length ps → q ≡ get_or ps i q → more ≡ noted_by names q → names ≡ all_names (exprs_of (take i ps)) → more ≡ all_names (exprs_of (take (i + 1) ps))
one_name ps i q names more below is more_is names_is =
    more_is ∙ ap (λ (names : List Name). noted_by names q) names_is ∙ names_step q (exprs_of (take i ps))
    ∙ ap all_names (sym (one_behind (take i ps) q) ∙ ap exprs_of (ap (λ (q : Piece). take i ps ++ q ∷ []) is ∙ sym (take_more ps i q below)))

pub headed : {A : Type 0} (leaf : Seat → A) (parts : List Part) (d p : Part) → 1 ≤ length parts → get_or parts 0 d ≡ p → trees leaf parts ≡ grown leaf p (trees leaf (take (length parts - 1) (drop 1 parts)))
headed leaf [] d p h e = absurd (omega arith)
headed leaf (q ∷ ps) d p h e = ap₂ (λ (p : Part) (rest : List Part). grown leaf p (trees leaf rest)) e (sym (take_rest (q ∷ ps) 1))

-- ---- places

pub refs_pushed : (refs : List Ref) (at : Ref) → AreRefs refs → IsRef at → AreRefs (refs ++ at ∷ [])
refs_pushed [] at all is = (is, tt)
refs_pushed (one ∷ refs) at all is = (all.0, refs_pushed refs at all.1 is)

pub ref_is : (refs : List Ref) → AreRefs refs → (n : ℕ) (at : Ref) → slice_get refs n ≡ Some at → IsRef at
ref_is [] all n at e = absurd cc
ref_is (one ∷ refs) all zero at e = let same : one ≡ at = cc in subst IsRef same all.0
ref_is (one ∷ refs) all (suc n) at e = ref_is refs all.1 n at e
