-- Folding leaves no input or register that was not there.
use Rattle.std.proofs.Common.{◌≡◌, ℕ, ◌<◌, Bool, true, false, List, [], ◌∷◌, ◌++◌, length, ⊎_elim, if◌then◌else◌, sym, ap, ◌∙◌, subst, arith, length-append}
use Rattle.std.proofs.lemmas.Bool.{cases_lt}
use Rattle.bv_core.specs.declared.operators.Op1.{Op1}
use Rattle.bv_core.specs.declared.operators.Op2.{Op2}
use Rattle.bv_core.specs.Value.{Bits}
use Rattle.tree_core.specs.Tree.{Tree, Const, Leaf, One, Two, Mux, Origin, Whole}
use Rattle.tree_core.specs.Width.{width_of, origin_width}
use Rattle.tree_core.specs.Fold.{same_tree, same_origin, constant, Outcome, Value, First, Second, Third, Itself, one_outcome, two_outcome, mux_outcome, taken, fold, folded}
use Rattle.exec_core.specs.Leaves.{EachLeaf}
use Rattle.net_core.specs.Nodes.{Shape, tree_at, trees_of, tree_of}
use Rattle.net_core.specs.Builder.{has_tree, AreShared, Keeps, Adds}
use Rattle.net_core.proofs.TreeLists.{trees_length, at_front, at_last}
use Rattle.net_core.proofs.Sharing.{keeps_itself}
use Rattle.term_net.specs.Growth.{AreOver, Grown}

taken_over : {A : Type 0} (P : A → Type 0) (o : Outcome) (a b c t : Tree A) → EachLeaf P a → EachLeaf P b → EachLeaf P c → EachLeaf P t → EachLeaf P (taken o a b c t)
taken_over P (Value v) a b c t p q r s = tt
taken_over P First a b c t p q r s = p
taken_over P Second a b c t p q r s = q
taken_over P Third a b c t p q r s = r
taken_over P Itself a b c t p q r s = s

-- a folded tree is over no other leaves
fold_over : {A : Type 0} (same : A → A → Bool) (ws : A → ℕ) (P : A → Type 0) (t : Tree A) → EachLeaf P t → EachLeaf P (fold same ws t)
fold_over same ws P (Const b) h = tt
fold_over same ws P (Leaf x) h = h
fold_over same ws P (One op a) h =
    let f = fold same ws a in
    let p = fold_over same ws P a h in
    taken_over P (one_outcome op (width_of ws f) (constant f)) f f f (One op f) p p p p
fold_over same ws P (Two op a b) h =
    let f = fold same ws a in
    let g = fold same ws b in
    let p = fold_over same ws P a h.0 in
    let q = fold_over same ws P b h.1 in
    taken_over P (two_outcome op (constant f) (constant g)) f g g (Two op f g) p q q (p, q)
fold_over same ws P (Mux c a b) h =
    let e = fold same ws c in
    let f = fold same ws a in
    let g = fold same ws b in
    let r = fold_over same ws P c h.0 in
    let p = fold_over same ws P a h.1 in
    let q = fold_over same ws P b h.2 in
    taken_over P (mux_outcome (constant e) (constant f) (constant g) (same_tree same f g)) e f g (Mux e f g) r p q (r, p, q)

pub folded_over : (P : Origin → Type 0) (t : Whole) → EachLeaf P t → EachLeaf P (folded t)
folded_over P t h = fold_over same_origin origin_width P t h

-- ---- one more tree

EachOver : (Origin → Type 0) → List Whole → Type 0
EachOver P ts = (j : ℕ) → j < length ts → EachLeaf P (tree_at ts j)

push_over : (P : Origin → Type 0) (ts : List Whole) (t : Whole) → EachOver P ts → EachLeaf P t → EachOver P (ts ++ t ∷ [])
unfolding EachOver
push_over P ts t h p j l =
    ⊎_elim
    (λ k. subst (EachLeaf P) (sym (at_front ts (t ∷ []) j k)) (h j k))
    (λ k. let e : j ≡ length ts = omega (arith, length-append ts (t ∷ [])) in subst (EachLeaf P) (sym (ap (tree_at (ts ++ t ∷ [])) e ∙ at_last ts t)) p)
    (cases_lt j (length ts))

with_over : (P : Origin → Type 0) (b : Bool) (ts : List Whole) (t : Whole) → EachOver P ts → EachLeaf P t → EachOver P (if b then ts else ts ++ t ∷ [])
with_over P true ts t h p = h
with_over P false ts t h p = push_over P ts t h p

-- a tree over what a builder's trees are over, put into it
pub adds_over : (old new : List Shape) (t : Whole) → Adds old new t → (p : Origin → Bool) → (AreOver p old → EachLeaf (λ o. p o ≡ true) t) → AreOver p old → AreOver p new
unfolding EachOver
adds_over old new t a p over h j l =
    let P : Origin → Type 0 = λ o. p o ≡ true in
    let all : EachOver P (trees_of old) = λ i k. h i (omega (arith, trees_length old)) in
    let more : EachOver P (trees_of new) = subst (EachOver P) (sym a) (with_over P (has_tree t (trees_of old)) (trees_of old) t all (over h)) in
    more j (omega (arith, trees_length new))

-- ---- what a builder's calls leave

module _ (old new : List Shape) (shared : AreShared new) (keeps : Keeps old new) where
  pub grown_constant : (b : Bits) → Adds old new (Const b) → Grown old new
  grown_constant b a = record { shared = shared; keeps = keeps; over = λ p. adds_over old new (Const b) a p (λ h. tt) }

  pub grown_one : (op : Op1) (a : ℕ) → a < length old → Adds old new (folded (One op (tree_of old a))) → Grown old new
  grown_one op a l s = record {
    shared = shared;
    keeps = keeps;
    over = λ p. adds_over old new _ s p (λ h. folded_over (λ o. p o ≡ true) (One op (tree_of old a)) (h a l));
  }

  pub grown_two : (op : Op2) (a b : ℕ) → a < length old → b < length old → Adds old new (folded (Two op (tree_of old a) (tree_of old b))) → Grown old new
  grown_two op a b l m s = record {
    shared = shared;
    keeps = keeps;
    over = λ p. adds_over old new _ s p (λ h. folded_over (λ o. p o ≡ true) (Two op (tree_of old a) (tree_of old b)) (h a l, h b m));
  }

  pub grown_mux : (c a b : ℕ) → c < length old → a < length old → b < length old → Adds old new (folded (Mux (tree_of old c) (tree_of old a) (tree_of old b))) → Grown old new
  grown_mux c a b k l m s = record {
    shared = shared;
    keeps = keeps;
    over = λ p. adds_over old new _ s p (λ h. folded_over (λ o. p o ≡ true) (Mux (tree_of old c) (tree_of old a) (tree_of old b)) (h c k, h a l, h b m));
  }

-- ---- growth

pub grown_none : (ns : List Shape) → AreShared ns → Grown ns ns
grown_none ns g = record { shared = g; keeps = keeps_itself ns; over = λ p h. h }

pub keeps_twice : (a b c : List Shape) → Keeps a b → Keeps b c → Keeps a c
keeps_twice a b c x y = record {
  longer = let p = x.longer in let q = y.longer in omega arith;
  same = λ i l. y.same i (let p = x.longer in omega arith) ∙ x.same i l;
}

pub grown_twice : (a b c : List Shape) → Grown a b → Grown b c → Grown a c
grown_twice a b c x y = record { shared = y.shared; keeps = keeps_twice a b c x.keeps y.keeps; over = λ p h. y.over p (x.over p h) }
