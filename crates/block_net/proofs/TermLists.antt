-- The trees of numbered terms.
use Rattle.std.proofs.Common.{◌≡◌, ℕ, suc, ◌+◌, ◌<◌, List, [], ◌∷◌, ◌++◌, length, Option, Some, None, refl, sym, ap, ap₂, ◌∙◌, subst, arith, append_assoc, append-nil, zero, get_or}
use Rattle.std.proofs.lemmas.List.{length-append}
use Rattle.std.proofs.Math.Seq.{get_or-append_seam}
use Rattle.std.proofs.Math.ListN.{get_or-append}
use Rattle.bv_core.specs.declared.operators.Op1.TheVariants as op1
use Rattle.tree_core.specs.Tree as tree
use Rattle.tree_core.specs.Tree.{Tree}
use Rattle.design_exec.specs.Processes.{unary_of, binary_of}
use Rattle.design_core.specs.Widths.{bits}
use Rattle.block_net.specs.declared.term.Term.TheVariants as terms
use Rattle.exec_core.specs.Block.{Name}
use Rattle.block_net.specs.declared.term.Term.{Term}
use Rattle.block_net.specs.declared.term.TermId.{TermId}
use Rattle.block_net.specs.Terms.{no_tree, tree_at, term_tree, trees_from, trees_of, tree_for, IsWithin, Stands, OperandsBelow, AreFrom, AreNumbered, Extends}

at_front : (ts us : List (Tree Name)) (i : ℕ) → i < length ts → tree_at (ts ++ us) i ≡ tree_at ts i
at_front ts us i h = get_or-append ts us no_tree i h

at_last : (ts : List (Tree Name)) (t : Tree Name) → tree_at (ts ++ t ∷ []) (length ts) ≡ t
at_last ts t = get_or-append_seam ts t [] no_tree

from_append : (ts : List (Tree Name)) (ns more : List Term) → trees_from ts (ns ++ more) ≡ trees_from (trees_from ts ns) more
unfolding trees_from
from_append ts [] more = refl
from_append ts (n ∷ ns) more = from_append (ts ++ term_tree ts n ∷ []) ns more

from_one : (ts : List (Tree Name)) (n : Term) → trees_from ts (n ∷ []) ≡ ts ++ term_tree ts n ∷ []
unfolding trees_from
from_one ts n = refl

from_length : (ts : List (Tree Name)) (ns : List Term) → length (trees_from ts ns) ≡ length ts + length ns
unfolding trees_from
from_length ts [] = omega arith
from_length ts (n ∷ ns) = omega (arith, from_length (ts ++ term_tree ts n ∷ []) ns, length-append ts (term_tree ts n ∷ []))

pub trees_length : (ns : List Term) → length (trees_of ns) ≡ length ns
trees_length ns = omega (arith, from_length [] ns)

from_keeps : (ts : List (Tree Name)) (ns : List Term) (i : ℕ) → i < length ts → tree_at (trees_from ts ns) i ≡ tree_at ts i
unfolding trees_from
from_keeps ts [] i h = refl
from_keeps ts (n ∷ ns) i h =
    from_keeps (ts ++ term_tree ts n ∷ []) ns i (omega (arith, length-append ts (term_tree ts n ∷ [])))
    ∙ at_front ts (term_tree ts n ∷ []) i h

-- ---- more terms

pub extends_none : (ns : List Term) → Extends ns ns
extends_none ns = record { more = []; is = sym (append-nil ns) }

pub extends_one : (ns : List Term) (n : Term) → Extends ns (ns ++ n ∷ [])
extends_one ns n = record { more = n ∷ []; is = refl }

pub extends_twice : (a b c : List Term) → Extends a b → Extends b c → Extends a c
extends_twice a b c x y = record { more = x.more ++ y.more; is = y.is ∙ ap (λ l. l ++ y.more) x.is ∙ append_assoc a x.more y.more }

pub extends_as : (a b c d : List Term) → a ≡ b → c ≡ d → Extends b d → Extends a c
extends_as a b c d e f x = record { more = x.more; is = f ∙ x.is ∙ ap (λ l. l ++ x.more) (sym e) }

-- an id stands for the same as before
pub tree_more : (old new : List Term) (id : Option TermId) → Extends old new → IsWithin old id → tree_for new id ≡ tree_for old id
tree_more old new None x h = refl
tree_more old new (Some id) x h =
    ap Some (ap (λ ns. tree_at (trees_of ns) id.0) x.is ∙ ap (λ ts. tree_at ts id.0) (from_append [] old x.more)
    ∙ from_keeps (trees_of old) x.more id.0 (omega (arith, h, trees_length old)))

pub within_more : (old new : List Term) (id : Option TermId) → Extends old new → IsWithin old id → IsWithin new id
within_more old new None x h = tt
within_more old new (Some id) x h = omega (arith, h, ap length x.is, length-append old x.more)

pub stands_more : (old new : List Term) (id : Option TermId) (t : Option (Tree Name)) → Extends old new → Stands old id t → Stands new id t
stands_more old new id t x s = record { within = within_more old new id x s.within; is = tree_more old new id x s.within ∙ s.is }

pub stands_as : (ns : List Term) (id : Option TermId) (t u : Option (Tree Name)) → t ≡ u → Stands ns id t → Stands ns id u
stands_as ns id t u e s = record { within = s.within; is = s.is ∙ e }

-- the last one
pub pushed : (ns : List Term) (n : Term) (id : TermId) → id.0 ≡ length ns → Stands (ns ++ n ∷ []) (Some id) (Some (term_tree (trees_of ns) n))
pushed ns n id e = record {
  within = omega (arith, e, length-append ns (n ∷ []));
  is = ap Some (ap (tree_at (trees_of (ns ++ n ∷ []))) (e ∙ sym (trees_length ns)) ∙ ap (λ ts. tree_at ts (length (trees_of ns))) (from_append [] ns (n ∷ []) ∙ from_one (trees_of ns) n)
      ∙ at_last (trees_of ns) (term_tree (trees_of ns) n));
}

from_push : (k : ℕ) (ns : List Term) (n : Term) → AreFrom k ns → OperandsBelow (k + length ns) n → AreFrom k (ns ++ n ∷ [])
from_push k [] n h below = (subst (λ m. OperandsBelow m n) (let e : k + 0 ≡ k = omega arith in e) below, tt)
from_push k (m ∷ ns) n h below = (h.0, from_push (k + 1) ns n h.1 (subst (λ j. OperandsBelow j n) (let e : k + suc (length ns) ≡ k + 1 + length ns = omega arith in e) below))

pub numbered_push : (ns : List Term) (n : Term) → AreNumbered ns → OperandsBelow (length ns) n → AreNumbered (ns ++ n ∷ [])
numbered_push ns n h below = from_push 0 ns n h (subst (λ j. OperandsBelow j n) (let e : length ns ≡ 0 + length ns = omega arith in e) below)

-- of a list that was pushed to, where another name of the old list is known
pub numbered_pushed : (seen old new : List Term) (n : Term) → seen ≡ old → new ≡ old ++ n ∷ [] → AreNumbered old → OperandsBelow (length seen) n → AreNumbered new
numbered_pushed seen old new n same is h below = subst AreNumbered (sym is) (numbered_push old n h (subst (λ ns. OperandsBelow (length ns) n) same below))

pub stands_pushed : (seen old new : List Term) (n : Term) (id : TermId) → seen ≡ old → new ≡ old ++ n ∷ [] → id.0 ≡ length old → Stands new (Some id) (Some (term_tree (trees_of seen) n))
stands_pushed seen old new n id same is at =
    subst (λ ns. Stands ns (Some id) (Some (term_tree (trees_of seen) n))) (sym is) (stands_as (old ++ n ∷ []) (Some id) _ _ (ap (λ ns. Some (term_tree (trees_of ns) n)) (sym same)) (pushed old n id at))

-- ---- the tree of each term is over those of its operands

term_along : (ts us : List (Tree Name)) (k : ℕ) (n : Term) → ((i : ℕ) → i < k → tree_at us i ≡ tree_at ts i) → OperandsBelow k n → term_tree us n ≡ term_tree ts n
term_along ts us k (terms.Leaf x) same h = refl
term_along ts us k (terms.Value w v) same h = refl
term_along ts us k (terms.Unary op a) same h = ap (tree.One (unary_of op)) (same a.0 h)
term_along ts us k (terms.Binary op a b) same h = ap₂ (tree.Two (binary_of op)) (same a.0 h.0) (same b.0 h.1)
term_along ts us k (terms.Mux c a b) same h = λ i. tree.Mux (same c.0 h.0 i) (same a.0 h.1 i) (same b.0 h.2 i)
term_along ts us k (terms.Zext a w) same h = ap (tree.One (op1.Zext (bits w))) (same a.0 h)
term_along ts us k (terms.Slice a h' l) same h = ap (tree.One (op1.Slice (bits h') (bits l))) (same a.0 h)

from_terms : (ts : List (Tree Name)) (ns : List Term) (d : Term) → AreFrom (length ts) ns → (j : ℕ) → j < length ns → tree_at (trees_from ts ns) (length ts + j) ≡ term_tree (trees_from ts ns) (get_or ns j d)
unfolding trees_from
from_terms ts [] d f j h = absurd (omega (arith, h))
from_terms ts (n ∷ ns) d f zero h =
    let more = ts ++ term_tree ts n ∷ [] in
    let z : length ts + 0 ≡ length ts = omega arith in
    ap (tree_at (trees_from more ns)) z
    ∙ from_keeps more ns (length ts) (omega (arith, length-append ts (term_tree ts n ∷ [])))
    ∙ at_last ts (term_tree ts n)
    ∙ sym (term_along ts (trees_from more ns) (length ts) n
    (λ i l. from_keeps more ns i (omega (arith, l, length-append ts (term_tree ts n ∷ []))) ∙ at_front ts (term_tree ts n ∷ []) i l) f.0)
from_terms ts (n ∷ ns) d f (suc j) h =
    let more = ts ++ term_tree ts n ∷ [] in
    let e : length ts + suc j ≡ length more + j = omega (arith, length-append ts (term_tree ts n ∷ [])) in
    let longer : length more ≡ length ts + 1 = length-append ts (term_tree ts n ∷ []) in
    ap (tree_at (trees_from more ns)) e ∙ from_terms more ns d (subst (λ k. AreFrom k ns) (sym longer) f.1) j (omega (arith, h))

from_below : (k : ℕ) (ns : List Term) (d : Term) → AreFrom k ns → (j : ℕ) → j < length ns → OperandsBelow (k + j) (get_or ns j d)
from_below k [] d f j h = absurd (omega (arith, h))
from_below k (n ∷ ns) d f zero h = subst (λ m. OperandsBelow m n) (let e : k ≡ k + 0 = omega arith in e) f.0
from_below k (n ∷ ns) d f (suc j) h = subst (λ m. OperandsBelow m (get_or ns j d)) (let e : k + 1 + j ≡ k + suc j = omega arith in e) (from_below (k + 1) ns d f.1 j (omega (arith, h)))

-- a term that is read
pub read_tree : (ns items : List Term) (i : ℕ) (t : Term) → items ≡ ns → AreNumbered items → i < length ns → t ≡ get_or items i t → tree_at (trees_of ns) i ≡ term_tree (trees_of ns) t
read_tree ns items i t same f h at =
    let inside : i < length items = subst (λ l. i < length l) (sym same) h in
    let found : tree_at (trees_of items) i ≡ term_tree (trees_of items) t = ap (tree_at (trees_of items)) (let z : i ≡ 0 + i = omega arith in z) ∙ from_terms [] items t f i inside ∙ ap (term_tree (trees_of items)) (sym at) in
    subst (λ l. tree_at (trees_of l) i ≡ term_tree (trees_of l) t) same found

pub read_below : (ns items : List Term) (i : ℕ) (t : Term) → items ≡ ns → AreNumbered items → i < length ns → t ≡ get_or items i t → OperandsBelow i t
read_below ns items i t same f h at =
    let inside : i < length items = subst (λ l. i < length l) (sym same) h in
    subst (OperandsBelow i) (sym at) (subst (λ m. OperandsBelow m (get_or items i t)) (let z : 0 + i ≡ i = omega arith in z) (from_below 0 items t f i inside))
