-- The next values of a net, by node and by register.
use Rattle.std.proofs.Common.{◌≡◌, ℕ, zero, suc, ◌<◌, Bool, true, false, List, [], ◌∷◌, length, Option, Some, None, if◌then◌else◌, ◌⊎◌, inl, inr, ⊎_elim, refl, sym, ap, ◌∙◌, subst, arith}
use Rattle.std.specs.Prelude.{option_map, slice_get, slice_set}
use Rattle.std.proofs.lemmas.List.{get_or-set_same, get_or-set_other}
use Rattle.std.proofs.Math.ListN.{length-set}
use Rattle.bv_core.specs.declared.reference.NodeId.{NodeId}
use Rattle.tree_core.specs.Tree as tree
use Rattle.tree_core.specs.Fold.{same_tree, same_origin}
use Rattle.tree_core.proofs.Same.{tests_trees}
use Rattle.list_core.specs.Lists.{EachOf, IsIn}
use Rattle.list_core.proofs.Lists.{each_from}
use Rattle.net_core.specs.Nodes.{Shape, tree_of}
use Rattle.net_core.specs.Nets.{NetParts, nexts_of, is_register, IsNext, NextsFit, IsNet}
use Rattle.net_core.specs.Builder.{AreShared}
use Rattle.walk_net.specs.Next.{tree_by, next_among, next_tree}
use Rattle.walk_net.specs.Renaming.{id_at}
use Rattle.walk_net.specs.Registers.{with_nexts, HasPlace, AreNextIds}
use Rattle.walk_net.proofs.Nodes.{one_node}
use Rattle.walk_net.proofs.Copies.{Where, here, other, where_is}

-- ---- the pairs of a net

pub record IsGot {A : Type 0} (x : A) (xs : List A) : Type 0 where
  pub place : ℕ
  pub is : slice_get xs place ≡ Some x

pub in_got : {A : Type 0} (x : A) (xs : List A) → IsIn x xs → IsGot x xs
in_got x [] i = absurd i
in_got x (y ∷ ys) (inl e) = record { place = 0; is = ap Some (sym e) }
in_got x (y ∷ ys) (inr i) = let r = in_got x ys i in record { place = suc r.place; is = r.is }

pub got_in : {A : Type 0} (x : A) (xs : List A) (k : ℕ) → slice_get xs k ≡ Some x → IsIn x xs
got_in x [] k e = cc
got_in x (y ∷ ys) zero e = inl (let s : y ≡ x = cc in sym s)
got_in x (y ∷ ys) (suc k) e = inr (got_in x ys k e)

-- a register's tree is a leaf
pub register_leaf : (t : tree.Whole) → is_register t ≡ true → (o : tree.Origin) × (t ≡ tree.Leaf o)
register_leaf (tree.Const b) e = cc
register_leaf (tree.Leaf o) e = (o, refl)
register_leaf (tree.One op a) e = cc
register_leaf (tree.Two op a b) e = cc
register_leaf (tree.Mux c a b) e = cc

module _ (ns : List Shape) (shared : AreShared ns) (nexts : List (ℕ × ℕ)) (fit : NextsFit ns nexts) where
  pub is_next : (pair : ℕ × ℕ) → IsIn pair nexts → IsNext ns pair
  is_next pair i = let g = in_got pair nexts i in fit.registers g.place pair g.is

  pub one_next : (p q : ℕ × ℕ) → IsIn p nexts → IsIn q nexts → p.0 ≡ q.0 → p.1 ≡ q.1
  one_next p q i j e =
      let g = in_got p nexts i in
      let h = in_got q nexts j in
      let there : slice_get nexts h.place ≡ Some (p.0, q.1) = h.is ∙ ap (λ (r : ℕ). Some (r, q.1)) (sym e) in
      let same : g.place ≡ h.place = fit.once g.place h.place p.0 p.1 q.1 g.is there in
      let both : ◌≡◌ {A = Option (ℕ × ℕ)} (Some (p.0, p.1)) (Some (p.0, q.1)) = sym g.is ∙ ap (slice_get nexts) same ∙ there in
      cc

  -- the first pair of a register
  pub record IsBeside (o : tree.Origin) (t : tree.Whole) (pairs : List (ℕ × ℕ)) : Type 0 where
    pub pair : ℕ × ℕ
    pub among : IsIn pair pairs
    pub register : tree_of ns pair.0 ≡ tree.Leaf o
    pub next : tree_of ns pair.1 ≡ t

  pub beside : (o : tree.Origin) (t : tree.Whole) (pairs : List (ℕ × ℕ)) → next_among ns pairs o ≡ Some t → IsBeside o t pairs
  beside o t [] e = cc
  beside o t (p ∷ ps) e = at_test (beside o t ps) (same_tree same_origin (tree.Leaf o) (tree_of ns p.0)) refl e
    where
      at_test : (next_among ns ps o ≡ Some t → IsBeside o t ps) → (b : Bool) → same_tree same_origin (tree.Leaf o) (tree_of ns p.0) ≡ b → (if b then Some (tree_of ns p.1) else next_among ns ps o) ≡ Some t → IsBeside o t (p ∷ ps)
      at_test more true s f = record { pair = p; among = inl refl; register = sym ((tests_trees (tree.Leaf o) (tree_of ns p.0)).0 s); next = cc }
      at_test more false s f = let r = more f in record { pair = r.pair; among = inr r.among; register = r.register; next = r.next }

  some_beside : (o : tree.Origin) (pairs : List (ℕ × ℕ)) (pair : ℕ × ℕ) → IsIn pair pairs → tree_of ns pair.0 ≡ tree.Leaf o → next_among ns pairs o ≡ None → ⊥
  some_beside o [] pair i r e = i
  some_beside o (p ∷ ps) pair i r e = at_test (λ j f. some_beside o ps pair j r f) (same_tree same_origin (tree.Leaf o) (tree_of ns p.0)) refl e
    where
      at_test : (IsIn pair ps → next_among ns ps o ≡ None → ⊥) → (b : Bool) → same_tree same_origin (tree.Leaf o) (tree_of ns p.0) ≡ b → (if b then Some (tree_of ns p.1) else next_among ns ps o) ≡ None → ⊥
      at_test more true s f = cc
      at_test more false s f =
          ⊎_elim
          (λ k. let yes : same_tree same_origin (tree.Leaf o) (tree_of ns p.0) ≡ true = (tests_trees (tree.Leaf o) (tree_of ns p.0)).1 (sym r ∙ ap (λ (q : ℕ × ℕ). tree_of ns q.0) k) in cc)
          (λ j. more j f) i

  -- a register's next-value tree is that of the node beside its own
  pub next_is : (pair : ℕ × ℕ) → IsIn pair nexts → (o : tree.Origin) → tree_of ns pair.0 ≡ tree.Leaf o → next_among ns nexts o ≡ Some (tree_of ns pair.1)
  next_is pair i o r = at_found (next_among ns nexts o) refl
    where
      at_found : (found : Option tree.Whole) → next_among ns nexts o ≡ found → next_among ns nexts o ≡ Some (tree_of ns pair.1)
      at_found None e = absurd (some_beside o nexts pair i r e)
      at_found (Some t) e =
          let b = beside o t nexts e in
          let same : b.pair.0 ≡ pair.0 = one_node ns shared b.pair.0 pair.0 (is_next b.pair b.among).within (is_next pair i).within (b.register ∙ sym r) in
          e ∙ ap Some (sym b.next ∙ ap (tree_of ns) (one_next b.pair pair b.among i same))

  -- ---- by node

  -- what a list of ids by node says
  pub record AreBeside (ids : List (Option NodeId)) : Type 0 where
    pub sound : (j : ℕ) (id : NodeId) → id_at ids j ≡ Some id → IsIn (j, id.0) nexts
    pub complete : (pair : ℕ × ℕ) → IsIn pair nexts → id_at ids pair.0 ≡ None → ⊥

  none_next : (ids : List (Option NodeId)) → AreBeside ids → (j : ℕ) → j < length ns → id_at ids j ≡ None → (t : tree.Whole) → tree_of ns j ≡ t → None ≡ next_tree (next_among ns nexts) t
  none_next ids b j l e (tree.Const v) s = refl
  none_next ids b j l e (tree.Leaf o) s = at_found (next_among ns nexts o) refl
    where
      at_found : (found : Option tree.Whole) → next_among ns nexts o ≡ found → None ≡ next_among ns nexts o
      at_found None f = sym f
      at_found (Some t) f =
          let r = beside o t nexts f in
          let same : r.pair.0 ≡ j = one_node ns shared r.pair.0 j (is_next r.pair r.among).within l (r.register ∙ sym s) in
          absurd (b.complete r.pair r.among (ap (id_at ids) same ∙ e))
  none_next ids b j l e (tree.One op a) s = refl
  none_next ids b j l e (tree.Two op a c) s = refl
  none_next ids b j l e (tree.Mux c a d) s = refl

  next_at : (ids : List (Option NodeId)) → AreBeside ids → (j : ℕ) → j < length ns → (known : Option NodeId) → id_at ids j ≡ known → option_map (tree_by ns) known ≡ next_tree (next_among ns nexts) (tree_of ns j)
  next_at ids b j l None e = none_next ids b j l e (tree_of ns j) refl
  next_at ids b j l (Some id) e =
      let i = b.sound j id e in
      let o = register_leaf (tree_of ns j) (is_next (j, id.0) i).register in
      sym (ap (next_tree (next_among ns nexts)) o.1 ∙ next_is (j, id.0) i o.0 o.1)

-- ---- the list of ids that is written

pub nexts_length : (ids : List (Option NodeId)) (pairs : List (NodeId × NodeId)) → length (with_nexts ids pairs) ≡ length ids
nexts_length ids [] = refl
nexts_length ids (p ∷ ps) = nexts_length (slice_set ids p.0.0 (Some p.1)) ps ∙ length-set ids p.0.0 (Some p.1)

pair_in : (p : NodeId × NodeId) (pairs : List (NodeId × NodeId)) → IsIn p pairs → IsIn (p.0.0, p.1.0) (nexts_of pairs)
pair_in p [] i = absurd i
pair_in p (q ∷ qs) (inl e) = inl (ap (λ (x : NodeId × NodeId). (x.0.0, x.1.0)) e)
pair_in p (q ∷ qs) (inr i) = inr (pair_in p qs i)

written : (count : ℕ) (ids : List (Option NodeId)) (pairs : List (NodeId × NodeId)) → length ids ≡ count → EachOf (HasPlace count) pairs → (j : ℕ) (id : NodeId) → id_at (with_nexts ids pairs) j ≡ Some id → IsIn (j, id.0) (nexts_of pairs) ⊎ (id_at ids j ≡ Some id)
written count ids [] n h j id e = inr e
written count ids (p ∷ ps) n h j id e =
    ⊎_elim (λ i. inl (inr i)) (λ f. at_place (where_is p.0.0 j) f)
    (written count (slice_set ids p.0.0 (Some p.1)) ps (length-set ids p.0.0 (Some p.1) ∙ n) h.1 j id e)
  where
    at_place : Where p.0.0 j → id_at (slice_set ids p.0.0 (Some p.1)) j ≡ Some id → IsIn (j, id.0) (nexts_of (p ∷ ps)) ⊎ (id_at ids j ≡ Some id)
    at_place (here s) f =
        let l : p.0.0 < length ids = omega (arith, n, h.0) in
        let set : Some p.1 ≡ Some id = sym (get_or-set_same ids p.0.0 (Some p.1) None l) ∙ ap (id_at (slice_set ids p.0.0 (Some p.1))) (sym s) ∙ f in
        let same : p.1 ≡ id = cc in
        inl (inl (λ i. (s i, (sym same i).0)))
    at_place (other d) f = inr (sym (get_or-set_other ids p.0.0 j (Some p.1) None d) ∙ f)

still_some : (count : ℕ) (ids : List (Option NodeId)) (pairs : List (NodeId × NodeId)) → length ids ≡ count → EachOf (HasPlace count) pairs → (j : ℕ) → (id_at ids j ≡ None → ⊥) → id_at (with_nexts ids pairs) j ≡ None → ⊥
still_some count ids [] n h j some e = some e
still_some count ids (p ∷ ps) n h j some e =
    still_some count (slice_set ids p.0.0 (Some p.1)) ps (length-set ids p.0.0 (Some p.1) ∙ n) h.1 j (at_place (where_is p.0.0 j)) e
  where
    at_place : Where p.0.0 j → id_at (slice_set ids p.0.0 (Some p.1)) j ≡ None → ⊥
    at_place (here s) f =
        let l : p.0.0 < length ids = omega (arith, n, h.0) in
        let set : Some p.1 ≡ None = sym (get_or-set_same ids p.0.0 (Some p.1) None l) ∙ ap (id_at (slice_set ids p.0.0 (Some p.1))) (sym s) ∙ f in
        cc
    at_place (other d) f = some (sym (get_or-set_other ids p.0.0 j (Some p.1) None d) ∙ f)

all_written : (count : ℕ) (ids : List (Option NodeId)) (pairs : List (NodeId × NodeId)) → length ids ≡ count → EachOf (HasPlace count) pairs → (pair : ℕ × ℕ) → IsIn pair (nexts_of pairs) → id_at (with_nexts ids pairs) pair.0 ≡ None → ⊥
all_written count ids [] n h pair i e = i
all_written count ids (p ∷ ps) n h pair (inl s) e =
    let l : p.0.0 < length ids = omega (arith, n, h.0) in
    still_some count (slice_set ids p.0.0 (Some p.1)) ps (length-set ids p.0.0 (Some p.1) ∙ n) h.1 p.0.0
    (λ f. let set : Some p.1 ≡ None = sym (get_or-set_same ids p.0.0 (Some p.1) None l) ∙ f in cc)
    (ap (λ (q : ℕ × ℕ). id_at (with_nexts (slice_set ids p.0.0 (Some p.1)) ps) q.0) (sym s) ∙ e)
all_written count ids (p ∷ ps) n h pair (inr i) e =
    all_written count (slice_set ids p.0.0 (Some p.1)) ps (length-set ids p.0.0 (Some p.1) ∙ n) h.1 pair i e

pub have_places : (ns : List Shape) (pairs : List (NodeId × NodeId)) → NextsFit ns (nexts_of pairs) → EachOf (HasPlace (length ns)) pairs
have_places ns pairs fit =
    each_from (HasPlace (length ns)) pairs (λ p i. let g = in_got (p.0.0, p.1.0) (nexts_of pairs) (pair_in p pairs i) in (fit.registers g.place (p.0.0, p.1.0) g.is).within)

-- the ids that are written are those of the next values
pub next_ids_are : (net : NetParts) → IsNet net → (pairs : List (NodeId × NodeId)) → nexts_of pairs ≡ net.nexts → (none ids : List (Option NodeId)) → length none ≡ length net.nodes → ((j : ℕ) → id_at none j ≡ None) → ids ≡ with_nexts none pairs → AreNextIds net ids
next_ids_are net is pairs same none ids long blank e = subst (AreNextIds net) (sym e) (record {
  long = nexts_length none pairs ∙ long;
  within = λ j id k. (is_next net.nodes is.shared net.nexts is.nexts (j, id.0) (b.sound j id k)).next;
  next = λ j l. next_at net.nodes is.shared net.nexts is.nexts (with_nexts none pairs) b j l (id_at (with_nexts none pairs) j) refl;
})
  where
    fit : NextsFit net.nodes (nexts_of pairs)
    fit = subst (NextsFit net.nodes) (sym same) is.nexts

    places : EachOf (HasPlace (length net.nodes)) pairs
    places = have_places net.nodes pairs fit

    unset : (j : ℕ) (id : NodeId) → id_at none j ≡ Some id → ⊥
    unset j id k = let n : id_at none j ≡ None = blank j in cc

    b : AreBeside net.nodes is.shared net.nexts is.nexts (with_nexts none pairs)
    b = record {
      sound = λ j id k. ⊎_elim (λ i. subst (IsIn (j, id.0)) same i) (λ f. absurd (unset j id f)) (written (length net.nodes) none pairs long places j id k);
      complete = λ pair i n. all_written (length net.nodes) none pairs long places pair (subst (IsIn pair) (sym same) i) n;
    }
