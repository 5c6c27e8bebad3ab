-- What the walk over a net comes to is what is kept of it.
use Rattle.std.proofs.Common.{◌≡◌, ℕ, zero, suc, ◌<◌, true, List, [], ◌∷◌, ◌++◌, length, Option, Some, None, ◌⊎◌, inl, inr, ⊎_elim, refl, sym, ap, ◌∙◌, subst, arith}
use Rattle.std.specs.Prelude.{map, slice_get}
use Rattle.std.proofs.lemmas.List.{length-map}
use Rattle.bv_core.specs.declared.reference.NodeId.{NodeId}
use Rattle.tree_core.specs.Tree as tree
use Rattle.tree_core.specs.Width.{tree_width}
use Rattle.list_core.specs.Lists.{EachOf, IsIn, IsNotIn, AreApart}
use Rattle.exec_core.specs.Kept.{IsKept, root, of_register, walk_all, numbered, rounds, NumberedAreKept}
use Rattle.list_core.proofs.Lists.{each_from, in_left, in_right, not_in}
use Rattle.exec_core.proofs.Keeping.{walk_keeps}
use Rattle.net_core.specs.Nodes.{Shape, trees_of, tree_of}
use Rattle.net_core.specs.Builder.{Stands, AreShared}
use Rattle.net_core.specs.Nets.{NetParts, is_register, IsNext, NextsFit, OutputsFit, IsNet}
use Rattle.net_core.proofs.TreeLists.{no_trees, trees_length}
use Rattle.walk_net.specs.Next.{trees_by, next_whole, HasEach}
use Rattle.walk_net.specs.Renaming.{id_at, IsIdOf, IsNode, AreCopies}
use Rattle.walk_net.specs.Registers.{Ends}
use Rattle.walk_net.specs.Answer.{IsRoot, IsKeptAs, AreIds, OutputsStand, NextStands}
use Rattle.walk_net.specs.Walked.{kept_output, kept_outputs, kept_next, kept_nexts, IsWalked}
use Rattle.walk_net.proofs.Walking.{in_at}
use Rattle.walk_net.proofs.Nodes.{tree_in, stands_in, one_node, trees_apart}
use Rattle.walk_net.proofs.Copies.{Has, has}
use Rattle.walk_net.proofs.Following.{by_in}
use Rattle.walk_net.proofs.NextIds.{in_got, got_in, is_next, beside, next_is, register_leaf}
use Rattle.walk_net.proofs.Rounds.{in_rounds}

-- ---- pairs whose firsts differ

abbrev firsts : List (ℕ × ℕ) → List ℕ
firsts pairs = map (λ (p : ℕ × ℕ). p.0) pairs

not_first : (x : ℕ) (pairs : List (ℕ × ℕ)) → ((p : ℕ × ℕ) → IsIn p pairs → p.0 ≡ x → ⊥) → IsNotIn x (firsts pairs)
not_first x [] h = tt
not_first x (p ∷ ps) h = (λ e. h p (inl refl) e, not_first x ps (λ q i. h q (inr i)))

first_in : (p : ℕ × ℕ) (pairs : List (ℕ × ℕ)) → IsIn p pairs → IsIn p.0 (firsts pairs)
first_in p [] i = i
first_in p (q ∷ qs) (inl e) = inl (ap (λ (r : ℕ × ℕ). r.0) e)
first_in p (q ∷ qs) (inr i) = inr (first_in p qs i)

-- pairs of which each register has one place
pub record HaveOnePlace (pairs : List (ℕ × ℕ)) : Type 0 where
  pub one : (j k i m n : ℕ) → slice_get pairs j ≡ Some (i, m) → slice_get pairs k ≡ Some (i, n) → j ≡ k

firsts_apart : (pairs : List (ℕ × ℕ)) → HaveOnePlace pairs → AreApart (firsts pairs)
firsts_apart [] h = tt
firsts_apart (p ∷ ps) h = (
  not_first p.0 ps (λ q i e.
      let g = in_got q ps i in
      let there : slice_get ps g.place ≡ Some (p.0, q.1) = g.is ∙ ap (λ (x : ℕ). Some (x, q.1)) e in
      let s : 0 ≡ suc g.place = h.one 0 (suc g.place) p.0 p.1 q.1 refl there in
      absurd (omega arith)),
  firsts_apart ps (record { one = λ j k i m n e f. let s : suc j ≡ suc k = h.one (suc j) (suc k) i m n e f in omega arith }),
)

one_place : (pairs : List (ℕ × ℕ)) → AreApart (firsts pairs) → (j k i m n : ℕ) → slice_get pairs j ≡ Some (i, m) → slice_get pairs k ≡ Some (i, n) → j ≡ k
one_place [] a j k i m n e f = cc
one_place (p ∷ ps) a zero zero i m n e f = refl
one_place (p ∷ ps) a zero (suc k) i m n e f =
    let s : p ≡ (i, m) = cc in
    absurd (not_in p.0 (firsts ps) a.0 (subst (λ x. IsIn x (firsts ps)) (ap (λ (q : ℕ × ℕ). q.0) (sym s)) (first_in (i, n) ps (got_in (i, n) ps k f))))
one_place (p ∷ ps) a (suc j) zero i m n e f =
    let s : p ≡ (i, n) = cc in
    absurd (not_in p.0 (firsts ps) a.0 (subst (λ x. IsIn x (firsts ps)) (ap (λ (q : ℕ × ℕ). q.0) (sym s)) (first_in (i, m) ps (got_in (i, m) ps j e))))
one_place (p ∷ ps) a (suc j) (suc k) i m n e f = ap suc (one_place ps a.1 j k i m n e f)

-- ---- the walk

-- before it, nothing is copied
pub none_copied : (old new : List Shape) (ids : List (Option NodeId)) (origins : List NodeId) → new ≡ [] → AreShared new → length ids ≡ length old → ((j : ℕ) → id_at ids j ≡ None) → origins ≡ [] → AreCopies old new ids origins
none_copied old new ids origins e shared long none first =
    let no_tree : trees_of new ≡ [] = ap trees_of e ∙ no_trees in
    record {
      shared = shared;
      long = long;
      each = λ j l. subst (IsIdOf new (tree_of old j)) (sym (none j)) (λ i. subst (IsIn (tree_of old j)) no_tree i);
      trees = ap (trees_by old) first ∙ sym no_tree;
      nodes = subst (EachOf (IsNode old)) (sym first) tt;
    }

-- the registers that a net gives next values
origin_of : tree.Whole → tree.Origin
origin_of (tree.Const b) = tree.Input [] 0
origin_of (tree.Leaf o) = o
origin_of (tree.One op a) = tree.Input [] 0
origin_of (tree.Two op a b) = tree.Input [] 0
origin_of (tree.Mux c a b) = tree.Input [] 0

registers : NetParts → List tree.Origin
registers net = map (λ (pair : ℕ × ℕ). origin_of (tree_of net.nodes pair.0)) net.nexts

mapped : (ns : List Shape) (pairs : List (ℕ × ℕ)) (pair : ℕ × ℕ) (o : tree.Origin) → IsIn pair pairs → tree_of ns pair.0 ≡ tree.Leaf o → IsIn o (map (λ (pair : ℕ × ℕ). origin_of (tree_of ns pair.0)) pairs)
unfolding origin_of
mapped ns [] pair o i r = i
mapped ns (p ∷ ps) pair o (inl e) r = inl (ap origin_of (sym r) ∙ ap (λ (q : ℕ × ℕ). origin_of (tree_of ns q.0)) e)
mapped ns (p ∷ ps) pair o (inr i) r = inr (mapped ns ps pair o i r)

module _ (net : NetParts) (is : IsNet net) where
  among : HasEach (next_whole net) (registers net)
  unfolding registers
  among o t e = let b = beside net.nodes is.shared net.nexts is.nexts o t net.nexts e in mapped net.nodes net.nexts b.pair o b.among b.register

  many : length (registers net) ≡ length net.nexts
  unfolding registers
  many = length-map net.nexts (λ (pair : ℕ × ℕ). origin_of (tree_of net.nodes pair.0))

  -- after it, the trees are the numbered ones
  pub walked_all : (roots : List tree.Whole) (first rooted new : List Shape) (ids : List (Option NodeId)) (origins : List NodeId) → first ≡ [] → trees_of rooted ≡ walk_all roots (trees_of first) → Ends (next_whole net) 0 (trees_of rooted) (trees_of new) → AreCopies net.nodes new ids origins → IsWalked net roots new ids
  walked_all roots first rooted new ids origins e w ends c = record {
    shared = c.shared;
    trees = λ given each.
        in_rounds (next_whole net) given each (trees_of rooted) (trees_of new) ends (trees_apart (trees_of new) c.shared.trees.one_id)
        ∙ ap (rounds (next_whole net) (length given) []) (w ∙ ap (walk_all roots) (ap trees_of e ∙ no_trees));
    among = λ t i. by_in net.nodes origins c.nodes t (subst (IsIn t) (sym c.trees) i);
    long = c.long;
    each = c.each;
  }

  module _ (roots : List tree.Whole) (new : List Shape) (ids : List (Option NodeId)) (w : IsWalked net roots new ids) where
    abbrev Kept : tree.Whole → Type 0
    Kept t = IsKept roots (next_whole net) t

    pub trees_numbered : trees_of new ≡ numbered roots (next_whole net) (length net.nexts)
    trees_numbered = w.trees (registers net) among ∙ ap (numbered roots (next_whole net)) many

    pub kept : NumberedAreKept roots (next_whole net) (trees_of new)
    kept = subst (NumberedAreKept roots (next_whole net)) (sym (w.trees (registers net) among)) (walk_keeps roots (next_whole net) (registers net) among)

    id_kept : (t : tree.Whole) (known : Option NodeId) → IsIdOf new t known → IsKeptAs roots (next_whole net) new t known
    id_kept t None h = λ k. h ((kept.kept t).1 k)
    id_kept t (Some id) h = ((kept.kept t).0 (stands_in new id.0 t h), h)

    pub are_ids : AreIds roots (next_whole net) net.nodes new ids
    are_ids = record { long = w.long; each = λ j l. id_kept (tree_of net.nodes j) (id_at ids j) (w.each j l) }

    -- a kept tree's node has an id
    kept_id : (j : ℕ) → j < length net.nodes → IsKept roots (next_whole net) (tree_of net.nodes j) → Has new (tree_of net.nodes j) (id_at ids j)
    kept_id j l k = has new (tree_of net.nodes j) (id_at ids j) (w.each j l) ((kept.kept (tree_of net.nodes j)).1 k)

    -- ---- outputs

    outputs_by : (outputs : List (List ℕ × ℕ)) → ((o : List ℕ × ℕ) → IsIn o outputs → o.1 < length net.nodes) → EachOf (IsRoot net.nodes roots) outputs → OutputsStand net.nodes new outputs (kept_outputs ids outputs)
    outputs_by [] l h = tt
    outputs_by (o ∷ outputs) l h =
        let id = kept_id o.1 (l o (inl refl)) (root (tree_of net.nodes o.1) h.0) in
        subst (λ v. OutputsStand net.nodes new (o ∷ outputs) (kept_output o.0 v ++ kept_outputs ids outputs)) (sym id.is)
        (record { name = refl; stands = id.stands }, outputs_by outputs (λ p i. l p (inr i)) h.1)

    output_node : (o : List ℕ × ℕ) → IsIn o net.outputs → o.1 < length net.nodes
    output_node o i = let g = in_got o net.outputs i in is.outputs.nodes g.place o g.is

    pub outputs_stand : EachOf (IsRoot net.nodes roots) net.outputs → OutputsStand net.nodes new net.outputs (kept_outputs ids net.outputs)
    outputs_stand h = outputs_by net.outputs output_node h

    -- ---- next values

    pub record IsKeptPair (pair now : ℕ × ℕ) : Type 0 where
      pub register : Stands new now.0 (tree_of net.nodes pair.0)
      pub next : Stands new now.1 (tree_of net.nodes pair.1)

    within_first : (pair : ℕ × ℕ) → IsIn pair net.nexts → pair.0 < length net.nodes
    within_first pair i = (is_next net.nodes is.shared net.nexts is.nexts pair i).within

    within_next : (pair : ℕ × ℕ) → IsIn pair net.nexts → pair.1 < length net.nodes
    within_next pair i = (is_next net.nodes is.shared net.nexts is.nexts pair i).next

    pub record From (now : ℕ × ℕ) (pairs : List (ℕ × ℕ)) : Type 0 where
      pub pair : ℕ × ℕ
      pub among : IsIn pair pairs
      pub is_kept : IsKeptPair pair now

    kept_from : (pair now : ℕ × ℕ) (r n : Option NodeId) → IsIdOf new (tree_of net.nodes pair.0) r → IsIdOf new (tree_of net.nodes pair.1) n → IsIn now (kept_next r n) → IsKeptPair pair now
    kept_from pair now None n a b i = absurd i
    kept_from pair now (Some r) None a b i = absurd i
    kept_from pair now (Some r) (Some n) a b (inl e) = subst (IsKeptPair pair) (sym e) (record { register = a; next = b })
    kept_from pair now (Some r) (Some n) a b (inr i) = absurd i

    in_split : (x : ℕ × ℕ) (xs ys : List (ℕ × ℕ)) → IsIn x (xs ++ ys) → IsIn x xs ⊎ IsIn x ys
    in_split x [] ys i = inr i
    in_split x (y ∷ xs) ys (inl e) = inl (inl e)
    in_split x (y ∷ xs) ys (inr i) = ⊎_elim (λ j. inl (inr j)) inr (in_split x xs ys i)

    from : (pairs : List (ℕ × ℕ)) → ((p : ℕ × ℕ) → IsIn p pairs → IsIn p net.nexts) → (now : ℕ × ℕ) → IsIn now (kept_nexts ids pairs) → From now pairs
    from [] h now i = absurd i
    from (p ∷ ps) h now i =
        let m = h p (inl refl) in
        ⊎_elim
        (λ j. record { pair = p; among = inl refl; is_kept = kept_from p now (id_at ids p.0) (id_at ids p.1) (w.each p.0 (within_first p m)) (w.each p.1 (within_next p m)) j })
        (λ j. let f = from ps (λ q k. h q (inr k)) now j in record { pair = f.pair; among = inr f.among; is_kept = f.is_kept })
        (in_split now (kept_next (id_at ids p.0) (id_at ids p.1)) (kept_nexts ids ps) i)

    from_net : (now : ℕ × ℕ) → IsIn now (kept_nexts ids net.nexts) → From now net.nexts
    from_net now i = from net.nexts (λ p k. k) now i

    next_stands : (now : ℕ × ℕ) → IsIn now (kept_nexts ids net.nexts) → NextStands (next_whole net) new now
    next_stands now i =
        let f = from_net now i in
        let n = is_next net.nodes is.shared net.nexts is.nexts f.pair f.among in
        let o = register_leaf (tree_of net.nodes f.pair.0) n.register in
        record {
          origin = o.0;
          tree = tree_of net.nodes f.pair.1;
          next_is = next_is net.nodes is.shared net.nexts is.nexts f.pair f.among o.0 o.1;
          register = subst (Stands new now.0) o.1 f.is_kept.register;
          stands = f.is_kept.next;
        }

    pub nexts_stand : EachOf (NextStands (next_whole net) new) (kept_nexts ids net.nexts)
    nexts_stand = each_from (NextStands (next_whole net) new) (kept_nexts ids net.nexts) next_stands

    -- ---- what a net keeps of them

    both_kept : (pair : ℕ × ℕ) (r n : Option NodeId) (a b : NodeId) → r ≡ Some a → n ≡ Some b → IsIn (a.0, b.0) (kept_next r n)
    both_kept pair r n a b e f = subst (λ v. IsIn (a.0, b.0) (kept_next v n)) (sym e) (subst (λ v. IsIn (a.0, b.0) (kept_next (Some a) v)) (sym f) (inl refl))

    in_kept : (pairs : List (ℕ × ℕ)) (pair : ℕ × ℕ) (a b : NodeId) → IsIn pair pairs → id_at ids pair.0 ≡ Some a → id_at ids pair.1 ≡ Some b → IsIn (a.0, b.0) (kept_nexts ids pairs)
    in_kept [] pair a b i e f = i
    in_kept (p ∷ ps) pair a b (inl s) e f =
        in_left (a.0, b.0) (kept_next (id_at ids p.0) (id_at ids p.1)) (kept_nexts ids ps)
        (both_kept p (id_at ids p.0) (id_at ids p.1) a b (ap (λ (q : ℕ × ℕ). id_at ids q.0) (sym s) ∙ e) (ap (λ (q : ℕ × ℕ). id_at ids q.1) (sym s) ∙ f))
    in_kept (p ∷ ps) pair a b (inr i) e f =
        in_right (a.0, b.0) (kept_next (id_at ids p.0) (id_at ids p.1)) (kept_nexts ids ps) (in_kept ps pair a b i e f)

    -- the old node of a new register, and its pair
    pub record HasPair (i : ℕ) : Type 0 where
      pub next : ℕ
      pub among : IsIn (i, next) (kept_nexts ids net.nexts)

    pair_of : (i : ℕ) → i < length new → is_register (tree_of new i) ≡ true → HasPair i
    pair_of i l r =
        let o = register_leaf (tree_of new i) r in
        let at = in_at (tree_of new i) (trees_of net.nodes) (w.among (tree_of new i) (tree_in new i l)) in
        let j = at.place in
        let inside : j < length net.nodes = omega (arith, trees_length net.nodes, at.within) in
        let same : tree_of net.nodes j ≡ tree_of new i = at.is in
        let there = is.nexts.each j inside (subst (λ t. is_register t ≡ true) (sym same) r) in
        let among = got_in (j, there.1.0) net.nexts there.0 there.1.1 in
        let k = (kept.kept (tree_of new i)).0 (tree_in new i l) in
        let a = kept_id j inside (subst Kept (sym same) k) in
        let b = kept_id there.1.0 (within_next (j, there.1.0) among)
        (of_register o.0 (tree_of net.nodes there.1.0) (next_is net.nodes is.shared net.nexts is.nexts (j, there.1.0) among o.0 (same ∙ o.1)) (subst Kept o.1 k)) in
        let back : a.id.0 ≡ i = one_node new w.shared a.id.0 i a.stands.within l (a.stands.tree ∙ same) in
        record { next = b.id.0; among = subst (λ (n : ℕ). IsIn (n, b.id.0) (kept_nexts ids net.nexts)) back (in_kept net.nexts (j, there.1.0) a.id b.id among a.is b.is) }

    -- ---- each register once

    kept_apart : (pairs : List (ℕ × ℕ)) → ((p : ℕ × ℕ) → IsIn p pairs → IsIn p net.nexts) → AreApart (firsts pairs) → AreApart (firsts (kept_nexts ids pairs))
    kept_apart [] h a = tt
    kept_apart (p ∷ ps) h a =
        by_ids (id_at ids p.0) (id_at ids p.1) (w.each p.0 (within_first p (h p (inl refl)))) (kept_apart ps (λ q i. h q (inr i)) a.1)
        (λ now i. from ps (λ q k. h q (inr k)) now i)
      where
        by_ids : (r n : Option NodeId) → IsIdOf new (tree_of net.nodes p.0) r → AreApart (firsts (kept_nexts ids ps)) → ((now : ℕ × ℕ) → IsIn now (kept_nexts ids ps) → From now ps) → AreApart (firsts (kept_next r n ++ kept_nexts ids ps))
        by_ids None n s rest g = rest
        by_ids (Some r) None s rest g = rest
        by_ids (Some r) (Some n) s rest g = (
          not_first r.0 (kept_nexts ids ps) (λ now i e.
              let f = g now i in
              let same : f.pair.0 ≡ p.0 =
              one_node net.nodes is.shared f.pair.0 p.0 (within_first f.pair (h f.pair (inr f.among))) (within_first p (h p (inl refl)))
              (sym f.is_kept.register.tree ∙ ap (tree_of new) e ∙ s.tree) in
              not_in p.0 (firsts ps) a.0 (subst (λ x. IsIn x (firsts ps)) same (first_in f.pair ps f.among))),
          rest,
        )

    kept_next_fits : (now : ℕ × ℕ) → IsIn now (kept_nexts ids net.nexts) → IsNext new now
    kept_next_fits now i =
        let f = from_net now i in
        let n = is_next net.nodes is.shared net.nexts is.nexts f.pair f.among in
        record {
          within = f.is_kept.register.within;
          register = ap is_register f.is_kept.register.tree ∙ n.register;
          next = f.is_kept.next.within;
          width = ap tree_width f.is_kept.next.tree ∙ n.width ∙ ap tree_width (sym f.is_kept.register.tree);
        }

    pub nexts_fit : NextsFit new (kept_nexts ids net.nexts)
    nexts_fit = record {
      registers = λ k now e. kept_next_fits now (got_in now (kept_nexts ids net.nexts) k e);
      each = λ i l r. let p = pair_of i l r in let g = in_got (i, p.next) (kept_nexts ids net.nexts) p.among in (g.place, (p.next, g.is));
      once = one_place (kept_nexts ids net.nexts) (kept_apart net.nexts (λ p i. i) (firsts_apart net.nexts (record { one = is.nexts.once })));
    }

    standing : (before now : List (List ℕ × ℕ)) → OutputsStand net.nodes new before now → (k : ℕ) (o : List ℕ × ℕ) → slice_get now k ≡ Some o → o.1 < length new
    standing [] [] h k o e = cc
    standing [] (o ∷ os) h k p e = absurd h
    standing (b ∷ bs) [] h k o e = cc
    standing (b ∷ bs) (p ∷ ps) h zero o e = let s : p ≡ o = cc in subst (λ (q : List ℕ × ℕ). q.1 < length new) s h.0.stands.within
    standing (b ∷ bs) (p ∷ ps) h (suc k) o e = standing bs ps h.1 k o e

    pub outputs_fit : EachOf (IsRoot net.nodes roots) net.outputs → OutputsFit new (kept_outputs ids net.outputs)
    outputs_fit h = record { nodes = standing net.outputs (kept_outputs ids net.outputs) (outputs_stand h) }
