-- The walk over the next values of registers, place by place.
use Rattle.std.proofs.Common.{◌≡◌, ℕ, zero, suc, ◌+◌, ◌<◌, ◌≤◌, List, [], ◌∷◌, ◌++◌, length, get_or, take, drop, Option, Some, None, inl, inr, ⊎_elim, refl, sym, ap, ◌∙◌, subst, arith}
use Rattle.std.specs.Prelude.{option_map}
use Rattle.std.proofs.lemmas.List.{length-map}
use Rattle.std.proofs.Math.Seq.{take-append_seam}
use Rattle.bv_core.specs.declared.reference.NodeId.{NodeId}
use Rattle.tree_core.specs.Tree.{Origin, Whole}
use Rattle.list_core.specs.Lists.{EachOf, IsIn}
use Rattle.list_core.proofs.Listing.{no_more}
use Rattle.net_core.specs.Nodes.{Shape, tree_at, trees_of, tree_of}
use Rattle.net_core.specs.Nets.{NetParts}
use Rattle.net_core.proofs.TreeLists.{trees_length}
use Rattle.walk_net.specs.Next.{tree_by, trees_by, next_whole, next_tree}
use Rattle.walk_net.specs.Renaming.{id_at, IsNode, AreCopies}
use Rattle.walk_net.specs.Registers.{Ends, passed, walked, followed, AreNextIds}
use Rattle.walk_net.proofs.Nodes.{tree_in, trees_apart}

-- what is written through a slice of a vector
pub written_back : {A : Type 0} (xs ys : List A) (n : ℕ) → length xs ≡ n → take n (xs ++ drop (length xs) ys) ≡ xs
written_back xs ys n e = subst (λ k. take k (xs ++ drop (length xs) ys) ≡ xs) e (take-append_seam xs (drop (length xs) ys))

pub map_at : (ns : List Shape) (ids : List NodeId) (k : ℕ) (d : NodeId) → k < length ids → tree_at (trees_by ns ids) k ≡ tree_by ns (get_or ids k d)
map_at ns [] k d l = absurd (omega arith)
map_at ns (id ∷ ids) zero d l = refl
map_at ns (id ∷ ids) (suc k) d l = map_at ns ids k d (omega arith)

pub by_in : (ns : List Shape) (ids : List NodeId) → EachOf (IsNode ns) ids → (t : Whole) → IsIn t (trees_by ns ids) → IsIn t (trees_of ns)
by_in ns [] h t i = absurd i
by_in ns (id ∷ ids) h t (inl e) = subst (λ u. IsIn u (trees_of ns)) (sym e) (tree_in ns id.0 h.0)
by_in ns (id ∷ ids) h t (inr i) = by_in ns ids h.1 t i

pub each_at : {A : Type 0} (P : A → Type 0) (xs : List A) → EachOf P xs → (k : ℕ) (d : A) → k < length xs → P (get_or xs k d)
each_at P [] h k d l = absurd (omega arith)
each_at P (x ∷ xs) h zero d l = h.0
each_at P (x ∷ xs) h (suc k) d l = each_at P xs h.1 k d (omega arith)

module _ (old new : List Shape) (ids : List (Option NodeId)) (origins : List NodeId) (c : AreCopies old new ids origins) where
  pub long : length origins ≡ length (trees_of new)
  long = sym (length-map origins (tree_by old)) ∙ ap length c.trees

  -- there are no more copies than nodes
  pub few : length origins ≤ length old
  few =
      let most : length (trees_of new) ≤ length (trees_of old) =
      no_more (trees_of new) (trees_of old) (trees_apart (trees_of new) c.shared.trees.one_id)
      (λ t i. by_in old origins c.nodes t (subst (IsIn t) (sym c.trees) i)) in
      omega (arith, long, most, trees_length old)

  -- the tree at a place
  pub tree_there : (k : ℕ) (id : NodeId) → k < length origins → get_or origins k id ≡ id → tree_at (trees_of new) k ≡ tree_of old id.0
  tree_there k id l e = ap (λ ts. tree_at ts k) (sym c.trees) ∙ map_at old origins k id l ∙ ap (tree_by old) e

  pub node_there : (k : ℕ) (id : NodeId) → k < length origins → get_or origins k id ≡ id → id.0 < length old
  node_there k id l e = subst (IsNode old) e (each_at (IsNode old) origins c.nodes k id l)

-- one place further
pub ends_step : (next : Origin → Option Whole) (k : ℕ) (ts us : List Whole) (found : Option Whole) → k < length ts → next_tree next (tree_at ts k) ≡ found → Ends next (k + 1) (followed found ts) us → Ends next k ts us
ends_step next k ts us None l e h = passed k ts us l e h
ends_step next k ts us (Some t) l e h = walked k ts us t l e h

-- the walk at a place
pub at_place : (net : NetParts) (new : List Shape) (ids : List (Option NodeId)) (origins : List NodeId) (nexts : List (Option NodeId)) → AreCopies net.nodes new ids origins → AreNextIds net nexts → (k : ℕ) (id : NodeId) → k < length origins → get_or origins k id ≡ id → (now us : List Whole) → now ≡ followed (option_map (tree_by net.nodes) (id_at nexts id.0)) (trees_of new) → Ends (next_whole net) (k + 1) now us → Ends (next_whole net) k (trees_of new) us
at_place net new ids origins nexts c n k id l e now us w h =
    let inside = node_there net.nodes new ids origins c k id l e in
    ends_step (next_whole net) k (trees_of new) us (option_map (tree_by net.nodes) (id_at nexts id.0))
    (omega (arith, long net.nodes new ids origins c))
    (ap (next_tree (next_whole net)) (tree_there net.nodes new ids origins c k id l e) ∙ sym (n.next id.0 inside))
    (subst (λ ts. Ends (next_whole net) (k + 1) ts us) w h)
