-- Nodes of what is given.
use Rattle.std.proofs.Common.{◌≡◌, ℕ, zero, suc, ◌+◌, ◌<◌, List, [], ◌∷◌, length, map, take, get_or, Option, Some, None, inl, inr, ⊎_elim, refl, sym, ap, ◌∙◌, subst, arith}
use Rattle.std.specs.Prelude.{slice_index_or}
use Rattle.std.proofs.Math.ListN.{set}
use Rattle.std.proofs.lemmas.List.{get_or-set_same, get_or-set_other}
use Rattle.std.proofs.lemmas.Option.{same_Some, none-some}
use Rattle.bv_core.specs.declared.reference.NodeId.{NodeId}
use Rattle.tree_core.specs.Tree.{Leaf, Origin}
use Rattle.list_core.specs.Lists.{EachOf, IsIn}
use Rattle.exec_core.specs.Whole.{Place}
use Rattle.exec_core.specs.Accepted.{GivenFits}
use Rattle.list_core.proofs.Lists.{each_member}
use Rattle.exec_core.proofs.Sources.{given_found}
use Rattle.design_exec.specs.Processes.{processes_of}
use Rattle.net_core.specs.Nodes.{Shape}
use Rattle.net_core.specs.Builder.{AreShared, Stands, Adds, Keeps}
use Rattle.check_exec.proofs.Facts.{each_joined}
use Rattle.place_core.specs.Numbering.{number_in}
use Rattle.term_net.specs.Leaves.{node_at, node_in}
use Rattle.term_net.proofs.Fitting.{stands_more, nodes_more}
use Rattle.term_net.proofs.Placing.{nodes_set}
use Rattle.list_core.proofs.Growing.{more_of}
use Rattle.list_core.proofs.Listing.{same_get}
use Rattle.ssa_core.proofs.Places.{same_or_not}
use Rattle.ssa_nodes.specs.State.{node_of, HasNode, AllOverGivens}
use Rattle.ssa_nodes.specs.declared.parts.Parts as code
use Rattle.ssa_nodes.specs.Parts.{HasParts, HasSignals, StandsBy, all_in, design_in, folded_of}
use Rattle.ssa_nodes.specs.Driving.{Resolved, GivenHave}
use Rattle.ssa_nodes.proofs.Sources.{accepted, by_node}
use Rattle.ssa_nodes.proofs.Over.{over_leaf}
use Rattle.ssa_nodes.specs.declared.given.Given.{Given}
use Rattle.ssa_nodes.specs.Givens.{given_as}

-- each of these has a node
abbrev pub HaveNodes : code.Parts → List (Option NodeId) → List Given → Type 0
HaveNodes p nodes list = EachOf (λ g. HasNode (all_in p) nodes (given_as g).0) list

pub have_kept : (p : code.Parts) (old new : List (Option NodeId)) (q : Place) (list : List Given) → Resolved p old new q → HaveNodes p old list → HaveNodes p new list
have_kept p old new q [] r h = tt
have_kept p old new q (g ∷ list) r h = (r.kept (given_as g).0 h.0, have_kept p old new q list r h.1)

pub have_more : (p : code.Parts) (old new : List (Option NodeId)) (list : List Given) (k : ℕ) (g : Given) → k < length list → g ≡ get_or list k g → Resolved p old new (given_as g).0 → HaveNodes p old (take k list) → HaveNodes p new (take (k + 1) list)
have_more p old new list k g below at r h =
    subst (HaveNodes p new) (sym (more_of list k g below at))
    (each_joined (λ g. HasNode (all_in p) new (given_as g).0) (take k list) (g ∷ []) (have_kept p old new (given_as g).0 (take k list) r h) (r.has, tt))

-- the same of the one at a place
pub have_next : (p : code.Parts) (old new : List (Option NodeId)) (list : List Given) (k : ℕ) (z : Given) → k < length list → Resolved p old new (given_as (slice_index_or list k z)).0 → HaveNodes p old (take k list) → HaveNodes p new (take (k + 1) list)
have_next p old new list k z below r h = have_more p old new list k (slice_index_or list k z) below (same_get list k z (slice_index_or list k z) below) r h

member_has : (p : code.Parts) (nodes : List (Option NodeId)) (list : List Given) (q : Place × Origin) → HaveNodes p nodes list → IsIn q (map given_as list) → HasNode (all_in p) nodes q.0
member_has p nodes [] q h i = absurd i
member_has p nodes (g ∷ list) q h (inl e) = subst (λ (r : Place × Origin). HasNode (all_in p) nodes r.0) (sym e) h.0
member_has p nodes (g ∷ list) q h (inr i) = member_has p nodes list q h.1 i

in_mapped : {A B : Type 0} (f : A → B) (xs : List A) (k : ℕ) (x : A) → k < length xs → x ≡ get_or xs k x → IsIn (f x) (map f xs)
in_mapped f [] k x l e = absurd (let never : ⊥ = omega arith in never)
in_mapped f (y ∷ ys) zero x l e = inl (ap f e)
in_mapped f (y ∷ ys) (suc k) x l e = inr (in_mapped f ys k x (omega arith) e)

module _ (p : code.Parts) (h : HasParts p) where
  pub all_given : (nodes : List (Option NodeId)) (list : List Given) → map given_as list ≡ (processes_of (design_in p)).givens → HaveNodes p nodes list → GivenHave p nodes
  all_given nodes list is have q g =
      let found = given_found (processes_of (design_in p)) h.parts.told.order (accepted p h) q g in
      subst (HasNode (all_in p) nodes) found.2 (member_has p nodes list found.0 have (subst (IsIn found.0) (sym is) found.1))

  pub given_in : (list : List Given) (k : ℕ) (g : Given) → map given_as list ≡ (processes_of (design_in p)).givens → k < length list → g ≡ get_or list k g → IsIn (given_as g) (processes_of (design_in p)).givens
  given_in list k g is below at = subst (IsIn (given_as g)) is (in_mapped given_as list k g below at)

  pub next_in : (list : List Given) (k : ℕ) (z : Given) → map given_as list ≡ (processes_of (design_in p)).givens → k < length list → IsIn (given_as (slice_index_or list k z)) (processes_of (design_in p)).givens
  next_in list k z is below = given_in list k (slice_index_or list k z) is below (same_get list k z (slice_index_or list k z) below)

  pub fits : (q : Place × Origin) → IsIn q (processes_of (design_in p)).givens → GivenFits (processes_of (design_in p)) q
  fits q m = each_member (GivenFits (processes_of (design_in p))) (processes_of (design_in p)).givens (accepted p h).givens q m

  -- the node of an origin stands for what has it
  pub origin_stands : (ns : List Shape) (q : Place × Origin) (id : NodeId) → IsIn q (processes_of (design_in p)).givens → Stands ns id.0 (Leaf q.1) → StandsBy p ns (Leaf q.0) id
  origin_stands ns q id m s = subst (Stands ns id.0) (sym (each_member (λ (given : Place × Origin). folded_of p (Leaf given.0) ≡ Leaf given.1) (processes_of (design_in p)).givens (by_node p h).given q m)) s

  pub signals_set : (old ns : List Shape) (nodes : List (Option NodeId)) (n : ℕ) (id : NodeId) (q : Place) → Keeps old ns → AreShared ns → n < length nodes → number_in (all_in p) q ≡ Some n → node_at nodes n ≡ None →
      StandsBy p ns (Leaf q) id → HasSignals p old nodes → HasSignals p ns (set nodes n (Some id))
  signals_set old ns nodes n id q keeps shared within at none stands s = record {
    shared = shared;
    placed = nodes_set ns nodes n id stands.within within (nodes_more old ns nodes keeps s.placed);
    signals = record { told = told };
  }
    where
      told : (r : Place) (i : NodeId) → node_of (all_in p) (set nodes n (Some id)) r ≡ Some i → Stands ns i.0 (folded_of p (Leaf r))
      told r i e = by_number (number_in (all_in p) r) refl e
        where
          by_number : (o : Option ℕ) → number_in (all_in p) r ≡ o → node_in (set nodes n (Some id)) o ≡ Some i → Stands ns i.0 (folded_of p (Leaf r))
          by_number None is has = absurd (none-some i has)
          by_number (Some k) is has = ⊎_elim here there (same_or_not k n)
            where
              here : k ≡ n → Stands ns i.0 (folded_of p (Leaf r))
              here same =
                  let same_place : q ≡ r = h.parts.apart.apart q r n at (is ∙ ap (λ j. Some j) same) in
                  let is_id : id ≡ i = same_Some id i (sym (get_or-set_same nodes n (Some id) None within) ∙ ap (node_at (set nodes n (Some id))) (sym same) ∙ has) in
                  subst (λ (j : NodeId). Stands ns j.0 (folded_of p (Leaf r))) is_id (subst (λ u. Stands ns id.0 (folded_of p (Leaf u))) same_place stands)

              there : (k ≡ n → ⊥) → Stands ns i.0 (folded_of p (Leaf r))
              there other = stands_more old ns i.0 (folded_of p (Leaf r)) keeps (s.signals.told r i (ap (node_in nodes) is ∙ sym (get_or-set_other nodes n k (Some id) None other) ∙ has))

  pub over_given : (old new : List Shape) (q : Place × Origin) → IsIn q (processes_of (design_in p)).givens → Adds old new (Leaf q.1) → AllOverGivens (processes_of (design_in p)) old → AllOverGivens (processes_of (design_in p)) new
  over_given old new q m adds over = over_leaf (processes_of (design_in p)) old new q m adds over
