-- What stands at the source of a link, by nodes.
use Rattle.std.proofs.Common.{◌≡◌, ℕ, List, Option, Some, IsSome, length, map, sym, ap, ◌∙◌, subst}
use Rattle.std.proofs.lemmas.List.{length-map}
use Rattle.bv_core.specs.declared.reference.NodeId.{NodeId}
use Rattle.tree_core.specs.Tree.{Tree, Leaf}
use Rattle.exec_core.specs.Block.{Name}
use Rattle.exec_core.specs.Design.{place, moved}
use Rattle.exec_core.specs.States.{NodeByNode}
use Rattle.exec_core.specs.Accepted.{Accepted}
use Rattle.exec_core.proofs.Folded.{nodes_by_node}
use Rattle.design_core.specs.Design as design
use Rattle.design_exec.specs.Processes.{processes_of}
use Rattle.net_core.specs.Nodes.{Shape}
use Rattle.net_core.specs.Builder.{Stands}
use Rattle.place_core.specs.Orders.{Pair, TellsOrder, signal_at}
use Rattle.check_exec.proofs.Orders.{orders_are_accepted}
use Rattle.term_net.specs.Growth.{Grown}
use Rattle.term_net.specs.Leaves.{IsReady, leaf_id, leaf_tree, whole_of}
use Rattle.term_net.proofs.Fitting.{stands_more, nodes_more}
use Rattle.ssa_nodes.specs.State.{names_in}
use Rattle.ssa_nodes.proofs.Placed.{folds_to, ready_from}
use Rattle.ssa_nodes.specs.declared.parts.Parts as code
use Rattle.ssa_nodes.specs.Parts.{HasParts, HasSignals, IsReadyBy, StandsBy, all_in, design_in, folded_of}

-- as many places as pairs
same_length : {A B C : Type 0} (f : A → C) (g : B → C) (xs : List A) (ys : List B) → map f xs ≡ map g ys → length xs ≡ length ys
same_length f g xs ys e = sym (length-map xs f) ∙ ap length e ∙ length-map ys g

pub order_length : (d : design.Design) (pairs : List Pair) (told : TellsOrder d pairs) → length told.order ≡ length pairs
order_length d pairs told = sym (same_length (signal_at d) (λ p. Some p) pairs told.order told.signals)

module _ (p : code.Parts) (h : HasParts p) where
  pub accepted : Accepted (processes_of (design_in p)) h.parts.told.order
  accepted = orders_are_accepted (design_in p) p.order.now h.parts.sound h.parts.told

  pub by_node : NodeByNode (processes_of (design_in p)) (length p.order.now)
  by_node = subst (NodeByNode (processes_of (design_in p))) (order_length (design_in p) p.order.now h.parts.told) (nodes_by_node (processes_of (design_in p)) h.parts.told.order accepted)

  -- a tree over an instance's names: it can have a node, and the node stands for the folded whole tree
  pub ready_here : (ns : List Shape) (nodes : List (Option NodeId)) (i : ℕ) (t : Tree Name) → HasSignals p ns nodes → IsReadyBy p nodes (moved i t) → IsReady (leaf_id (names_in (all_in p) i) nodes) (leaf_tree ns (names_in (all_in p) i) nodes) t
  ready_here ns nodes i t s r = (ready_from (processes_of (design_in p)) (length p.order.now) by_node (all_in p) ns nodes s.shared s.signals i t r.formed r.known).0

  pub folds_here : (ns : List Shape) (nodes : List (Option NodeId)) (i : ℕ) (t : Tree Name) → HasSignals p ns nodes → IsReadyBy p nodes (moved i t) → whole_of (leaf_tree ns (names_in (all_in p) i) nodes) t ≡ folded_of p (moved i t)
  folds_here ns nodes i t s r = folds_to (processes_of (design_in p)) (length p.order.now) by_node (all_in p) ns nodes s.shared s.signals i t r.known

  -- signals keep their nodes as the builder grows
  pub signals_more : (old new : List Shape) (nodes : List (Option NodeId)) → Grown old new → HasSignals p old nodes → HasSignals p new nodes
  signals_more old new nodes g s = record {
    shared = g.shared;
    placed = nodes_more old new nodes g.keeps s.placed;
    signals = record { told = λ q id e. stands_more old new id.0 (folded_of p (Leaf q)) g.keeps (s.signals.told q id e) };
  }

  -- what was evaluated stands for the folded whole tree
  pub stands_here : (old new : List Shape) (nodes : List (Option NodeId)) (i : ℕ) (t : Tree Name) (names : Name → Option ℕ) (id : NodeId) → names ≡ names_in (all_in p) i → HasSignals p old nodes → Grown old new → IsReadyBy p nodes (moved i t) →
      Stands new id.0 (whole_of (leaf_tree new names nodes) t) → StandsBy p new (moved i t) id
  stands_here old new nodes i t names id e s g r stands =
      record { within = stands.within; tree = stands.tree ∙ ap (λ (f : Name → Option ℕ). whole_of (leaf_tree new f nodes) t) e ∙ folds_here new nodes i t (signals_more old new nodes g s) r }

  -- a name that has a node
  pub leaf_stands : (ns : List Shape) (nodes : List (Option NodeId)) (i : ℕ) (x : Name) (names : Name → Option ℕ) (o : Option NodeId) (id : NodeId) → names ≡ names_in (all_in p) i → HasSignals p ns nodes → o ≡ leaf_id names nodes x → o ≡ Some id →
      StandsBy p ns (Leaf (place i x)) id
  leaf_stands ns nodes i x names o id e s is found = s.signals.told (place i x) id (sym (is ∙ ap (λ (f : Name → Option ℕ). leaf_id f nodes x) e) ∙ found)

  pub leaf_some : (nodes : List (Option NodeId)) (i : ℕ) (x : Name) (names : Name → Option ℕ) (o : Option NodeId) → names ≡ names_in (all_in p) i → o ≡ leaf_id names nodes x → IsReadyBy p nodes (Leaf (place i x)) → IsSome o
  leaf_some nodes i x names o e is r = subst IsSome (sym (is ∙ ap (λ (f : Name → Option ℕ). leaf_id f nodes x) e)) r.known
