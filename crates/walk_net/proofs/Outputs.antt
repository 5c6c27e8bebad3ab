-- The outputs of a net as roots.
use Rattle.std.proofs.Common.{◌≡◌, ℕ, ◌<◌, List, [], ◌∷◌, ◌++◌, length, inl, inr, refl, ap}
use Rattle.std.specs.Prelude.{map}
use Rattle.bv_core.specs.declared.reference.NodeId.{NodeId}
use Rattle.tree_core.specs.Tree.{Whole}
use Rattle.list_core.specs.Lists.{EachOf, IsIn}
use Rattle.list_core.proofs.Lists.{each_from, in_left}
use Rattle.net_core.specs.Nodes.{Shape, tree_of}
use Rattle.net_core.specs.Nets.{outputs_of, OutputsFit}
use Rattle.walk_net.specs.Next.{trees_by}
use Rattle.walk_net.specs.Renaming.{IsNode}
use Rattle.walk_net.specs.Answer.{IsRoot, output_tree}
use Rattle.walk_net.specs.Walked.{output_nodes}
use Rattle.walk_net.proofs.NextIds.{in_got}

pub same_trees : (ns : List Shape) (outputs : List (List ℕ × NodeId)) → trees_by ns (output_nodes outputs) ≡ map (output_tree ns) (outputs_of outputs)
same_trees ns [] = refl
same_trees ns (o ∷ os) = ap (λ ts. tree_of ns o.1.0 ∷ ts) (same_trees ns os)

tree_among : (ns : List Shape) (o : List ℕ × ℕ) (outputs : List (List ℕ × ℕ)) → IsIn o outputs → IsIn (tree_of ns o.1) (map (output_tree ns) outputs)
tree_among ns o [] i = i
tree_among ns o (p ∷ ps) (inl e) = inl (ap (output_tree ns) e)
tree_among ns o (p ∷ ps) (inr i) = inr (tree_among ns o ps i)

pub are_roots : (ns : List Shape) (outputs : List (List ℕ × ℕ)) → EachOf (IsRoot ns (map (output_tree ns) outputs)) outputs
are_roots ns outputs = each_from (IsRoot ns (map (output_tree ns) outputs)) outputs (λ o i. tree_among ns o outputs i)

nodes_each : (ns : List Shape) (outputs : List (List ℕ × NodeId)) → ((o : List ℕ × ℕ) → IsIn o (outputs_of outputs) → o.1 < length ns) → EachOf (IsNode ns) (output_nodes outputs)
nodes_each ns [] h = tt
nodes_each ns (o ∷ os) h = (h (o.0, o.1.0) (inl refl), nodes_each ns os (λ p i. h p (inr i)))

pub are_nodes : (ns : List Shape) (outputs : List (List ℕ × NodeId)) → OutputsFit ns (outputs_of outputs) → EachOf (IsNode ns) (output_nodes outputs)
are_nodes ns outputs fit = nodes_each ns outputs (λ o i. let g = in_got o (outputs_of outputs) i in fit.nodes g.place o g.is)

-- with more roots behind, they are roots still
pub still_roots : (ns : List Shape) (roots more : List Whole) (outputs : List (List ℕ × ℕ)) → EachOf (IsRoot ns roots) outputs → EachOf (IsRoot ns (roots ++ more)) outputs
still_roots ns roots more [] h = tt
still_roots ns roots more (o ∷ os) h = (in_left (tree_of ns o.1) roots more h.0, still_roots ns roots more os h.1)
