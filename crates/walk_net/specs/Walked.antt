-- What a walk over a net leaves, and what a net is finished with.
use Rattle.std.specs.Prelude.{◌≡◌, ℕ, ◌<◌, List, [], ◌∷◌, ◌++◌, length, map, Option, Some, None}
use Rattle.bv_core.specs.declared.reference.NodeId.{NodeId}
use Rattle.tree_core.specs.Tree.{Whole}
use Rattle.list_core.specs.Lists.{IsIn}
use Rattle.net_core.specs.Nodes.{Shape, trees_of, tree_of}
use Rattle.net_core.specs.Builder.{AreShared}
use Rattle.net_core.specs.Nets.{NetParts}
use Rattle.walk_net.specs.Next.{next_whole}
use Rattle.walk_net.specs.Renaming.{id_at, IsIdOf}
use Rattle.walk_net.specs.Answer.{AreNumbers}

-- what the walk over a net comes to: its trees, numbered, and for each of its nodes the number of its tree, if it has one
pub record IsWalked (net : NetParts) (roots : List Whole) (new : List Shape) (ids : List (Option NodeId)) : Type 0 where
  pub shared : AreShared new
  pub trees : AreNumbers roots (next_whole net) (trees_of new)
  pub among : (t : Whole) → IsIn t (trees_of new) → IsIn t (trees_of net.nodes)
  pub long : length ids ≡ length net.nodes
  pub each : (j : ℕ) → j < length net.nodes → IsIdOf new (tree_of net.nodes j) (id_at ids j)

-- the nodes of outputs
abbrev pub output_node : List ℕ × NodeId → NodeId
output_node output = output.1

abbrev pub output_nodes : List (List ℕ × NodeId) → List NodeId
output_nodes outputs = map output_node outputs

-- the outputs and next values over the ids that their nodes got, where they got one
abbrev pub kept_output : List ℕ → Option NodeId → List (List ℕ × ℕ)
kept_output name None = []
kept_output name (Some id) = (name, id.0) ∷ []

abbrev pub kept_outputs : List (Option NodeId) → List (List ℕ × ℕ) → List (List ℕ × ℕ)
kept_outputs ids [] = []
kept_outputs ids (o ∷ outputs) = kept_output o.0 (id_at ids o.1) ++ kept_outputs ids outputs

abbrev pub kept_next : Option NodeId → Option NodeId → List (ℕ × ℕ)
kept_next None next = []
kept_next (Some register) None = []
kept_next (Some register) (Some next) = (register.0, next.0) ∷ []

abbrev pub kept_nexts : List (Option NodeId) → List (ℕ × ℕ) → List (ℕ × ℕ)
kept_nexts ids [] = []
kept_nexts ids (pair ∷ pairs) = kept_next (id_at ids pair.0) (id_at ids pair.1) ++ kept_nexts ids pairs
