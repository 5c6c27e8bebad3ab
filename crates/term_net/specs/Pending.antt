-- Terms that wait for nodes of their operands.
use Rattle.std.specs.Prelude.{◌≡◌, ◌⊎◌, pos, ℕ, ◌+◌, ◌*◌, ◌<◌, List, [], ◌∷◌, ◌++◌, length, Option, Some, None, IsSome, slice_index_or, slice_set}
use Rattle.bv_core.specs.declared.reference.NodeId.{NodeId}
use Rattle.exec_core.specs.Block.{Name}
use Rattle.net_core.specs.Nodes.{Shape}
use Rattle.block_net.specs.declared.term.Term.{Term}
use Rattle.block_net.specs.declared.term.Term.TheVariants.{Leaf, Value, Unary, Binary, Mux, Zext, Slice}
use Rattle.block_net.specs.declared.term.TermId.{TermId}
use Rattle.block_net.specs.Terms.{tree_at, trees_of}
use Rattle.term_net.specs.Leaves.{node_at, leaf_id, leaf_tree, IsReady}

-- the term of a number; any where there is none
abbrev pub term_at : List Term → ℕ → Term
term_at terms k = slice_index_or terms k (Value (pos 1) 0)

-- an operand of a term has this number
abbrev pub IsOperand : ℕ → Term → Type 0
IsOperand k (Leaf x) = ⊥
IsOperand k (Value w v) = ⊥
IsOperand k (Unary op a) = k ≡ a.0
IsOperand k (Binary op a b) = (k ≡ a.0) ⊎ (k ≡ b.0)
IsOperand k (Mux c a b) = (k ≡ c.0) ⊎ ((k ≡ a.0) ⊎ (k ≡ b.0))
IsOperand k (Zext a w) = k ≡ a.0
IsOperand k (Slice a h l) = k ≡ a.0

-- each operand of a term has a node
abbrev pub AreKnown : List (Option NodeId) → Term → Type 0
AreKnown memo (Leaf x) = Unit {0}
AreKnown memo (Value w v) = Unit {0}
AreKnown memo (Unary op a) = IsSome (node_at memo a.0)
AreKnown memo (Binary op a b) = IsSome (node_at memo a.0) × IsSome (node_at memo b.0)
AreKnown memo (Mux c a b) = IsSome (node_at memo c.0) × IsSome (node_at memo a.0) × IsSome (node_at memo b.0)
AreKnown memo (Zext a w) = IsSome (node_at memo a.0)
AreKnown memo (Slice a h l) = IsSome (node_at memo a.0)

-- an operand of a term that has no node yet
pub record IsMissing (memo : List (Option NodeId)) (term : Term) (k : ℕ) : Type 0 where
  pub operand : IsOperand k term
  pub unknown : node_at memo k ≡ None

-- a term that has no node yet, whose tree can have one
pub record IsPending (ns : List Shape) (places : Name → Option ℕ) (nodes : List (Option NodeId)) (terms : List Term) (memo : List (Option NodeId)) (k : ℕ) : Type 0 where
  pub unknown : node_at memo k ≡ None
  pub ready : IsReady (leaf_id places nodes) (leaf_tree ns places nodes) (tree_at (trees_of terms) k)

-- pending terms with falling numbers below a bound; the last is the top
abbrev pub Fall : (ℕ → Type 0) → ℕ → List TermId → Type 0
Fall P bound [] = Unit {0}
Fall P bound (u ∷ stack) = (u.0 < bound) × P u.0 × Fall P u.0 stack

-- the same, all above a number
abbrev pub FallTo : (ℕ → Type 0) → ℕ → List TermId → ℕ → Type 0
FallTo P bound [] k = k < bound
FallTo P bound (u ∷ stack) k = (u.0 < bound) × P u.0 × FallTo P u.0 stack k

-- the top of a stack, or the root where it is empty
abbrev pub top_of : ℕ → List TermId → ℕ
top_of root [] = root
top_of root (u ∷ stack) = top_of u.0 stack

-- the top was taken, or the root where there was none
abbrev pub IsTaken : List TermId → List TermId → TermId → TermId → Type 0
IsTaken old new root top = (old ≡ new ++ top ∷ []) ⊎ ((old ≡ []) × (new ≡ []) × (top ≡ root))

-- how many have no node
abbrev pub unknown_count : List (Option NodeId) → ℕ
unknown_count [] = 0
unknown_count (None ∷ memo) = unknown_count memo + 1
unknown_count (Some id ∷ memo) = unknown_count memo

-- what is left to do: it falls with each term that is put off for an operand, and with each that gets its node
abbrev pub work : ℕ → List (Option NodeId) → List TermId → ℕ
work root memo stack = unknown_count memo * (length memo + 1) + top_of root stack

-- a term that had no node has one
pub record GetsNode (old new : List (Option NodeId)) (k : ℕ) : Type 0 where
  pub id : NodeId
  pub is : new ≡ slice_set old k (Some id)
