-- The equations of a net have exactly one solution.
use Rattle.std.proofs.Common.{◌≡◌, ℕ, zero, suc, ◌+◌, ◌<◌, List, length, refl, sym, ap, ap₂, ◌∙◌, arith}
use Rattle.bv_core.specs.Value.{Bits}
use Rattle.bv_core.specs.Operators.{apply1_of, apply2_of, choose_of}
use Rattle.tree_core.specs.Tree as tree
use Rattle.net_core.specs.Nodes.{Shape, Fixed, TopInput, Register, OfOne, OfTwo, OfMux, shape_at, tree_at, node_tree, trees_of, tree_of, OperandsBelow, AreNumbered}
use Rattle.net_core.specs.Nets.{equation, Solves, NetsHaveOneSolution}
use Rattle.net_core.proofs.TreeLists.{tree_is}

-- the value of a node's tree meets its equation
node_value : (E : tree.Origin → Bits) (ts : List tree.Whole) (n : Shape) → tree.value_of E (node_tree ts n) ≡ equation E (λ j. tree.value_of E (tree_at ts j)) n
node_value E ts (Fixed b) = refl
node_value E ts (TopInput name width) = refl
node_value E ts (Register instance name start) = refl
node_value E ts (OfOne op a) = refl
node_value E ts (OfTwo op a b) = refl
node_value E ts (OfMux c a b) = refl

-- an equation depends on the values of the operands alone
equation_along : (E : tree.Origin → Bits) (V W : ℕ → Bits) (k : ℕ) (n : Shape) → ((i : ℕ) → i < k → V i ≡ W i) → OperandsBelow k n → equation E V n ≡ equation E W n
equation_along E V W k (Fixed b) same h = refl
equation_along E V W k (TopInput name width) same h = refl
equation_along E V W k (Register instance name start) same h = refl
equation_along E V W k (OfOne op a) same h = ap (apply1_of op) (same a h)
equation_along E V W k (OfTwo op a b) same h = ap₂ (apply2_of op) (same a h.0) (same b h.1)
equation_along E V W k (OfMux c a b) same h = λ i. choose_of (same c h.0 i) (same a h.1 i) (same b h.2 i)

solved : (ns : List Shape) → AreNumbered ns → (E : tree.Origin → Bits) → Solves ns E (λ j. tree.value_of E (tree_of ns j))
solved ns f E j h = ap (tree.value_of E) (tree_is ns f j h) ∙ node_value E (trees_of ns) (shape_at ns j)

-- two solutions agree below each number
agree : (ns : List Shape) → AreNumbered ns → (E : tree.Origin → Bits) (V W : ℕ → Bits) → Solves ns E V → Solves ns E W → (k j : ℕ) → j < k → j < length ns → V j ≡ W j
agree ns f E V W v w zero j l h = absurd (omega arith)
agree ns f E V W v w (suc k) j l h =
    v j h
    ∙ equation_along E V W j (shape_at ns j) (λ i m. agree ns f E V W v w k i (omega arith) (omega arith)) (f.below j h)
    ∙ sym (w j h)

pub one_solution : NetsHaveOneSolution
one_solution ns f E = record {
  solves = solved ns f E;
  only = λ V v j h. agree ns f E V (λ i. tree.value_of E (tree_of ns i)) v (solved ns f E) (j + 1) j (omega arith) h;
}
