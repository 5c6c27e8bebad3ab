-- Graphs that grow by versions.
use Rattle.std.proofs.Common.{◌≡◌, ℕ, ◌<◌, ◌≤◌, ◌+◌, Bool, true, false, List, [], ◌∷◌, ◌++◌, inl, inr, Option, Some, None, option_map, length, refl, sym, subst, ap, ◌∙◌, arith, length-append, true≢false}
use Rattle.std.proofs.lemmas.Bool.{cases_lt, cases_eq}
use Rattle.std.proofs.lemmas.List.{get_or_append_left, get_or_push, get_or_past}
use Rattle.list_core.specs.Lists.{EachOf}
use Rattle.graph_order.specs.Graphs.{Graph, edges_of, IsGraph}
use Rattle.list_core.proofs.Lists.{each_map}
use Rattle.dep_order.specs.Reaching.{KeepsVersions}
use Rattle.dep_order.specs.Standing.{AreVertices}
use Rattle.dep_order.specs.Blocks.{Grown}

pub grown_same : (g : Graph) → Grown g g
grown_same g = record {
  longer = omega arith;
  kept = λ v h. refl;
  lower = λ v h. subst (EachOf (λ w. w < v)) (sym (get_or_past g v [] h)) tt;
}

pub grown_after : (g h k : Graph) → Grown g h → Grown h k → Grown g k
grown_after g h k a b = record {
  longer = omega (arith, a.longer, b.longer);
  kept = λ v i. b.kept v (omega (arith, a.longer)) ∙ a.kept v i;
  lower = λ v i. elim (cases_lt v (length h)) [
    | inl low ↦ subst (EachOf (λ w. w < v)) (sym (b.kept v low)) (a.lower v i)
    | inr high ↦ b.lower v high
  ];
}

pub grown_graph : (g h : Graph) → IsGraph g → Grown g h → IsGraph h
grown_graph g h is a v =
    elim (cases_lt v (length g)) [
      | inl low ↦ subst (EachOf (λ w. w < length h)) (sym (a.kept v low)) (each_map (λ w. w < length g) (λ w. w < length h) (edges_of g v) (λ w i. omega (arith, a.longer)) (is v))
      | inr high ↦ elim (cases_lt v (length h)) [
        | inl low ↦ each_map (λ w. w < v) (λ w. w < length h) (edges_of h v) (λ w i. omega arith) (a.lower v high)
        | inr past ↦ subst (EachOf (λ w. w < length h)) (sym (get_or_past h v [] past)) tt
      ]
    ]

pub grown_keeps : (signals : ℕ) (g h : Graph) → Grown g h → KeepsVersions signals g h
grown_keeps signals g h a v high low = a.kept v low

pub grown_push : (g : Graph) (vs : List ℕ) → EachOf (λ w. w < length g) vs → Grown g (g ++ vs ∷ [])
grown_push g vs e = record {
  longer = omega (arith, length-append g (vs ∷ []));
  kept = λ v h. get_or_append_left g (vs ∷ []) [] v h;
  lower = λ v h. elim (cases_eq (length g) v) [
    | inl same ↦ subst (EachOf (λ w. w < v)) (sym (get_or_push g vs [] v same)) (each_map (λ w. w < length g) (λ w. w < v) vs (λ w i. omega arith) e)
    | inr other ↦ subst (EachOf (λ w. w < v)) (sym (get_or_past (g ++ vs ∷ []) v [] (past_push g vs v h other))) tt
  ];
}
  where
    past_push : (g : Graph) (vs : List ℕ) (v : ℕ) → length g ≤ v → (length g ≡ v → ⊥) → length (g ++ vs ∷ []) ≤ v
    past_push g vs v h n = omega (arith, length-append g (vs ∷ []))

-- ---- what stands for a tree

pub vertices_more : (n m : ℕ) (o : Option (List ℕ)) → n ≤ m → AreVertices n o → AreVertices m o
vertices_more n m None h a = tt
vertices_more n m (Some vs) h a = each_map (λ v. v < n) (λ v. v < m) vs (λ v i. omega arith) a

pub grown_add : (g h : Graph) (vs : List ℕ) → EachOf (λ w. w < length g) vs → h ≡ g ++ vs ∷ [] → Grown g h
grown_add g h vs e is = subst (Grown g) (sym is) (grown_push g vs e)

pub within_more : (n : ℕ) (vs : List ℕ) → EachOf (λ v. v < n) vs → EachOf (λ v. v < n + 1) vs
within_more n vs e = each_map (λ v. v < n) (λ v. v < n + 1) vs (λ v h. omega arith) e
