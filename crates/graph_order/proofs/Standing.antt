-- Orders that grow, and that no graph has both an order and a cycle.
use Rattle.std.proofs.Common.{ℕ, zero, suc, ◌<◌, List, [], ◌∷◌, ◌++◌, length, sym, subst, arith, append_assoc, inl, inr}
use Rattle.std.proofs.lemmas.List.{append-nil}
use Rattle.list_core.specs.Lists.{EachOf, IsIn}
use Rattle.graph_order.specs.Graphs.{Graph, edges_of, HasEdge}
use Rattle.graph_order.specs.Orders.{StandsAfter}
use Rattle.graph_order.specs.Cycles.{Leads, WalksHaveNoOrder, CyclesHaveNoOrder}
use Rattle.list_core.proofs.Lists.{in_left, in_cases, each_member, each_map}

pub stands_push : (g : Graph) (before vs : List ℕ) (v : ℕ) → StandsAfter g before vs → (IsIn v (before ++ vs) → ⊥) → EachOf (λ w. IsIn w (before ++ vs)) (edges_of g v) → StandsAfter g before (vs ++ v ∷ [])
stands_push g before [] v s n e =
    let P : List ℕ → Type 0 = λ ws. (IsIn v ws → ⊥) × EachOf (λ w. IsIn w ws) (edges_of g v) in
    let both = subst P (append-nil before) (n, e) in
    (both.0, both.1, tt)
stands_push g before (x ∷ vs) v s n e =
    let P : List ℕ → Type 0 = λ ws. (IsIn v ws → ⊥) × EachOf (λ w. IsIn w ws) (edges_of g v) in
    let both = subst P (sym (append_assoc before (x ∷ []) vs)) (n, e) in
    (s.0, s.1, stands_push g (before ++ x ∷ []) vs v s.2 both.0 both.1)

-- a list of vertices with all that they have edges to
abbrev pub IsClosed : Graph → List ℕ → Type 0
IsClosed g vs = (v : ℕ) → IsIn v vs → EachOf (λ w. IsIn w vs) (edges_of g v)

pub stays : (g : Graph) (before : List ℕ) (v : ℕ) (xs : List ℕ) (w : ℕ) → IsClosed g before → EachOf (λ u. IsIn u before) (edges_of g v) → Leads g v xs w → IsIn w before
unfolding IsClosed
stays g before v [] w c e l = each_member (λ u. IsIn u before) (edges_of g v) e w l
stays g before v (x ∷ xs) w c e l = stays g before x xs w c (c x (each_member (λ u. IsIn u before) (edges_of g v) e x l.0)) l.1

pub closed_push : (g : Graph) (before : List ℕ) (v : ℕ) → IsClosed g before → EachOf (λ u. IsIn u before) (edges_of g v) → IsClosed g (before ++ v ∷ [])
unfolding IsClosed
closed_push g before v c e u h =
    each_map (λ w. IsIn w before) (λ w. IsIn w (before ++ v ∷ [])) (edges_of g u) (λ w k. in_left w before (v ∷ []) k)
    (elim (in_cases u before (v ∷ []) h) [
      | inl l ↦ c u l
      | inr r ↦ elim r [ inl same ↦ subst (λ (z : ℕ). EachOf (λ w. IsIn w before) (edges_of g z)) (sym same) e | inr k ↦ absurd k ]
    ])

no_walk : (g : Graph) (before vs : List ℕ) (v : ℕ) (xs : List ℕ) → StandsAfter g before vs → IsClosed g before → IsIn v vs → Leads g v xs v → ⊥
no_walk g before [] v xs s c h l = h
no_walk g before (y ∷ vs) v xs s c h l =
    elim h [
      | inl same ↦
          let e = subst (λ (z : ℕ). EachOf (λ w. IsIn w before) (edges_of g z)) (sym same) s.1 in
          s.0 (subst (λ (z : ℕ). IsIn z before) same (stays g before v xs v c e l))
      | inr k ↦ no_walk g (before ++ y ∷ []) vs v xs s.2 (closed_push g before y c s.1) k l
    ]

-- what has an edge is a vertex
pub edge_within : (g : Graph) (v w : ℕ) → HasEdge g v w → v < length g
edge_within [] v w h = absurd h
edge_within (ws ∷ g) zero w h = omega arith
edge_within (ws ∷ g) (suc v) w h = omega (arith, edge_within g v w h)

walk_within : (g : Graph) (v : ℕ) (xs : List ℕ) (w : ℕ) → Leads g v xs w → v < length g
walk_within g v [] w l = edge_within g v w l
walk_within g v (x ∷ xs) w l = edge_within g v x l.0

pub none_closed : (g : Graph) → IsClosed g []
unfolding IsClosed
none_closed g v h = absurd h

pub walks_have_no_order : WalksHaveNoOrder
walks_have_no_order g order v vs o l = no_walk g [] order v vs o.in_order (none_closed g) (o.all v (walk_within g v vs v l)) l

pub cycles_have_no_order : CyclesHaveNoOrder
cycles_have_no_order g order [] o c = c
cycles_have_no_order g order (v ∷ vs) o c = walks_have_no_order g order v vs o c.0
