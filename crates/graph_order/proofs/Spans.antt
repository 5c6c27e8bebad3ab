-- Two flat lists as a graph.
use Rattle.std.proofs.Common.{◌≡◌, ℕ, zero, suc, ◌<◌, ◌≤◌, ◌+◌, ◌-◌, ◌^◌, List, [], ◌∷◌, ◌++◌, length, take, drop, set, get_or, refl, sym, subst, ap, ap₂, ◌∙◌, arith, length-append, length-drop, length-set}
use Rattle.std.proofs.lemmas.List.{take-append-le, drop-append-le, drop_at, take_all, map_push, map-set, get_or-map, length-map}
use Rattle.list_core.specs.Lists.{EachOf}
use Rattle.graph_order.specs.Graphs.{Graph, edges_of, IsGraph}
use Rattle.graph_order.specs.Flat.{edges_in, graph_of, IsWithin, IsFlat}
use Rattle.graph_order.specs.declared.graph.Span.{Span}
use Rattle.list_core.proofs.Lists.{each_map, each_append}

within_more : (n m : ℕ) (spans : List Span) → n ≤ m → EachOf (IsWithin n) spans → EachOf (IsWithin m) spans
within_more n m spans h e = each_map (IsWithin n) (IsWithin m) spans (λ s k. (k.0, omega (arith, k.1))) e

edges_more : (ends more : List ℕ) (s : Span) → IsWithin (length ends) s → edges_in (ends ++ more) s ≡ edges_in ends s
edges_more ends more s h =
    let low : s.first ≤ length ends = omega (arith, h.0, h.1) in
    let long : s.past - s.first ≤ length (drop s.first ends) = omega (arith, length-drop s.first ends, h.1) in
    ap (take (s.past - s.first)) (drop-append-le s.first ends more low) ∙ take-append-le (s.past - s.first) (drop s.first ends) more long

graph_more : (ends more : List ℕ) (spans : List Span) → EachOf (IsWithin (length ends)) spans → graph_of (ends ++ more) spans ≡ graph_of ends spans
graph_more ends more [] e = refl
graph_more ends more (s ∷ spans) e = ap₂ (λ (a : List ℕ) (b : Graph). a ∷ b) (edges_more ends more s e.0) (graph_more ends more spans e.1)

new_span : List ℕ → List ℕ → Span
new_span ends more = record { first = length ends; past = length (ends ++ more) }

edges_new : (ends more : List ℕ) → edges_in (ends ++ more) (new_span ends more) ≡ more
unfolding new_span
edges_new ends more =
    ap (take (length (ends ++ more) - length ends)) (drop_at ends more (length ends) refl)
    ∙ take_all (length (ends ++ more) - length ends) more (omega (arith, length-append ends more))

-- a graph whose edges lead below n
EdgesBelow : ℕ → Graph → Type 0
EdgesBelow n g = (v : ℕ) → EachOf (λ w. w < n) (edges_of g v)

below_push : (n : ℕ) (g : Graph) (next : List ℕ) → EdgesBelow n g → EachOf (λ w. w < n) next → EdgesBelow n (g ++ next ∷ [])
unfolding EdgesBelow
below_push n [] next b e zero = e
below_push n [] next b e (suc v) = tt
below_push n (ws ∷ g) next b e zero = b zero
below_push n (ws ∷ g) next b e (suc v) = below_push n g next (λ u. b (suc u)) e v

below_set : (n : ℕ) (g : Graph) (i : ℕ) (next : List ℕ) → EdgesBelow n g → EachOf (λ w. w < n) next → EdgesBelow n (set g i next)
unfolding EdgesBelow
below_set n [] i next b e v = tt
below_set n (ws ∷ g) zero next b e zero = e
below_set n (ws ∷ g) zero next b e (suc v) = b (suc v)
below_set n (ws ∷ g) (suc i) next b e zero = b zero
below_set n (ws ∷ g) (suc i) next b e (suc v) = below_set n g i next (λ u. b (suc u)) e v

pub graph_push : (g : Graph) (next : List ℕ) → IsGraph g → EachOf (λ w. w < length g + 1) next → IsGraph (g ++ next ∷ [])
unfolding EdgesBelow
graph_push g next b e =
    let more : length g + 1 ≡ length (g ++ next ∷ []) = sym (length-append g (next ∷ [])) in
    subst (λ (n : ℕ). EdgesBelow n (g ++ next ∷ [])) more
    (below_push (length g + 1) g next (λ v. each_map (λ w. w < length g) (λ w. w < length g + 1) (edges_of g v) (λ w h. omega arith) (b v)) e)

pub graph_set : (g : Graph) (v : ℕ) (next : List ℕ) → IsGraph g → EachOf (λ w. w < length g) next → IsGraph (set g v next)
unfolding EdgesBelow
graph_set g v next b e = subst (λ (n : ℕ). EdgesBelow n (set g v next)) (sym (length-set g v next)) (below_set (length g) g v next b e)

-- more ends, and no vertex more
pub flat_same : (ends more : List ℕ) (spans : List Span) → IsFlat ends spans → IsFlat (ends ++ more) spans × (graph_of (ends ++ more) spans ≡ graph_of ends spans)
flat_same ends more spans f =
    let same : graph_of (ends ++ more) spans ≡ graph_of ends spans = graph_more ends more spans f.within in (
      record {
        within = within_more (length ends) (length (ends ++ more)) spans (omega (arith, length-append ends more)) f.within;
        edges = subst IsGraph (sym same) f.edges;
        few = f.few;
      },
      same,
    )

added_graph : (ends more : List ℕ) (spans : List Span) → IsFlat ends spans → graph_of (ends ++ more) (spans ++ new_span ends more ∷ []) ≡ graph_of ends spans ++ more ∷ []
added_graph ends more spans f =
    map_push (edges_in (ends ++ more)) spans (new_span ends more)
    ∙ ap₂ (λ (g : Graph) (next : List ℕ). g ++ next ∷ []) (graph_more ends more spans f.within) (edges_new ends more)

new_within : (ends more : List ℕ) → IsWithin (length (ends ++ more)) (new_span ends more)
unfolding new_span
new_within ends more = (omega (arith, length-append ends more), omega arith)

pub flat_added : (ends more : List ℕ) (spans : List Span) → IsFlat ends spans → EachOf (λ w. w < length (graph_of ends spans) + 1) more → length spans + 1 < 2 ^ 32 →
    IsFlat (ends ++ more) (spans ++ record { first = length ends; past = length (ends ++ more) } ∷ [])
    × (graph_of (ends ++ more) (spans ++ record { first = length ends; past = length (ends ++ more) } ∷ []) ≡ graph_of ends spans ++ more ∷ [])
unfolding new_span
flat_added ends more spans f e room =
    let is : graph_of (ends ++ more) (spans ++ new_span ends more ∷ []) ≡ graph_of ends spans ++ more ∷ [] = added_graph ends more spans f in (
      record {
        within = each_append (IsWithin (length (ends ++ more))) spans (new_span ends more ∷ [])
            (within_more (length ends) (length (ends ++ more)) spans (omega (arith, length-append ends more)) f.within) (new_within ends more, tt);
        edges = subst IsGraph (sym is) (graph_push (graph_of ends spans) more f.edges e);
        few = omega (arith, length-append spans (new_span ends more ∷ []));
      },
      is,
    )

each_set : (P : Span → Type 0) (spans : List Span) (i : ℕ) (s : Span) → P s → EachOf P spans → EachOf P (set spans i s)
each_set P [] i s p e = tt
each_set P (t ∷ spans) zero s p e = (p, e.1)
each_set P (t ∷ spans) (suc i) s p e = (e.0, each_set P spans i s p e.1)

set_graph : (ends more : List ℕ) (spans : List Span) (v : ℕ) → IsFlat ends spans → graph_of (ends ++ more) (set spans v (new_span ends more)) ≡ set (graph_of ends spans) v more
set_graph ends more spans v f =
    map-set (edges_in (ends ++ more)) spans v (new_span ends more)
    ∙ ap₂ (λ (g : Graph) (next : List ℕ). set g v next) (graph_more ends more spans f.within) (edges_new ends more)

pub flat_set : (ends more : List ℕ) (spans : List Span) (v : ℕ) → IsFlat ends spans → EachOf (λ w. w < length (graph_of ends spans)) more →
    IsFlat (ends ++ more) (set spans v (record { first = length ends; past = length (ends ++ more) }))
    × (graph_of (ends ++ more) (set spans v (record { first = length ends; past = length (ends ++ more) })) ≡ set (graph_of ends spans) v more)
unfolding new_span
flat_set ends more spans v f e =
    let is : graph_of (ends ++ more) (set spans v (new_span ends more)) ≡ set (graph_of ends spans) v more = set_graph ends more spans v f in (
      record {
        within = each_set (IsWithin (length (ends ++ more))) spans v (new_span ends more) (new_within ends more)
            (within_more (length ends) (length (ends ++ more)) spans (omega (arith, length-append ends more)) f.within);
        edges = subst IsGraph (sym is) (graph_set (graph_of ends spans) v more f.edges e);
        few = omega (arith, f.few, length-set spans v (new_span ends more));
      },
      is,
    )

span_same : (s : Span) (first past : ℕ) → s.first ≡ first → s.past ≡ past → s ≡ record { first = first; past = past }
span_same s first past a b = ap₂ (λ (x y : ℕ). record s { first = x; past = y }) a b

-- those lemmas at what calls leave
pub left_same : (ends more left : List ℕ) (spans spans_left : List Span) (g : Graph) → left ≡ ends ++ more → spans_left ≡ spans → IsFlat ends spans → graph_of ends spans ≡ g →
    IsFlat left spans_left × (graph_of left spans_left ≡ g)
left_same ends more left spans spans_left g e k f is =
    let P : List ℕ → List Span → Type 0 = λ xs ss. IsFlat xs ss × (graph_of xs ss ≡ g) in
    let both = flat_same ends more spans f in
    subst (λ (xs : List ℕ). P xs spans_left) (sym e) (subst (P (ends ++ more)) (sym k) (both.0, both.1 ∙ is))

pub left_added : (ends more left : List ℕ) (spans spans_left : List Span) (s : Span) (g : Graph) → left ≡ ends ++ more → spans_left ≡ spans ++ s ∷ [] →
    s.first ≡ length ends → s.past ≡ length left → IsFlat ends spans → graph_of ends spans ≡ g → EachOf (λ w. w < length g + 1) more → length spans + 1 < 2 ^ 32 →
    IsFlat left spans_left × (graph_of left spans_left ≡ g ++ more ∷ [])
left_added ends more left spans spans_left s g e k first past f is each room =
    let P : List ℕ → List Span → Type 0 = λ xs ss. IsFlat xs ss × (graph_of xs ss ≡ g ++ more ∷ []) in
    let both = flat_added ends more spans f (subst (λ (h : Graph). EachOf (λ w. w < length h + 1) more) (sym is) each) room in
    let same : s ≡ record { first = length ends; past = length (ends ++ more) } = span_same s (length ends) (length (ends ++ more)) first (past ∙ ap length e) in
    subst (λ (xs : List ℕ). P xs spans_left) (sym e)
    (subst (P (ends ++ more)) (sym (k ∙ ap (λ (t : Span). spans ++ t ∷ []) same)) (both.0, both.1 ∙ ap (λ (h : Graph). h ++ more ∷ []) is))

pub left_set : (ends more left : List ℕ) (spans : List Span) (v : ℕ) (s : Span) (g : Graph) → left ≡ ends ++ more →
    s.first ≡ length ends → s.past ≡ length left → IsFlat ends spans → graph_of ends spans ≡ g → EachOf (λ w. w < length g) more →
    IsFlat left (set spans v s) × (graph_of left (set spans v s) ≡ set g v more)
left_set ends more left spans v s g e first past f is each =
    let P : List ℕ → List Span → Type 0 = λ xs ss. IsFlat xs ss × (graph_of xs ss ≡ set g v more) in
    let both = flat_set ends more spans v f (subst (λ (h : Graph). EachOf (λ w. w < length h) more) (sym is) each) in
    let same : s ≡ record { first = length ends; past = length (ends ++ more) } = span_same s (length ends) (length (ends ++ more)) first (past ∙ ap length e) in
    subst (λ (xs : List ℕ). P xs (set spans v s)) (sym e)
    (subst (P (ends ++ more)) (sym (ap (set spans v) same)) (both.0, both.1 ∙ ap (λ (h : Graph). set h v more) is))

-- a vertex's edges
pub span_edges : (ends : List ℕ) (spans : List Span) (v : ℕ) (s : Span) (g : Graph) → IsFlat ends spans → graph_of ends spans ≡ g → v < length g → s ≡ get_or spans v s → EachOf (λ w. w < length g) (edges_in ends s)
span_edges ends spans v s g f is h e =
    let low : v < length spans = omega (arith, ap length is, length-map spans (edges_in ends)) in
    let here : edges_of (graph_of ends spans) v ≡ edges_in ends s = get_or-map (edges_in ends) spans v s [] low ∙ ap (edges_in ends) (sym e) in
    subst (λ (h : Graph). EachOf (λ w. w < length h) (edges_in ends s)) is
    (subst (EachOf (λ w. w < length (graph_of ends spans))) here (f.edges v))
