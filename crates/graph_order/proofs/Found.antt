-- A graph has an order or a cycle: a search, depth first, ends with one of them.
use Rattle.std.proofs.Common.{◌≡◌, ℕ, zero, suc, ◌<◌, ◌≤◌, ◌+◌, ◌*◌, List, [], ◌∷◌, ◌++◌, length, set, replicate, take, drop, get_or, refl, sym, subst, ap, ◌⊎◌, inl, inr, arith, length-append}
use Rattle.std.proofs.lemmas.Bool.{cases_eq, cases_lt}
use Rattle.list_core.specs.Lists.{EachOf, IsIn}
use Rattle.graph_order.specs.Graphs.{Graph, edges_of, IsGraph}
use Rattle.graph_order.specs.Search.{mark_of, news, Searched, IsRound, from_on}
use Rattle.graph_order.specs.Either.{HasOrder, HasCycle, OrderOrCycle}
use Rattle.graph_order.specs.declared.search.Mark.{Mark}
use Rattle.graph_order.specs.declared.search.Mark.TheVariants.{New, Begun, Finished}
use Rattle.list_core.proofs.Lists.{each_map}
use Rattle.graph_order.proofs.Marks.{news_begun, news_finished}
use Rattle.graph_order.proofs.Paths.{path_push, last_leads, round_from, turned_at}
use Rattle.graph_order.proofs.Steps.{begun, finished, searched_none, searched_all, last_begun, next_within, neither}

-- ---- lists

record Ends {A : Type 0} (xs : List A) : Type 0 where
  front : List A
  last : A
  whole : xs ≡ front ++ last ∷ []

ends_of : {A : Type 0} (x : A) (xs : List A) → Ends (x ∷ xs)
ends_of x [] = record { front = []; last = x; whole = refl }
ends_of {A} x (y ∷ ys) = let e = ends_of y ys in record { front = x ∷ e.front; last = e.last; whole = ap (λ (zs : List A). x ∷ zs) e.whole }

record Least (xs : List ℕ) : Type 0 where
  place : ℕ
  within : place < length xs
  least : EachOf (λ w. get_or xs place 0 ≤ w) xs

least_of : (x : ℕ) (xs : List ℕ) → Least (x ∷ xs)
least_of x [] = record { place = 0; within = omega arith; least = (omega arith, tt) }
least_of x (y ∷ ys) =
    let l = least_of y ys in
    elim (cases_lt x (get_or (y ∷ ys) l.place 0)) [
      | inl less ↦ record {
        place = 0;
        within = omega arith;
        least = (omega arith, each_map (λ w. get_or (y ∷ ys) l.place 0 ≤ w) (λ w. x ≤ w) (y ∷ ys) (λ w k. omega arith) l.least);
      }
      | inr more ↦ record { place = suc l.place; within = omega (arith, l.within); least = (more, l.least) }
    ]

-- ---- cycles

cycle_from : (g : Graph) (round : List ℕ) → IsRound g round → HasCycle g
cycle_from g [] r = absurd r
cycle_from g (v ∷ vs) r =
    let l = least_of v vs in
    record { cycle = drop l.place (v ∷ vs) ++ take l.place (v ∷ vs); is_cycle = turned_at (v ∷ vs) l.place l.within l.least g r }

-- ---- marks

record Ahead (marks : List Mark) (ws : List ℕ) : Type 0 where
  vertex : ℕ
  one_of : IsIn vertex ws
  unfinished : mark_of marks vertex ≡ Finished → ⊥

is_finished : (m : Mark) → (m ≡ Finished) ⊎ (m ≡ Finished → ⊥)
is_finished New = inr (λ e. cc)
is_finished Begun = inr (λ e. cc)
is_finished Finished = inl refl

is_new : (m : Mark) → (m ≡ New) ⊎ (m ≡ New → ⊥)
is_new New = inl refl
is_new Begun = inr (λ e. cc)
is_new Finished = inr (λ e. cc)

ahead : (marks : List Mark) (ws : List ℕ) → EachOf (λ w. mark_of marks w ≡ Finished) ws ⊎ Ahead marks ws
ahead marks [] = inl tt
ahead marks (w ∷ ws) = elim (is_finished (mark_of marks w)) [
  | inl e ↦ elim (ahead marks ws) [ inl all ↦ inl (e, all) | inr a ↦ inr (record { vertex = a.vertex; one_of = inr a.one_of; unfinished = a.unfinished }) ]
  | inr n ↦ inr (record { vertex = w; one_of = inl refl; unfinished = n })
]

record NewBelow (marks : List Mark) (n : ℕ) : Type 0 where
  vertex : ℕ
  within : vertex < n
  new : mark_of marks vertex ≡ New

new_below : (marks : List Mark) (n : ℕ) → ((v : ℕ) → v < n → mark_of marks v ≡ New → ⊥) ⊎ NewBelow marks n
new_below marks zero = inl (λ v h. absurd (omega arith))
new_below marks (suc n) = elim (is_new (mark_of marks n)) [
  | inl e ↦ inr (record { vertex = n; within = omega arith; new = e })
  | inr not ↦ elim (new_below marks n) [
    | inl none ↦ inl (λ v h. elim (cases_eq v n) [ inl same ↦ subst (λ (u : ℕ). mark_of marks u ≡ New → ⊥) (sym same) not | inr other ↦ none v (omega arith) ])
    | inr b ↦ inr (record { vertex = b.vertex; within = omega (arith, b.within); new = b.new })
  ]
]

-- ---- the search

-- a search that has less to do than this
record Searching (g : Graph) (less_than : ℕ) : Type 0 where
  marks : List Mark
  passed : List ℕ
  path : List ℕ
  order : List ℕ
  searched : Searched g marks passed path order
  less : 2 * news marks + length path < less_than

-- a vertex is begun
onward : (g : Graph) (marks : List Mark) (passed path order : List ℕ) (w : ℕ) → w < length g → mark_of marks w ≡ New → Searched g (set marks w Begun) passed (path ++ w ∷ []) order → length marks ≡ length g →
    Searching g (2 * news marks + length path)
onward g marks passed path order w low new s n = record {
  marks = set marks w Begun;
  passed = passed;
  path = path ++ w ∷ [];
  order = order;
  searched = s;
  less = let within : w < length marks = omega arith in omega (arith, news_begun marks w within new, length-append path (w ∷ []));
}

-- a step from the last vertex of the path
step : (g : Graph) (marks : List Mark) (passed front order : List ℕ) (v : ℕ) → IsGraph g → Searched g marks passed (front ++ v ∷ []) order →
    HasCycle g ⊎ Searching g (2 * news marks + length (front ++ v ∷ []))
step g marks passed front order v is s = elim (ahead marks (edges_of g v)) [
  | inl all ↦ inr (record {
    marks = set marks v Finished;
    passed = passed;
    path = front;
    order = order ++ v ∷ [];
    searched = finished g marks passed front order v all s;
    less = omega (arith, news_finished marks v (last_begun g marks passed front order v s), length-append front (v ∷ []));
  })
  | inr a ↦ elim (is_new (mark_of marks a.vertex)) [
    | inl new ↦
        let low : a.vertex < length g = next_within g v a.vertex is a.one_of in
        inr (onward g marks passed (front ++ v ∷ []) order a.vertex low new (begun g marks passed (front ++ v ∷ []) order a.vertex low new (path_push g front v a.vertex s.joined a.one_of) s) s.marked)
    | inr not ↦
        let mark : mark_of marks a.vertex ≡ Begun = neither (mark_of marks a.vertex) not a.unfinished in
        inl (cycle_from g (from_on a.vertex (front ++ v ∷ [])) (round_from g (front ++ v ∷ []) a.vertex s.joined s.apart (s.begun_path a.vertex mark) (last_leads g front v a.vertex a.one_of)))
  ]
]

steps : (fuel : ℕ) (g : Graph) (marks : List Mark) (passed path order : List ℕ) → IsGraph g → Searched g marks passed path order → 2 * news marks + length path < fuel → HasOrder g ⊎ HasCycle g
steps zero g marks passed path order is s h = absurd (omega arith)
steps (suc fuel) g marks passed [] order is s h = elim (new_below marks (length g)) [
  | inl none ↦ inl (record { order = order; is_order = searched_all g marks passed order s none })
  | inr b ↦
      let n = onward g marks passed [] order b.vertex b.within b.new (begun g marks passed [] order b.vertex b.within b.new (tt, tt) s) s.marked in
      steps fuel g n.marks n.passed n.path n.order is n.searched (omega (arith, n.less))
]
steps (suc fuel) g marks passed (x ∷ xs) order is s h =
    let e = ends_of x xs in
    elim (step g marks passed e.front order e.last is (subst (λ (path : List ℕ). Searched g marks passed path order) e.whole s)) [
      | inl cycle ↦ inr cycle
      | inr n ↦ steps fuel g n.marks n.passed n.path n.order is n.searched (omega (arith, n.less, ap length e.whole))
    ]

pub order_or_cycle : OrderOrCycle
order_or_cycle g is =
    let marks = replicate (length g) New in
    steps (2 * news marks + 1) g marks (replicate (length g) 0) [] [] is (searched_none g) (omega arith)
