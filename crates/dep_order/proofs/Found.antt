-- A graph for each accepted design, in which each signal has edges to the signals that its driver reads: it has an order or a cycle, and so
-- has the design.
use Rattle.std.proofs.Common.{◌≡◌, ℕ, ◌<◌, ◌≤◌, Bool, false, List, [], ◌∷◌, ◌++◌, map, length, Option, Some, None, ◌⊎◌, inl, inr, refl, sym, subst, ap, ◌∙◌, arith}
use Rattle.std.specs.List.{range_with_len}
use Rattle.std.proofs.lemmas.List.FromFn.{get_or-map-range_with_len, length-map-range_with_len}
use Rattle.std.proofs.lemmas.List.{get_or_past}
use Rattle.std.proofs.lemmas.Bool.{cases_lt}
use Rattle.std.proofs.lemmas.Option.{none-some}
use Rattle.tree_core.specs.Tree.{Tree, Const, Leaf, One, Two, Mux}
use Rattle.exec_core.specs.Leaves.{EachLeaf}
use Rattle.exec_core.specs.Whole.{Place, Drivers}
use Rattle.list_core.proofs.Options.{some_same}
use Rattle.exec_core.proofs.Wholes.{each_leaf}
use Rattle.design_core.specs.Design as design
use Rattle.check_exec.specs.Premises.{IsSound}
use Rattle.list_core.specs.Lists.{EachOf, IsIn}
use Rattle.graph_order.specs.Graphs.{Graph, edges_of, IsGraph}
use Rattle.graph_order.proofs.Found.{order_or_cycle}
use Rattle.list_core.proofs.Lists.{in_left, in_right, in_cases, each_append, each_member}
use Rattle.dep_order.specs.Reaching.{ReachedFrom, IsLayered}
use Rattle.dep_order.specs.Standing.{SomeLeaf, StandFor}
use Rattle.dep_order.specs.Signals.{signals_in}
use Rattle.dep_order.specs.Wiring.{AreNumbers, DriverStands}
use Rattle.place_core.specs.Numbering.{PlaceNumbers, AllCounted, count_instances, number_in, AreCounted}
use Rattle.dep_order.specs.Ordering.{is_met_in, shown_driver, IsWiredDesign, marked_in, pairs_of}
use Rattle.dep_order.specs.Either.{HasOrder, HasLoop, OrderOrLoop}
use Rattle.dep_order.proofs.Answered.{place_of, place_is, cycles_answer, orders_answer}
use Rattle.dep_order.proofs.Contracted.{order_of_signals, cycle_of_signals}
use Rattle.place_core.proofs.Numbers.{at_within, numbered}
use Rattle.dep_order.proofs.Sound.{accepted_drivers}
use Rattle.dep_order.proofs.Walks.{itself, signal_alone}

-- ---- the numbers of a tree's leaves

number_list : Option ℕ → List ℕ
number_list None = []
number_list (Some n) = n ∷ []

read_in : PlaceNumbers → Tree Place → List ℕ
read_in number (Const b) = []
read_in number (Leaf p) = number_list (number p)
read_in number (One op a) = read_in number a
read_in number (Two op a b) = read_in number a ++ read_in number b
read_in number (Mux c a b) = read_in number c ++ (read_in number a ++ read_in number b)

listed_here : (o : Option ℕ) (n : ℕ) → o ≡ Some n → IsIn n (number_list o)
unfolding number_list
listed_here None n e = absurd (none-some n e)
listed_here (Some m) n e = inl (sym (some_same m n e))

from_listed : (o : Option ℕ) (n : ℕ) → IsIn n (number_list o) → o ≡ Some n
unfolding number_list
from_listed None n i = absurd i
from_listed (Some m) n i = elim i [ inl e ↦ ap (λ (k : ℕ). Some k) (sym e) | inr k ↦ absurd k ]

IsListed : PlaceNumbers → List ℕ → Place → Type 0
IsListed number vs p = (n : ℕ) → number p ≡ Some n → IsIn n vs

listed_in : (number : PlaceNumbers) (us vs : List ℕ) (t : Tree Place) → ((n : ℕ) → IsIn n us → IsIn n vs) → EachLeaf (IsListed number us) t → EachLeaf (IsListed number vs) t
unfolding IsListed
listed_in number us vs t g h = each_leaf {P = IsListed number us} {Q = IsListed number vs} (λ p f n e. g n (f n e)) t h

all_listed : (number : PlaceNumbers) (t : Tree Place) → EachLeaf (IsListed number (read_in number t)) t
unfolding IsListed read_in
all_listed number (Const b) = tt
all_listed number (Leaf p) = λ n e. listed_here (number p) n e
all_listed number (One op a) = all_listed number a
all_listed number (Two op a b) =
    let us = read_in number a in
    let vs = read_in number b in
    (listed_in number us (us ++ vs) a (λ n i. in_left n us vs i) (all_listed number a), listed_in number vs (us ++ vs) b (λ n i. in_right n us vs i) (all_listed number b))
all_listed number (Mux c a b) =
    let ts = read_in number c in
    let us = read_in number a in
    let vs = read_in number b in (
      listed_in number ts (ts ++ (us ++ vs)) c (λ n i. in_left n ts (us ++ vs) i) (all_listed number c),
      listed_in number us (ts ++ (us ++ vs)) a (λ n i. in_right n ts (us ++ vs) (in_left n us vs i)) (all_listed number a),
      listed_in number vs (ts ++ (us ++ vs)) b (λ n i. in_right n ts (us ++ vs) (in_right n us vs i)) (all_listed number b),
    )

some_listed : (number : PlaceNumbers) (t : Tree Place) (n : ℕ) → IsIn n (read_in number t) → SomeLeaf (λ p. number p ≡ Some n) t
unfolding read_in
some_listed number (Const b) n i = i
some_listed number (Leaf p) n i = from_listed (number p) n i
some_listed number (One op a) n i = some_listed number a n i
some_listed number (Two op a b) n i = elim (in_cases n (read_in number a) (read_in number b) i) [ inl l ↦ inl (some_listed number a n l) | inr r ↦ inr (some_listed number b n r) ]
some_listed number (Mux c a b) n i = elim (in_cases n (read_in number c) (read_in number a ++ read_in number b) i) [
  | inl l ↦ inl (some_listed number c n l)
  | inr r ↦ inr (elim (in_cases n (read_in number a) (read_in number b) r) [ inl l ↦ inl (some_listed number a n l) | inr k ↦ inr (some_listed number b n k) ])
]

below_list : (signals : ℕ) (number : PlaceNumbers) (p : Place) → AreNumbers signals number → (o : Option ℕ) → number p ≡ o → EachOf (λ n. n < signals) (number_list o)
unfolding number_list
below_list signals number p are None e = tt
below_list signals number p are (Some n) e = (are.below p n e, tt)

all_below : (signals : ℕ) (number : PlaceNumbers) (t : Tree Place) → AreNumbers signals number → EachOf (λ n. n < signals) (read_in number t)
unfolding read_in
all_below signals number (Const b) are = tt
all_below signals number (Leaf p) are = below_list signals number p are (number p) refl
all_below signals number (One op a) are = all_below signals number a are
all_below signals number (Two op a b) are = each_append _ (read_in number a) (read_in number b) (all_below signals number a are) (all_below signals number b are)
all_below signals number (Mux c a b) are =
    each_append _ (read_in number c) (read_in number a ++ read_in number b) (all_below signals number c are)
    (each_append _ (read_in number a) (read_in number b) (all_below signals number a are) (all_below signals number b are))

-- where all that is read are signals, the numbers of its leaves stand for a tree
stands : (signals : ℕ) (g : Graph) (number : PlaceNumbers) (t : Tree Place) → AreNumbers signals number → StandFor signals g number (read_in number t) t
unfolding IsListed
stands signals g number t are =
    let low : EachOf (λ n. n < signals) (read_in number t) = all_below signals number t are in
    record {
      leaves = each_leaf {P = IsListed number (read_in number t)} {Q = λ p. (n : ℕ) → number p ≡ Some n → ReachedFrom signals g (read_in number t) n}
          (λ p f n e. record { start = n; one_of = f n e; reaches = itself signals g n (are.below p n e) }) t (all_listed number t);
      nothing_else = λ w r.
          let same : r.start ≡ w = signal_alone signals g r.start w (each_member (λ n. n < signals) (read_in number t) low r.start r.one_of) r.reaches in
          some_listed number t w (subst (λ (n : ℕ). IsIn n (read_in number t)) same r.one_of);
    }

-- ---- the graph

edges : PlaceNumbers → Option (Tree Place) → List ℕ
edges number None = []
edges number (Some t) = read_in number t

edges_below : (signals : ℕ) (number : PlaceNumbers) (o : Option (Tree Place)) → AreNumbers signals number → EachOf (λ n. n < signals) (edges number o)
unfolding edges
edges_below signals number None are = tt
edges_below signals number (Some t) are = all_below signals number t are

edges_stand : (signals : ℕ) (g : Graph) (number : PlaceNumbers) (o : Option (Tree Place)) → AreNumbers signals number → DriverStands signals g number (edges number o) o
unfolding edges
edges_stand signals g number None are = refl
edges_stand signals g number (Some t) are = stands signals g number t are

module _ (n : ℕ) (number : PlaceNumbers) (at : ℕ → Place) (d : Drivers) where
  edges_at : ℕ → List ℕ
  edges_at v = edges number (d (at v))

  graph : Graph
  graph = map edges_at (range_with_len 0 n)

  graph_length : length graph ≡ n
  unfolding graph
  graph_length = length-map-range_with_len edges_at 0 n

  next_is : (v : ℕ) → v < n → edges_of graph v ≡ edges number (d (at v))
  unfolding graph edges_at
  next_is v h = get_or-map-range_with_len edges_at 0 n v v [] h (omega arith)

  next_none : (v : ℕ) → n ≤ v → edges_of graph v ≡ []
  unfolding graph
  next_none v h = get_or_past graph v [] (subst (λ (k : ℕ). k ≤ v) (sym graph_length) h)

  layered : IsLayered n graph
  layered v h = subst (EachOf (λ w. w < v)) (sym (next_none v h)) tt

  is_graph : AreNumbers n number → IsGraph graph
  is_graph are v = elim (cases_lt v n) [
    | inl low ↦ subst (EachOf (λ w. w < length graph)) (sym (next_is v low)) (subst (λ (k : ℕ). EachOf (λ w. w < k) (edges number (d (at v)))) (sym graph_length) (edges_below n number (d (at v)) are))
    | inr high ↦ subst (EachOf (λ w. w < length graph)) (sym (next_none v high)) tt
  ]

-- ---- a design

module _ (d : design.Design) (all : AllCounted) (counted : AreCounted d all) where
  are_numbers : AreNumbers (length all.1) (number_in all.0)
  are_numbers =
      let w = numbered d all counted in
      record {
        below = λ p n e. at_within d all.1 n p (w.0.back p n e);
        apart = λ p q n e f. some_same p q (sym (w.0.back p n e) ∙ w.0.back q n f);
      }

  design_graph : Graph
  design_graph = graph (length all.1) (number_in all.0) (place_of d all.1) (shown_driver d)

  marks : List Bool
  marks = map (λ v. is_met_in d (place_of d all.1 v)) (range_with_len 0 (length all.1))

  wired : IsWiredDesign d all design_graph marks
  unfolding design_graph marks
  wired p v e =
      let here : place_of d all.1 v ≡ p = place_is d all.1 v p ((numbered d all counted).0.back p v e) in
      let low : v < length all.1 = are_numbers.below p v e in
      record {
        marked = get_or-map-range_with_len (λ v. is_met_in d (place_of d all.1 v)) 0 (length all.1) v v false low (omega arith) ∙ ap (is_met_in d) here;
        stands = subst (λ (vs : List ℕ). DriverStands (length all.1) design_graph (number_in all.0) vs (shown_driver d p))
            (sym (next_is (length all.1) (number_in all.0) (place_of d all.1) (shown_driver d) v low ∙ ap (λ (q : Place). edges (number_in all.0) (shown_driver d q)) here))
            (edges_stand (length all.1) design_graph (number_in all.0) (shown_driver d p) are_numbers);
      }

  either : IsSound d → HasOrder d ⊎ HasLoop d
  unfolding design_graph
  either sound = elim (order_or_cycle design_graph (is_graph (length all.1) (number_in all.0) (place_of d all.1) (shown_driver d) are_numbers)) [
    | inl o ↦ inl (record {
      order = pairs_of all.1 (marked_in marks (signals_in (length all.1) o.order));
      tells = orders_answer d all design_graph marks (signals_in (length all.1) o.order) counted wired (accepted_drivers d sound)
          (order_of_signals (length all.1) design_graph o.order (signals_in (length all.1) o.order)
          (subst (λ (k : ℕ). length all.1 ≤ k) (sym (graph_length (length all.1) (number_in all.0) (place_of d all.1) (shown_driver d))) (omega arith)) o.is_order refl);
    })
    | inr c ↦ inr (record {
      loop = pairs_of all.1 (signals_in (length all.1) c.cycle);
      tells = cycles_answer d all design_graph marks (signals_in (length all.1) c.cycle) counted wired (accepted_drivers d sound)
          (cycle_of_signals (length all.1) design_graph c.cycle (signals_in (length all.1) c.cycle)
          (layered (length all.1) (number_in all.0) (place_of d all.1) (shown_driver d)) c.is_cycle refl);
    })
  ]

pub order_or_loop : OrderOrLoop
order_or_loop d sound = either d (count_instances d 0 d.instances ([], [])) refl sound
