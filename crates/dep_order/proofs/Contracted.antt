-- Versions taken out of an order, and out of a cycle.
use Rattle.std.proofs.Common.{◌≡◌, ℕ, ◌<◌, ◌≤◌, Bool, true, false, List, [], ◌∷◌, ◌++◌, inl, inr, length, nat_lt, cond, sym, subst, ap, ◌∙◌, arith}
use Rattle.std.proofs.lemmas.Bool.{cases_lt}
use Rattle.std.proofs.lemmas.Bool.Decides.{nat_tests}
use Rattle.std.proofs.lemmas.List.Elements.{filter-append}
use Rattle.std.proofs.lemmas.List.{append-nil}
use Rattle.list_core.specs.Lists.{EachOf, IsIn, AreApart}
use Rattle.graph_order.specs.Graphs.{Graph, edges_of, HasEdge}
use Rattle.graph_order.specs.Orders.{StandsAfter, IsOrder}
use Rattle.graph_order.specs.Cycles.{Leads, IsCycle}
use Rattle.list_core.proofs.Lists.{each_member, none_in, not_in}
use Rattle.graph_order.proofs.Standing.{IsClosed, stays, closed_push, none_closed}
use Rattle.dep_order.specs.Reaching.{ReachedFrom, IsLayered, SignalsAfter, SignalsLead}
use Rattle.dep_order.specs.Signals.{signals_in, IsSignalOrder, IsSignalCycle}
use Rattle.dep_order.proofs.Walks.{itself, to_version}

-- ---- the signals of a list

lt_is : (v n : ℕ) → v < n → nat_lt v n ≡ true
lt_is v n h = grind (arith, nat_tests)

lt_is_not : (v n : ℕ) → n ≤ v → nat_lt v n ≡ false
lt_is_not v n h = grind (arith, nat_tests)

kept_here : (signals v : ℕ) (vs : List ℕ) → v < signals → signals_in signals (v ∷ vs) ≡ v ∷ signals_in signals vs
kept_here signals v vs h = ap (λ (b : Bool). cond b (v ∷ signals_in signals vs) (signals_in signals vs)) (lt_is v signals h)

left_here : (signals v : ℕ) (vs : List ℕ) → signals ≤ v → signals_in signals (v ∷ vs) ≡ signals_in signals vs
left_here signals v vs h = ap (λ (b : Bool). cond b (v ∷ signals_in signals vs) (signals_in signals vs)) (lt_is_not v signals h)

signals_push : (signals v : ℕ) (vs : List ℕ) → v < signals → signals_in signals (vs ++ v ∷ []) ≡ signals_in signals vs ++ v ∷ []
signals_push signals v vs h = filter-append (λ u. nat_lt u signals) vs (v ∷ []) ∙ ap (λ (us : List ℕ). signals_in signals vs ++ us) (kept_here signals v [] h)

versions_push : (signals v : ℕ) (vs : List ℕ) → signals ≤ v → signals_in signals (vs ++ v ∷ []) ≡ signals_in signals vs ++ []
versions_push signals v vs h = filter-append (λ u. nat_lt u signals) vs (v ∷ []) ∙ ap (λ (us : List ℕ). signals_in signals vs ++ us) (left_here signals v [] h)

pub in_signals : (signals v : ℕ) (vs : List ℕ) → v < signals → IsIn v vs → IsIn v (signals_in signals vs)
in_signals signals v [] h i = i
in_signals signals v (w ∷ ws) h i =
    elim (cases_lt w signals) [
      | inl low ↦ subst (IsIn v) (sym (kept_here signals w ws low)) (elim i [ inl e ↦ inl e | inr k ↦ inr (in_signals signals v ws h k) ])
      | inr high ↦ subst (IsIn v) (sym (left_here signals w ws high)) (elim i [ inl e ↦ absurd (omega (arith, e)) | inr k ↦ in_signals signals v ws h k ])
    ]

pub from_signals : (signals v : ℕ) (vs : List ℕ) → IsIn v (signals_in signals vs) → IsIn v vs × (v < signals)
from_signals signals v [] i = absurd i
from_signals signals v (w ∷ ws) i =
    elim (cases_lt w signals) [
      | inl low ↦ elim (subst (IsIn v) (kept_here signals w ws low) i) [
        | inl e ↦ (inl e, subst (λ (u : ℕ). u < signals) (sym e) low)
        | inr k ↦ let rest = from_signals signals v ws k in (inr rest.0, rest.1)
      ]
      | inr high ↦ let rest = from_signals signals v ws (subst (IsIn v) (left_here signals w ws high) i) in (inr rest.0, rest.1)
    ]

pub signals_apart : (signals : ℕ) (vs : List ℕ) → AreApart vs → AreApart (signals_in signals vs)
signals_apart signals [] a = tt
signals_apart signals (v ∷ vs) a =
    elim (cases_lt v signals) [
      | inl low ↦ subst AreApart (sym (kept_here signals v vs low)) (none_in v _ (λ i. not_in v vs a.0 (from_signals signals v vs i).0), signals_apart signals vs a.1)
      | inr high ↦ subst AreApart (sym (left_here signals v vs high)) (signals_apart signals vs a.1)
    ]

-- ---- orders

-- from a closed list nothing else is reached
closed_reached : (signals : ℕ) (g : Graph) (before : List ℕ) (v w : ℕ) → IsClosed g before → EachOf (λ u. IsIn u before) (edges_of g v) → ReachedFrom signals g (edges_of g v) w → IsIn w before
closed_reached signals g before v w c e r =
    let here : IsIn r.start before = each_member (λ u. IsIn u before) (edges_of g v) e r.start r.one_of in
    elim r.reaches.way [
      | inl same ↦ subst (λ (u : ℕ). IsIn u before) same here
      | inr t ↦ stays g before r.start t.1.between w c (c r.start here) t.1.walk
    ]

pub order_contracted : (signals : ℕ) (g : Graph) (before vs : List ℕ) → StandsAfter g before vs → IsClosed g before → SignalsAfter signals g (signals_in signals before) (signals_in signals vs)
order_contracted signals g before [] s c = tt
order_contracted signals g before (v ∷ vs) s c =
    let rest = order_contracted signals g (before ++ v ∷ []) vs s.2 (closed_push g before v c s.1) in
    elim (cases_lt v signals) [
      | inl low ↦ subst (SignalsAfter signals g (signals_in signals before)) (sym (kept_here signals v vs low)) (
        (λ i. s.0 (from_signals signals v before i).0),
        (λ w r. in_signals signals w before r.reaches.signal (closed_reached signals g before v w c s.1 r)),
        subst (λ (us : List ℕ). SignalsAfter signals g us (signals_in signals vs)) (signals_push signals v before low) rest,
      )
      | inr high ↦ subst (SignalsAfter signals g (signals_in signals before)) (sym (left_here signals v vs high))
          (subst (λ (us : List ℕ). SignalsAfter signals g us (signals_in signals vs)) (versions_push signals v before high ∙ append-nil (signals_in signals before)) rest)
    ]

-- ---- cycles

through_version : (signals : ℕ) (g : Graph) (v x w : ℕ) → signals ≤ x → HasEdge g v x → ReachedFrom signals g (edges_of g x) w → ReachedFrom signals g (edges_of g v) w
through_version signals g v x w h e r = record { start = x; one_of = e; reaches = to_version signals g x w h r }

skipped : (signals : ℕ) (g : Graph) (v x : ℕ) (ys : List ℕ) (w : ℕ) → signals ≤ x → HasEdge g v x → SignalsLead signals g x ys w → SignalsLead signals g v ys w
skipped signals g v x [] w h e l = through_version signals g v x w h e l
skipped signals g v x (y ∷ ys) w h e l = (through_version signals g v x y h e l.0, l.1)

pub walk_contracted : (signals : ℕ) (g : Graph) (v : ℕ) (xs : List ℕ) (w : ℕ) → w < signals → Leads g v xs w → SignalsLead signals g v (signals_in signals xs) w
walk_contracted signals g v [] w h l = record { start = w; one_of = l; reaches = itself signals g w h }
walk_contracted signals g v (x ∷ xs) w h l =
    let rest = walk_contracted signals g x xs w h l.1 in
    elim (cases_lt x signals) [
      | inl low ↦ subst (λ (ys : List ℕ). SignalsLead signals g v ys w) (sym (kept_here signals x xs low)) (record { start = x; one_of = l.0; reaches = itself signals g x low }, rest)
      | inr high ↦ subst (λ (ys : List ℕ). SignalsLead signals g v ys w) (sym (left_here signals x xs high)) (skipped signals g v x (signals_in signals xs) w high l.0 rest)
    ]

-- the least vertex of a cycle is a signal, since versions read what was there before them
pub cycle_begins : (signals : ℕ) (g : Graph) (v : ℕ) (vs : List ℕ) → IsLayered signals g → IsCycle g (v ∷ vs) → v < signals
cycle_begins signals g v [] is c = elim (cases_lt v signals) [ inl low ↦ low | inr high ↦ absurd (omega (arith, each_member (λ w. w < v) (edges_of g v) (is v high) v c.0)) ]
cycle_begins signals g v (x ∷ xs) is c = elim (cases_lt v signals) [ inl low ↦ low | inr high ↦ absurd (omega (arith, each_member (λ w. w < v) (edges_of g v) (is v high) x c.0.0, c.2.0)) ]

-- ---- whole orders, and whole cycles

each_signal : (P : ℕ → Type 0) (signals : ℕ) (vs : List ℕ) → EachOf P vs → EachOf P (signals_in signals vs)
each_signal P signals [] e = tt
each_signal P signals (v ∷ vs) e =
    elim (cases_lt v signals) [
      | inl low ↦ subst (EachOf P) (sym (kept_here signals v vs low)) (e.0, each_signal P signals vs e.1)
      | inr high ↦ subst (EachOf P) (sym (left_here signals v vs high)) (each_signal P signals vs e.1)
    ]

all_below : (signals : ℕ) (vs : List ℕ) → EachOf (λ v. v < signals) (signals_in signals vs)
all_below signals [] = tt
all_below signals (v ∷ vs) =
    elim (cases_lt v signals) [
      | inl low ↦ subst (EachOf (λ w. w < signals)) (sym (kept_here signals v vs low)) (low, all_below signals vs)
      | inr high ↦ subst (EachOf (λ w. w < signals)) (sym (left_here signals v vs high)) (all_below signals vs)
    ]

pub order_of_signals : (signals : ℕ) (g : Graph) (order kept : List ℕ) → signals ≤ length g → IsOrder g order → kept ≡ signals_in signals order → IsSignalOrder signals g kept
order_of_signals signals g order kept h o is =
    subst (IsSignalOrder signals g) (sym is) (record {
      signals_alone = all_below signals order;
      in_order = order_contracted signals g [] order o.in_order (none_closed g);
      all = λ v low. in_signals signals v order low (o.all v (omega arith));
    })

pub cycle_of_signals : (signals : ℕ) (g : Graph) (cycle kept : List ℕ) → IsLayered signals g → IsCycle g cycle → kept ≡ signals_in signals cycle → IsSignalCycle signals g kept
cycle_of_signals signals g [] kept is c e = absurd c
cycle_of_signals signals g (v ∷ vs) kept is c e =
    let low : v < signals = cycle_begins signals g v vs is c in
    subst (IsSignalCycle signals g) (sym (e ∙ kept_here signals v vs low)) (
      walk_contracted signals g v vs v low c.0,
      subst AreApart (kept_here signals v vs low) (signals_apart signals (v ∷ vs) c.1),
      each_signal (λ w. v ≤ w) signals vs c.2,
      (low, all_below signals vs),
    )
