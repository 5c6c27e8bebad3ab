-- Paths that grow, and the cycles that they close.
use Rattle.std.proofs.Common.{◌≡◌, ℕ, ◌<◌, ◌≤◌, ◌+◌, List, [], ◌∷◌, ◌++◌, length, take, drop, get_or, sym, subst, arith, inl, inr}
use Rattle.std.proofs.lemmas.List.{append-nil, take-append-drop, drop_more}
use Rattle.std.proofs.lemmas.Bool.{cases_eq}
use Rattle.list_core.specs.Lists.{EachOf, IsIn, AreApart}
use Rattle.graph_order.specs.Graphs.{Graph, HasEdge}
use Rattle.graph_order.specs.Cycles.{Leads, IsCycle}
use Rattle.graph_order.specs.Search.{IsPath, LastLeads, IsRound, IsTurned, from_on}
use Rattle.list_core.proofs.Lists.{each_left, each_right, each_append, each_map, each_more, apart_turned}

pub path_push : (g : Graph) (ys : List ℕ) (z y : ℕ) → IsPath g (ys ++ z ∷ []) → HasEdge g z y → IsPath g ((ys ++ z ∷ []) ++ y ∷ [])
path_push g [] z y h e = (e, (tt, tt))
path_push g (a ∷ []) z y h e = (h.0, path_push g [] z y h.1 e)
path_push g (a ∷ b ∷ ys) z y h e = (h.0, path_push g (b ∷ ys) z y h.1 e)

pub path_left : (g : Graph) (xs ys : List ℕ) → IsPath g (xs ++ ys) → IsPath g xs
path_left g [] ys h = tt
path_left g (a ∷ []) ys h = (tt, tt)
path_left g (a ∷ b ∷ xs) ys h = (h.0, path_left g (b ∷ xs) ys h.1)

pub last_leads : (g : Graph) (ys : List ℕ) (z v : ℕ) → HasEdge g z v → LastLeads g (ys ++ z ∷ []) v
last_leads g [] z v e = e
last_leads g (a ∷ []) z v e = e
last_leads g (a ∷ b ∷ ys) z v e = last_leads g (b ∷ ys) z v e

leads_along : (g : Graph) (x : ℕ) (xs : List ℕ) (v : ℕ) → IsPath g (x ∷ xs) → LastLeads g (x ∷ xs) v → Leads g x xs v
leads_along g x [] v h l = l
leads_along g x (y ∷ ys) v h l = (h.0, leads_along g y ys v h.1 l)

from_here : (v w : ℕ) (ws : List ℕ) → w ≡ v → from_on v (w ∷ ws) ≡ w ∷ ws
from_here v w ws e = grind (arith)

from_later : (v w : ℕ) (ws : List ℕ) → (w ≡ v → ⊥) → from_on v (w ∷ ws) ≡ from_on v ws
from_later v w ws e = grind (arith)

pub round_from : (g : Graph) (path : List ℕ) (v : ℕ) → IsPath g path → AreApart path → IsIn v path → LastLeads g path v → IsRound g (from_on v path)
round_from g [] v h a k l = k
round_from g (w ∷ []) v h a k l =
    elim k [
      | inl e ↦ subst (IsRound g) (sym (from_here v w [] (sym e))) (subst (Leads g w []) e (leads_along g w [] v h l), a)
      | inr n ↦ absurd n
    ]
round_from g (w ∷ x ∷ ws) v h a k l =
    elim (cases_eq w v) [
      | inl e ↦ subst (IsRound g) (sym (from_here v w (x ∷ ws) e)) (subst (Leads g w (x ∷ ws)) (sym e) (leads_along g w (x ∷ ws) v h l), a)
      | inr n ↦ subst (IsRound g) (sym (from_later v w (x ∷ ws) n)) (round_from g (x ∷ ws) v h.1 a.1 (elim k [ inl e ↦ absurd (n (sym e)) | inr m ↦ m ]) l)
    ]

leads_split : (g : Graph) (x : ℕ) (xs : List ℕ) (y : ℕ) (ys : List ℕ) (w : ℕ) → Leads g x (xs ++ y ∷ ys) w → Leads g x xs y × Leads g y ys w
leads_split g x [] y ys w l = l
leads_split g x (z ∷ xs) y ys w l = let rest = leads_split g z xs y ys w l.1 in ((l.0, rest.0), rest.1)

leads_join : (g : Graph) (y : ℕ) (ys : List ℕ) (x : ℕ) (xs : List ℕ) (w : ℕ) → Leads g y ys x → Leads g x xs w → Leads g y (ys ++ x ∷ xs) w
leads_join g y [] x xs w a b = (a, b)
leads_join g y (z ∷ ys) x xs w a b = (a.0, leads_join g z ys x xs w a.1 b)

turned_leads : (g : Graph) (xs : List ℕ) (y : ℕ) (ys : List ℕ) → IsRound g (xs ++ y ∷ ys) → Leads g y (ys ++ xs) y
turned_leads g [] y ys r = subst (λ (zs : List ℕ). Leads g y zs y) (sym (append-nil ys)) r.0
turned_leads g (x ∷ xs) y ys r = let parts = leads_split g x xs y ys x r.0 in leads_join g y ys x xs y parts.1 parts.0

round_apart : (g : Graph) (vs : List ℕ) → IsRound g vs → AreApart vs
round_apart g [] r = tt
round_apart g (v ∷ vs) r = r.1

cycle_turned : (g : Graph) (xs : List ℕ) (y : ℕ) (ys : List ℕ) → IsRound g (xs ++ y ∷ ys) → EachOf (λ w. y ≤ w) (xs ++ y ∷ ys) → IsCycle g ((y ∷ ys) ++ xs)
cycle_turned g xs y ys r e = (
  turned_leads g xs y ys r,
  apart_turned xs (y ∷ ys) (round_apart g (xs ++ y ∷ ys) r),
  each_append (λ w. y ≤ w) ys xs (each_right (λ w. y ≤ w) xs (y ∷ ys) e).1 (each_left (λ w. y ≤ w) xs (y ∷ ys) e),
)

ap_front : (round : List ℕ) (place y : ℕ) (rest : List ℕ) → drop place round ≡ y ∷ rest → take place round ++ (y ∷ rest) ≡ round
ap_front round place y rest front = subst (λ (zs : List ℕ). take place round ++ zs ≡ round) front (take-append-drop place round)

pub turned_at : (round : List ℕ) (place : ℕ) → place < length round → EachOf (λ w. get_or round place 0 ≤ w) round → IsTurned round (drop place round ++ take place round)
turned_at round place h e g r =
    let y = get_or round place 0 in
    let rest = drop (place + 1) round in
    let front : drop place round ≡ y ∷ rest = drop_more round place 0 h in
    let whole : take place round ++ (y ∷ rest) ≡ round = ap_front round place y rest front in
    subst (λ (zs : List ℕ). IsCycle g (zs ++ take place round)) (sym front)
    (cycle_turned g (take place round) y rest (subst (IsRound g) (sym whole) r) (subst (EachOf (λ w. y ≤ w)) (sym whole) e))

-- the least so far, one more looked at
IsLeast : List ℕ → ℕ → ℕ → Type 0
IsLeast xs place least = (least < length xs) × EachOf (λ w. get_or xs least 0 ≤ w) (take place xs)

pub least_here : (xs : List ℕ) (place before least : ℕ) → least ≡ place → place < length xs → (before < length xs) × EachOf (λ w. get_or xs before 0 ≤ w) (take place xs) →
    get_or xs place 0 < get_or xs before 0 → (least < length xs) × EachOf (λ w. get_or xs least 0 ≤ w) (take (place + 1) xs)
unfolding IsLeast
least_here xs place before least e h i less =
    subst (IsLeast xs (place + 1)) (sym e)
    (h, each_more (λ w. get_or xs place 0 ≤ w) xs place 0 h (each_map (λ w. get_or xs before 0 ≤ w) (λ w. get_or xs place 0 ≤ w) (take place xs) (λ w k. omega arith) i.1) (omega arith))

pub least_before : (xs : List ℕ) (place before least : ℕ) → least ≡ before → place < length xs → (before < length xs) × EachOf (λ w. get_or xs before 0 ≤ w) (take place xs) →
    get_or xs before 0 ≤ get_or xs place 0 → (least < length xs) × EachOf (λ w. get_or xs least 0 ≤ w) (take (place + 1) xs)
unfolding IsLeast
least_before xs place before least e h i less =
    subst (IsLeast xs (place + 1)) (sym e) (i.0, each_more (λ w. get_or xs before 0 ≤ w) xs place 0 h i.1 less)
