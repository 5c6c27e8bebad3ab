-- A search for two things finds the nearer of what searches for each of them find, since the positions that are looked at stand in order.
use Rattle.std.proofs.Common.{◌≡◌, ℕ, zero, suc, ◌+◌, ◌-◌, ◌≤◌, ◌||◌, Bool, true, false, cond, List, [], ◌∷◌, ◌++◌, take, drop, reverse, Option, Some, None, refl, sym, ap, ap₂, subst, ◌∙◌, arith, find}
use Rattle.std.proofs.lemmas.List.{reverse-append}
use Rattle.std.specs.List.{list_any}
use Rattle.list_core.specs.Lists.{EachOf, from}
use Rattle.trace_core.specs.declared.scan.Way.{Way}
use Rattle.trace_core.specs.declared.scan.Way.TheVariants.{Forward, Backward}
use Rattle.trace_core.specs.declared.scan.Want.TheVariants.{Breakpoints}
use Rattle.world_core.specs.World.{World}
use Rattle.machine_core.specs.Positions.{cycle_at, slot_at, ahead, reach}
use Rattle.machine_core.specs.Matching.{Awaited, breakpoints_alone, watches_alone, fits_breakpoint, fits_watch, matches}
use Rattle.machine_core.specs.Search.{looked_at, nearest_that, nearer_of, nearer, is_near_edge, found_or, searched_for, nearer_found}
use Rattle.machine_core.specs.Laws.{SearchesJoin}

-- ---- positions in order

-- a position is not farther than another
NotFarther : Way → ℕ → ℕ → Type 0
NotFarther Forward p q = p ≤ q
NotFarther Backward p q = q ≤ p

InOrder : Way → List ℕ → Type 0
unfolding NotFarther
InOrder way [] = Unit {0}
InOrder way (x ∷ xs) = EachOf (NotFarther way x) xs × InOrder way xs

each_taken : (P : ℕ → Type 0) (n : ℕ) (xs : List ℕ) → EachOf P xs → EachOf P (take n xs)
each_taken P zero xs h = tt
each_taken P (suc n) [] h = tt
each_taken P (suc n) (x ∷ xs) h = (h.0, each_taken P n xs h.1)

taken_in_order : (way : Way) (n : ℕ) (xs : List ℕ) → InOrder way xs → InOrder way (take n xs)
unfolding InOrder
taken_in_order way zero xs h = tt
taken_in_order way (suc n) [] h = tt
taken_in_order way (suc n) (x ∷ xs) h = (each_taken (NotFarther way x) n xs h.0, taken_in_order way n xs h.1)

dropped_in_order : (way : Way) (n : ℕ) (xs : List ℕ) → InOrder way xs → InOrder way (drop n xs)
unfolding InOrder
dropped_in_order way zero xs h = h
dropped_in_order way (suc n) [] h = tt
dropped_in_order way (suc n) (x ∷ xs) h = dropped_in_order way n xs h.1

from_low : (low k n : ℕ) → low ≤ k → EachOf (λ q. low ≤ q) (from k n)
from_low low k zero h = tt
from_low low k (suc n) h = (h, from_low low (k + 1) n (omega (arith, h)))

from_in_order : (k n : ℕ) → InOrder Forward (from k n)
unfolding InOrder NotFarther
from_in_order k zero = tt
from_in_order k (suc n) = (from_low k (k + 1) n (omega arith), from_in_order (k + 1) n)

each_joined : (P : ℕ → Type 0) (xs ys : List ℕ) → EachOf P xs → EachOf P ys → EachOf P (xs ++ ys)
each_joined P [] ys h g = g
each_joined P (x ∷ xs) ys h g = (h.0, each_joined P xs ys h.1 g)

turned_more : (x : ℕ) (xs : List ℕ) → reverse (x ∷ xs) ≡ reverse xs ++ x ∷ []
turned_more x xs = reverse-append (x ∷ []) xs

each_turned : (P : ℕ → Type 0) (xs : List ℕ) → EachOf P xs → EachOf P (reverse xs)
each_turned P [] h = tt
each_turned P (x ∷ xs) h = subst (EachOf P) (sym (turned_more x xs)) (each_joined P (reverse xs) (x ∷ []) (each_turned P xs h.1) (h.0, tt))

last_in_order : (x : ℕ) (ys : List ℕ) → InOrder Backward ys → EachOf (λ y. x ≤ y) ys → InOrder Backward (ys ++ x ∷ [])
unfolding InOrder NotFarther
last_in_order x [] h low = (tt, tt)
last_in_order x (y ∷ ys) h low = (each_joined (NotFarther Backward y) ys (x ∷ []) h.0 (low.0, tt), last_in_order x ys h.1 low.1)

turned_in_order : (xs : List ℕ) → InOrder Forward xs → InOrder Backward (reverse xs)
unfolding InOrder NotFarther
turned_in_order [] h = tt
turned_in_order (x ∷ xs) h = subst (InOrder Backward) (sym (turned_more x xs)) (last_in_order x (reverse xs) (turned_in_order xs h.1) (each_turned (λ y. x ≤ y) xs h.0))

looked_in_order : (count : ℕ) (way : Way) (place : ℕ) → InOrder way (looked_at count way place)
looked_in_order count Forward place = taken_in_order Forward reach (ahead count Forward place) (dropped_in_order Forward place (from 0 count) (from_in_order 0 count))
looked_in_order count Backward place =
    taken_in_order Backward reach (ahead count Backward place) (turned_in_order (take (place - 1) (from 0 count)) (taken_in_order Forward (place - 1) (from 0 count) (from_in_order 0 count)))

-- ---- which is found

found_each : (P : ℕ → Type 0) (f : ℕ → Bool) (xs : List ℕ) (y : ℕ) → EachOf P xs → find f xs ≡ Some y → P y
found_each P f [] y h e = absurd cc
found_each P f (x ∷ xs) y h e = by (f x) (found_each P f xs y h.1) e
  where
    by : (b : Bool) → (find f xs ≡ Some y → P y) → cond b (Some x) (find f xs) ≡ Some y → P y
    by true more is = subst P (let same : x ≡ y = cc in same) h.0
    by false more is = more is

near_first : (way : Way) (x y : ℕ) → NotFarther way x y → nearer_of way x y ≡ x
unfolding NotFarther
near_first Forward x y h = omega (arith, h)
near_first Backward x y h = omega (arith, h)

near_second : (way : Way) (x y : ℕ) → NotFarther way x y → nearer_of way y x ≡ x
unfolding NotFarther
near_second Forward x y h = omega (arith, h)
near_second Backward x y h = omega (arith, h)

nearer_self : (way : Way) (x : ℕ) → nearer_of way x x ≡ x
nearer_self Forward x = omega arith
nearer_self Backward x = omega arith

first_nearer : (way : Way) (x : ℕ) (o : Option ℕ) → ((y : ℕ) → o ≡ Some y → NotFarther way x y) → nearer way (Some x) o ≡ Some x
first_nearer way x None h = refl
first_nearer way x (Some y) h = ap (λ n. Some n) (near_first way x y (h y refl))

second_nearer : (way : Way) (x : ℕ) (o : Option ℕ) → ((y : ℕ) → o ≡ Some y → NotFarther way x y) → nearer way o (Some x) ≡ Some x
second_nearer way x None h = refl
second_nearer way x (Some y) h = ap (λ n. Some n) (near_second way x y (h y refl))

by_tests : (way : Way) (f g : ℕ → Bool) (x : ℕ) (xs : List ℕ) → EachOf (NotFarther way x) xs → (a b : Bool)
    → find (λ p. f p || g p) xs ≡ nearer way (find f xs) (find g xs)
    → cond (a || b) (Some x) (find (λ p. f p || g p) xs) ≡ nearer way (cond a (Some x) (find f xs)) (cond b (Some x) (find g xs))
by_tests way f g x xs each true true more = ap (λ n. Some n) (sym (nearer_self way x))
by_tests way f g x xs each true false more = sym (first_nearer way x (find g xs) (λ y e. found_each (NotFarther way x) g xs y each e))
by_tests way f g x xs each false true more = sym (second_nearer way x (find f xs) (λ y e. found_each (NotFarther way x) f xs y each e))
by_tests way f g x xs each false false more = more

found_nearer : (way : Way) (f g : ℕ → Bool) (xs : List ℕ) → InOrder way xs → find (λ p. f p || g p) xs ≡ nearer way (find f xs) (find g xs)
unfolding InOrder
found_nearer way f g [] h = refl
found_nearer way f g (x ∷ xs) h = by_tests way f g x xs h.0 (f x) (g x) (found_nearer way f g xs h.1)

pub either_found : (f g : ℕ → Bool) (count : ℕ) (way : Way) (place : ℕ)
    → nearest_that (λ p. f p || g p) count way place ≡ nearer way (nearest_that f count way place) (nearest_that g count way place)
either_found f g count way place = found_nearer way f g (looked_at count way place) (looked_in_order count way place)

found_joined : (way : Way) (near : Bool) (a b : Option ℕ) → found_or (nearer way a b) near ≡ nearer_found way (found_or a near) (found_or b near)
found_joined way true None b = refl
found_joined way false None b = refl
found_joined way true (Some p) None = refl
found_joined way false (Some p) None = refl
found_joined way near (Some p) (Some q) = refl

pub either_answered : (f g : ℕ → Bool) (count : ℕ) (way : Way) (place : ℕ)
    → searched_for (λ p. f p || g p) count way place ≡ nearer_found way (searched_for f count way place) (searched_for g count way place)
either_answered f g count way place =
    ap (λ o. found_or o (is_near_edge count way place)) (either_found f g count way place) ∙ found_joined way (is_near_edge count way place) (nearest_that f count way place) (nearest_that g count way place)

-- ---- what a position matches

or_none : (b : Bool) → (b || false) ≡ b
or_none true = refl
or_none false = refl

or_last : (b : Bool) → true ≡ (b || true)
or_last true = refl
or_last false = refl

any_alone : (f : ℕ → Bool) (xs : List ℕ) → list_any (λ x. f x || false) xs ≡ list_any f xs
any_alone f [] = refl
any_alone f (x ∷ xs) = ap₂ (λ (a b : Bool). a || b) (or_none (f x)) (any_alone f xs)

either_more : (a b rest fs gs : Bool) → rest ≡ (fs || gs) → ((a || b) || rest) ≡ ((a || fs) || (b || gs))
either_more true b rest fs gs e = refl
either_more false true rest fs gs e = or_last fs
either_more false false rest fs gs e = e

any_either : (f g : ℕ → Bool) (xs : List ℕ) → list_any (λ x. f x || g x) xs ≡ (list_any f xs || list_any g xs)
any_either f g [] = refl
any_either f g (x ∷ xs) = either_more (f x) (g x) _ _ _ (any_either f g xs)

-- a thread fits a watch, or a breakpoint
abbrev watched : World → Awaited → ℕ → ℕ → Bool
watched w awaited p i = list_any (fits_watch w (cycle_at w p) (slot_at w p) i) awaited.watches

abbrev broken : World → Awaited → ℕ → ℕ → Bool
broken w awaited p i = list_any (fits_breakpoint w (cycle_at w p) (slot_at w p) i) awaited.breakpoints

pub matched : (w : World) (awaited : Awaited) (p : ℕ)
    → matches w awaited Breakpoints p ≡ (matches w (watches_alone awaited.watches) Breakpoints p || matches w (breakpoints_alone awaited.breakpoints) Breakpoints p)
matched w awaited p =
    any_either (watched w awaited p) (broken w awaited p) (w.threads (cycle_at w p) (slot_at w p))
    ∙ ap (λ (b : Bool). b || list_any (broken w awaited p) (w.threads (cycle_at w p) (slot_at w p))) (sym (any_alone (watched w awaited p) (w.threads (cycle_at w p) (slot_at w p))))

find_same : (f g : ℕ → Bool) → ((p : ℕ) → f p ≡ g p) → (xs : List ℕ) → find f xs ≡ find g xs
find_same f g h [] = refl
find_same f g h (x ∷ xs) = ap₂ (λ (b : Bool) o. cond b (Some x) o) (h x) (find_same f g h xs)

pub nearest_joined : (w : World) (awaited : Awaited) (count : ℕ) (way : Way) (place : ℕ)
    → nearest_that (matches w awaited Breakpoints) count way place
    ≡ nearer way (nearest_that (matches w (watches_alone awaited.watches) Breakpoints) count way place) (nearest_that (matches w (breakpoints_alone awaited.breakpoints) Breakpoints) count way place)
nearest_joined w awaited count way place =
    find_same _ _ (matched w awaited) (looked_at count way place)
    ∙ either_found (matches w (watches_alone awaited.watches) Breakpoints) (matches w (breakpoints_alone awaited.breakpoints) Breakpoints) count way place

-- what a search for both answers
pub answer_joined : (w : World) (awaited : Awaited) (count : ℕ) (way : Way) (place : ℕ)
    → searched_for (matches w awaited Breakpoints) count way place
    ≡ nearer_found way (searched_for (matches w (watches_alone awaited.watches) Breakpoints) count way place) (searched_for (matches w (breakpoints_alone awaited.breakpoints) Breakpoints) count way place)
answer_joined w awaited count way place =
    ap (λ o. found_or o (is_near_edge count way place)) (nearest_joined w awaited count way place)
    ∙ found_joined way (is_near_edge count way place) (nearest_that (matches w (watches_alone awaited.watches) Breakpoints) count way place) (nearest_that (matches w (breakpoints_alone awaited.breakpoints) Breakpoints) count way place)

pub searches_join : SearchesJoin
searches_join = record { either = either_found; found = either_answered; matched = matched; nearest = nearest_joined; stepped = λ w awaited named p. refl }
