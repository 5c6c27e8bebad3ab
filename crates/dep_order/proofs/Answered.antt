-- Orders and cycles of numbers, as those of the signals of a design.
use Rattle.std.proofs.Common.{◌≡◌, ◌≢◌, ℕ, ◌<◌, ◌≤◌, Bool, true, false, true≢false, List, [], ◌∷◌, ◌++◌, map, cond, length, Option, Some, None, is_some, inl, inr, refl, sym, subst, ap, ap₂, ◌∙◌, get_or, ◌||◌}
use Rattle.std.specs.Prelude.{option_map, option_and_then, unwrap_or, find, filter}
use Rattle.std.proofs.lemmas.Bool.{cases_Bool}
use Rattle.std.proofs.lemmas.Option.{slice_get-get_or}
use Rattle.tree_core.specs.Tree.{Tree}
use Rattle.exec_core.specs.Whole.{Place, Drivers}
use Rattle.exec_core.specs.Design.{Process, place, driver_of, links_to, assigns_to, or_else}
use Rattle.list_core.proofs.Options.{some_same}
use Rattle.place_core.proofs.Signals.{is_signal}
use Rattle.design_core.specs.Design as design
use Rattle.design_exec.specs.Processes.{processes_of, is_signal_of}
use Rattle.list_core.specs.Lists.{EachOf, IsIn, AreApart}
use Rattle.list_core.proofs.Lists.{in_left, in_last, none_in, not_in}
use Rattle.graph_order.specs.Graphs.{Graph}
use Rattle.dep_order.specs.Reaching.{SignalsAfter}
use Rattle.dep_order.specs.Wiring.{driver_in, is_met, shown_tree, IsWired}
use Rattle.place_core.specs.Linking.{Link}
use Rattle.dep_order.specs.Joined.{IsJoined, with_drivers}
use Rattle.place_core.specs.Orders.{Pair, signal_at, StandsFirst}
use Rattle.place_core.specs.Numbering.{AllCounted, number_in, place_at, IsNumbering, AreCounted}
use Rattle.dep_order.specs.Ordering.{is_met_in, DriversAreTrees, pair_of, pairs_of, marked_in, IsWiredDesign, OrdersAnswer, CyclesAnswer}
use Rattle.dep_order.proofs.Joining.{apart_places, cycles_join, orders_join}
use Rattle.place_core.proofs.Numbers.{at_within, numbered}

-- ---- places

-- the place of a number
pub place_of : design.Design → List Pair → ℕ → Place
place_of d pairs n = unwrap_or (place_at d pairs n) (place 0 [])

pub place_is : (d : design.Design) (pairs : List Pair) (n : ℕ) (p : Place) → place_at d pairs n ≡ Some p → place_of d pairs n ≡ p
unfolding place_of
place_is d pairs n p e = ap (λ (o : Option Place). unwrap_or o (place 0 [])) e

-- ---- drivers

none_met : (links : List Link) (processes : List Process) (p : Place) → is_met links processes p ≡ false → is_some (driver_in links processes p) ≡ false
none_met links processes p e = go (find (links_to p) links) (find (assigns_to p) processes) e
  where
    go : (o : Option Link) (u : Option Process) → (is_some o || is_some u) ≡ false → is_some (or_else (option_map (λ (link : Link). link.1) o) (option_and_then (shown_tree p) u)) ≡ false
    go None None f = refl
    go None (Some b) f = absurd (true≢false f)
    go (Some l) u f = absurd (true≢false f)

met_is_driven : (d : design.Design) (p : Place) → DriversAreTrees d → is_signal_of d p ≡ true → is_met_in d p ≡ is_some (driver_of (processes_of d) p)
met_is_driven d p w s = elim (cases_Bool (is_met_in d p)) [
  | inl met ↦ met ∙ sym (w.trees p s met)
  | inr not ↦ not ∙ sym (none_met (processes_of d).links (processes_of d).processes p not) ∙ ap (λ (f : Place → Option (Tree Place)). is_some (f p)) w.shown
]

-- ---- a design

-- what is known of each number
record IsPlaced (d : design.Design) (all : AllCounted) (v : ℕ) : Type 0 where
  at : place_at d all.1 v ≡ Some (place_of d all.1 v)
  number : number_in all.0 (place_of d all.1 v) ≡ Some v
  pair : signal_at d (pair_of all.1 v) ≡ Some (place_of d all.1 v)
  signal : is_signal_of d (place_of d all.1 v) ≡ true

placed : (d : design.Design) (all : AllCounted) (v : ℕ) → IsNumbering d (number_in all.0) all.1 → v < length all.1 → IsPlaced d all v
placed d all v w low =
    let there = w.forth v low in
    let here = place_is d all.1 v there.0 there.1.0 in
    let at : place_at d all.1 v ≡ Some (place_of d all.1 v) = there.1.0 ∙ ap (λ (p : Place). Some p) (sym here) in
    let pair : signal_at d (pair_of all.1 v) ≡ Some (place_of d all.1 v) = sym (ap (option_and_then (signal_at d)) (slice_get-get_or all.1 v (0, 0) low)) ∙ at in
    record { at = at; number = ap (number_in all.0) here ∙ there.1.1; pair = pair; signal = is_signal d (pair_of all.1 v) (place_of d all.1 v) pair }

joined : (d : design.Design) (all : AllCounted) (g : Graph) (driven : List Bool) → AreCounted d all → IsWiredDesign d all g driven → DriversAreTrees d →
    IsJoined (length all.1) g (number_in all.0) (place_of d all.1) (is_signal_of d) (driver_of (processes_of d))
joined d all g driven counted wired trees =
    let w = numbered d all counted in record {
      numbers = record {
        below = λ p n e. at_within d all.1 n p (w.0.back p n e);
        apart = λ p q n e f. some_same p q (sym (w.0.back p n e) ∙ w.0.back q n f);
      };
      driven = driven;
      met = is_met_in d;
      wired = subst (IsWired (length all.1) (number_in all.0) g driven (is_met_in d)) trees.shown wired;
      places = λ n low. (placed d all n w.0 low).number;
      numbered = w.2;
      over = trees.over;
    }

-- ---- orders

after_apart : (signals : ℕ) (g : Graph) (before vs : List ℕ) → SignalsAfter signals g before vs → ((v : ℕ) → IsIn v before → IsIn v vs → ⊥) × AreApart vs
after_apart signals g before [] s = ((λ v h k. k), tt)
after_apart signals g before (v ∷ vs) s =
    let rest = after_apart signals g (before ++ v ∷ []) vs s.2 in
    ((λ w h k. elim k [ inl e ↦ s.0 (subst (λ (u : ℕ). IsIn u before) e h) | inr m ↦ rest.0 w (in_left w before (v ∷ []) h) m ]), (none_in v vs (λ k. rest.0 v (in_last v before) k), rest.1))

filter_kept : (P : ℕ → Type 0) (test : ℕ → Bool) (vs : List ℕ) → EachOf P vs → EachOf P (filter test vs)
filter_kept P test [] e = tt
filter_kept P test (v ∷ vs) e = by_test (test v) (filter_kept P test vs e.1)
  where
    by_test : (b : Bool) → EachOf P (filter test vs) → EachOf P (cond b (v ∷ filter test vs) (filter test vs))
    by_test true k = (e.0, k)
    by_test false k = k

filter_in : (test : ℕ → Bool) (v : ℕ) (vs : List ℕ) → IsIn v (filter test vs) → IsIn v vs
filter_in test v [] h = h
filter_in test v (w ∷ ws) h = by_test (test w) (filter_in test v ws) h
  where
    by_test : (b : Bool) → (IsIn v (filter test ws) → IsIn v ws) → IsIn v (cond b (w ∷ filter test ws) (filter test ws)) → IsIn v (w ∷ ws)
    by_test true f k = elim k [ inl e ↦ inl e | inr m ↦ inr (f m) ]
    by_test false f k = inr (f k)

filter_apart : (test : ℕ → Bool) (vs : List ℕ) → AreApart vs → AreApart (filter test vs)
filter_apart test [] a = tt
filter_apart test (v ∷ vs) a = by_test (test v) (filter_apart test vs a.1)
  where
    by_test : (b : Bool) → AreApart (filter test vs) → AreApart (cond b (v ∷ filter test vs) (filter test vs))
    by_test true k = (none_in v (filter test vs) (λ m. not_in v vs a.0 (filter_in test v vs m)), k)
    by_test false k = k

same_filter : (P : ℕ → Type 0) (f h : ℕ → Bool) (vs : List ℕ) → ((v : ℕ) → P v → f v ≡ h v) → EachOf P vs → filter f vs ≡ filter h vs
same_filter P f h [] e all = refl
same_filter P f h (v ∷ vs) e all = ap₂ (λ (b : Bool) (us : List ℕ). cond b (v ∷ us) us) (e v all.0) (same_filter P f h vs e all.1)

each_driven : (at : ℕ → Place) (d : Drivers) (vs : List ℕ) → EachOf (λ p. d p ≢ None) (map at (with_drivers at d vs))
each_driven at d [] = tt
each_driven at d (v ∷ vs) = by_test (is_some (d (at v))) refl (each_driven at d vs)
  where
    by_test : (b : Bool) → is_some (d (at v)) ≡ b → EachOf (λ p. d p ≢ None) (map at (with_drivers at d vs)) →
        EachOf (λ p. d p ≢ None) (map at (cond b (v ∷ with_drivers at d vs) (with_drivers at d vs)))
    by_test true e k = ((λ f. absurd (true≢false (sym e ∙ ap is_some f))), k)
    by_test false e k = k

places_told : (d : design.Design) (all : AllCounted) (vs : List ℕ) → IsNumbering d (number_in all.0) all.1 → EachOf (λ v. v < length all.1) vs → map (signal_at d) (pairs_of all.1 vs) ≡ map (λ p. Some p) (map (place_of d all.1) vs)
places_told d all [] w e = refl
places_told d all (v ∷ vs) w e = ap₂ (λ (o : Option Place) (os : List (Option Place)). o ∷ os) (placed d all v w e.0).pair (places_told d all vs w e.1)

pub orders_answer : OrdersAnswer
orders_answer d all g driven order counted wired trees o =
    let w = numbered d all counted in
    let at : ℕ → Place = place_of d all.1 in
    let drivers : Drivers = driver_of (processes_of d) in
    let j = joined d all g driven counted wired trees in
    let same : marked_in driven order ≡ with_drivers at drivers order =
    same_filter (λ v. v < length all.1) (λ v. get_or driven v false) (λ v. is_some (drivers (at v))) order
    (λ v low. (wired (at v) v (placed d all v w.0 low).number).marked ∙ met_is_driven d (at v) trees (placed d all v w.0 low).signal) o.signals_alone in
    let below : EachOf (λ v. v < length all.1) (with_drivers at drivers order) = filter_kept (λ v. v < length all.1) (λ v. is_some (drivers (at v))) order o.signals_alone in
    record {
      order = map at (with_drivers at drivers order);
      signals = ap (λ (vs : List ℕ). map (signal_at d) (pairs_of all.1 vs)) same ∙ places_told d all (with_drivers at drivers order) w.0 below;
      driven = each_driven at drivers order;
      once = apart_places (length all.1) g (number_in all.0) at (is_signal_of d) drivers (with_drivers at drivers order) j below (filter_apart (λ v. is_some (drivers (at v))) order (after_apart (length all.1) g [] order o.in_order).1);
      in_order = orders_join (length all.1) g (number_in all.0) at (is_signal_of d) drivers order j o;
    }

-- ---- cycles

first_of : (d : design.Design) (all : AllCounted) (v : ℕ) (vs : List ℕ) → IsNumbering d (number_in all.0) all.1 → v < length all.1 → EachOf (λ w. w < length all.1) vs → EachOf (λ w. v ≤ w) vs → EachOf (StandsFirst (pair_of all.1 v)) (pairs_of all.1 vs)
first_of d all v [] w low below least = tt
first_of d all v (x ∷ xs) w low below least =
    (w.sorted v x (pair_of all.1 v) (pair_of all.1 x) least.0 (slice_get-get_or all.1 v (0, 0) low) (slice_get-get_or all.1 x (0, 0) below.0), first_of d all v xs w low below.1 least.1)

pub cycles_answer : CyclesAnswer
cycles_answer d all g driven [] counted wired trees c = absurd c
cycles_answer d all g driven (v ∷ vs) counted wired trees c =
    let w = numbered d all counted in
    let j = joined d all g driven counted wired trees in
    record {
      loop = map (place_of d all.1) (v ∷ vs);
      signals = places_told d all (v ∷ vs) w.0 c.3;
      depend = cycles_join (length all.1) g (number_in all.0) (place_of d all.1) (is_signal_of d) (driver_of (processes_of d)) (v ∷ vs) j c;
      first = first_of d all v vs w.0 c.3.0 c.3.1 c.2;
    }
