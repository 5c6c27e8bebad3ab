-- A graph in which nothing drives a signal yet.
use Rattle.std.proofs.Common.{◌≡◌, ℕ, suc, ◌<◌, Bool, false, List, [], ◌∷◌, length, Some, refl, sym, subst, ap, ◌∙◌, get_or}
use Rattle.std.specs.Prelude.{slice_get, option_and_then}
use Rattle.exec_core.specs.Block.{Name}
use Rattle.exec_core.specs.Design.{place}
use Rattle.list_core.proofs.Options.{some_same}
use Rattle.design_core.specs.Design as design
use Rattle.list_core.specs.Lists.{EachOf}
use Rattle.graph_order.specs.Graphs.{Graph, edges_of}
use Rattle.dep_order.specs.Reaching.{IsLayered}
use Rattle.place_core.specs.Numbering.{Numbers, PlaceNumbers, AllCounted, number_in, numbers_of, AreCounted}
use Rattle.dep_order.specs.Blocks.{AreSignals}
use Rattle.dep_order.specs.Wiring.{AreNumbers, driver_in, is_met, IsWired}
use Rattle.dep_order.specs.Linking.{AreBelow}
use Rattle.place_core.proofs.Numbers.{at_within, numbered}

each_from_get : {A : Type 0} (P : A → Type 0) (xs : List A) → ((i : ℕ) (x : A) → slice_get xs i ≡ Some x → P x) → EachOf P xs
each_from_get P [] f = tt
each_from_get P (x ∷ xs) f = (f 0 x refl, each_from_get P xs (λ i y e. f (suc i) y e))

pub all_below : (d : design.Design) (all : AllCounted) (n : ℕ) → AreCounted d all → n ≡ length all.1 → AreBelow n all.0
all_below d all n counted e =
    each_from_get (AreSignals n) all.0
    (λ i numbers at x k is. subst (λ (m : ℕ). k < m) (sym e) (at_within d all.1 k (place i x) ((numbered d all counted).0.back (place i x) k (ap (option_and_then (λ (m : Numbers). m x)) at ∙ is))))

pub are_numbers : (d : design.Design) (all : AllCounted) → AreCounted d all → AreNumbers (length all.1) (number_in all.0)
are_numbers d all counted =
    let w = numbered d all counted in record {
      below = λ p n e. at_within d all.1 n p (w.0.back p n e);
      apart = λ p q n e f. some_same p q (sym (w.0.back p n e) ∙ w.0.back q n f);
    }

pub maps_count : (d : design.Design) (maps : List (List (Name × ℕ))) (all : AllCounted) → AreCounted d all → all.0 ≡ numbers_of maps → length maps ≡ length d.instances
maps_count d maps all counted e = sym (mapped maps) ∙ sym (ap length e) ∙ (numbered d all counted).1
  where
    mapped : (ms : List (List (Name × ℕ))) → length (numbers_of ms) ≡ length ms
    mapped [] = refl
    mapped (m ∷ ms) = ap (λ n. suc n) (mapped ms)

pub start_wired : (signals : ℕ) (number : PlaceNumbers) (g : Graph) (driven : List Bool) → ((v : ℕ) → edges_of g v ≡ []) → ((v : ℕ) → get_or driven v false ≡ false) → IsWired signals number g driven (is_met [] []) (driver_in [] [])
start_wired signals number g driven none unmarked p n e = record { marked = unmarked n; stands = none n }

pub start_layered : (signals : ℕ) (g : Graph) → ((v : ℕ) → edges_of g v ≡ []) → IsLayered signals g
start_layered signals g none v high = subst (EachOf (λ w. w < v)) (sym (none v)) tt
