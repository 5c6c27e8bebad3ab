-- How often a door was asked, when it is asked once more; and how often a client asked.
use Rattle.std.proofs.Common.{arith, ◌≡◌, ◌+◌, ◌<◌, ◌≤◌, ℕ, zero, suc, Bool, true, false, nat_eq, List, [], ◌∷◌, ◌++◌, drop, get_or, length, refl, sym, ◌∙◌, ap}
use Rattle.std.specs.Prelude.{if◌then◌else◌}
use Rattle.std.proofs.Math.Seq.{drop-cons}
use Rattle.std.proofs.lemmas.List.{drop_all}
use Rattle.hub_core.specs.declared.event.HubEvent.{HubEvent}
use Rattle.hub_core.specs.declared.event.HubEvent.TheVariants.{Ask, Left, Turns}
use Rattle.hub_core.specs.HubJournals.{HubDeed, goings, asks_of, hub_deeds}
use Rattle.hub_net.specs.Came.{comings, failings}
use Rattle.hub_net.specs.Clients.{ask_in}

pub comings_more : (came : List Bool) (linked : Bool) → comings (came ++ linked ∷ []) ≡ comings came + comings (linked ∷ [])
unfolding comings
comings_more [] linked = omega arith
comings_more (true ∷ came) linked = omega (arith, comings_more came linked)
comings_more (false ∷ came) linked = comings_more came linked

pub failings_more : (came : List Bool) (linked : Bool) → failings (came ++ linked ∷ []) ≡ failings came + failings (linked ∷ [])
unfolding failings
failings_more [] linked = omega arith
failings_more (true ∷ came) linked = failings_more came linked
failings_more (false ∷ came) linked = omega (arith, failings_more came linked)

pub counted : (came : List Bool) → comings came + failings came ≡ length came
unfolding comings failings
counted [] = omega arith
counted (true ∷ came) = omega (arith, counted came)
counted (false ∷ came) = omega (arith, counted came)

-- turns are no requests
pub asks_behind : (k n : ℕ) (deeds : List HubDeed) → asks_of k (goings n ++ deeds) ≡ asks_of k deeds
unfolding asks_of
asks_behind k zero deeds = refl
asks_behind k (suc n) deeds = asks_behind k n deeds

-- the next event
by_asker : (b : Bool) (text : List ℕ) (rest : List (List ℕ)) → length ((if b then text ∷ [] else []) ++ rest) ≡ (if b then 1 else 0) + length rest
by_asker true text rest = omega arith
by_asker false text rest = omega arith

asks_next : (k : ℕ) (e : HubEvent) (es : List HubEvent) → length (asks_of k (hub_deeds (e ∷ es))) ≡ ask_in k e + length (asks_of k (hub_deeds es))
unfolding asks_of hub_deeds
asks_next k (Ask asker text) es = by_asker (nat_eq asker k) text (asks_of k (hub_deeds es))
asks_next k (Left asker) es = omega arith
asks_next k (Turns n) es = ap length (asks_behind k n (hub_deeds es)) ∙ omega arith

pub asks_more : (k : ℕ) (events : List HubEvent) (i : ℕ) (e : HubEvent) (count total : ℕ) → i < length events → e ≡ get_or events i e → count + length (asks_of k (hub_deeds (drop i events))) ≡ total
    → (count + ask_in k e) + length (asks_of k (hub_deeds (drop (i + 1) events))) ≡ total
asks_more k events i e count total within is was =
    let behind : suc i ≡ i + 1 = omega arith in
    let at : drop i events ≡ e ∷ drop (i + 1) events = drop-cons events i e within ∙ (λ j. sym is j ∷ drop (behind j) events) in
    let more : length (asks_of k (hub_deeds (drop i events))) ≡ ask_in k e + length (asks_of k (hub_deeds (drop (i + 1) events))) = ap (λ l. length (asks_of k (hub_deeds l))) at ∙ asks_next k e (drop (i + 1) events) in
    omega (arith, was, more)

pub asks_all : (k : ℕ) (events : List HubEvent) (i count total : ℕ) → length events ≤ i → count + length (asks_of k (hub_deeds (drop i events))) ≡ total → count ≡ total
unfolding asks_of hub_deeds
asks_all k events i count total past was =
    let none : length (asks_of k (hub_deeds (drop i events))) ≡ 0 = ap (λ l. length (asks_of k (hub_deeds l))) (drop_all i events past) in
    omega (arith, was, none)
