-- The hub of links that have just come, from what a hub says that was served.
use Rattle.std.proofs.Common.{◌≡◌, inl, inr, ◌⊎◌, ℕ, suc, Bool, List, [], ◌∷◌, All, length, refl, ap}
use Rattle.std.proofs.lemmas.List.Elements.{All-head, All-tail}
use Rattle.world_core.specs.World.{World}
use Rattle.machine_core.specs.Reading.{Reader, IsReader}
use Rattle.machine_core.proofs.Readers.{some_reader}
use Rattle.link_edge.specs.Links.{Meaning, IsFresh}
use Rattle.hub_core.specs.declared.event.HubEvent.{HubEvent}
use Rattle.hub_core.specs.declared.served.ClientEnd.{ClientEnd}
use Rattle.hub_core.specs.declared.served.HubEnd.{HubEnd}
use Rattle.hub_core.specs.declared.served.HubEnd.TheVariants as hub_ends
use Rattle.hub_core.specs.Hubs.{HubState}
use Rattle.hub_core.specs.Ends.{AllServed, AllOpen}
use Rattle.hub_core.specs.Served.{HubServes, carried, unserved}

-- a link that has just come is not shut
pub all_open : (starts : List Meaning) → All IsFresh starts → AllOpen starts
unfolding AllOpen
all_open [] fresh = tt
all_open (a ∷ starts) fresh = ((All-head IsFresh a starts fresh).shut, all_open starts (All-tail IsFresh a starts fresh))

-- each client has an end
ends_len : (k : ℕ) (asked lines : ℕ → List (List ℕ)) (took here : ℕ → Bool) (starts nows : List Meaning) (es : List ClientEnd) → AllServed k asked lines took here starts nows es → length es ≡ length starts
unfolding AllServed
ends_len k asked lines took here [] [] [] all = refl
ends_len k asked lines took here (a ∷ starts) (b ∷ nows) (e ∷ es) all = ap suc (ends_len (suc k) asked lines took here starts nows es all.1)
ends_len k asked lines took here [] (b ∷ nows) es all = absurd all
ends_len k asked lines took here [] [] (e ∷ es) all = absurd all
ends_len k asked lines took here (a ∷ starts) [] es all = absurd all
ends_len k asked lines took here (a ∷ starts) (b ∷ nows) [] all = absurd all

module _ (w : World) (first : HubState) (starts nows : List Meaning) (es : List ClientEnd) (events : List HubEvent) (closing : List (List ℕ)) (end : HubEnd) where
  seated_by : (read : Reader) → HubServes read w first starts nows es events closing end → ((es ≡ []) × (end ≡ hub_ends.NoMemory)) ⊎ (length es ≡ length starts)
  seated_by read (carried all) = inr (ends_len 0 _ _ _ _ starts nows es all.each)
  seated_by read (unserved same none nothing silent out) = inl (none, out)

  pub seated : ((read : Reader) → IsReader read → HubServes read w first starts nows es events closing end) → ((es ≡ []) × (end ≡ hub_ends.NoMemory)) ⊎ (length es ≡ length starts)
  seated served = seated_by some_reader.0 (served some_reader.0 some_reader.1)

-- over the world and from the state that are meant
pub served_as : (read : Reader) (w w' : World) (first first' : HubState) (starts nows : List Meaning) (es : List ClientEnd) (events : List HubEvent) (closing : List (List ℕ)) (end : HubEnd) → w ≡ w' → first ≡ first'
    → HubServes read w first starts nows es events closing end → HubServes read w' first' starts nows es events closing end
served_as read w w' first first' starts nows es events closing end same_world same_state served = rw (same_world, same_state) at served
