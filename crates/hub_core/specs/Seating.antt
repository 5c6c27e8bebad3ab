-- Clients that have just taken their seats, and the room for them.
use Rattle.std.specs.Prelude.{◌≡◌, ◌≤◌, ℕ, false, List, [], length, map, replicate, vec_capacity}
use Rattle.link_edge.specs.Links.{Meaning}
use Rattle.hub_core.specs.declared.seats.Seats.{Seats}
use Rattle.hub_core.specs.declared.seats.HubRoom.{HubRoom}
use Rattle.hub_core.specs.Clients.{AllFit, nothing}

-- there is a client for each link, of which nothing was read and to which nothing was told, and room for what is given back of each
pub record AreSeated {L : Type 0} (m : L → Meaning) (links : List L) (seats : Seats L) : Type 0 where
  pub fresh : AllFit m 0 nothing nothing (map m links) seats.clients.items
  pub len : length seats.clients.items ≡ length links
  pub empty : (seats.links.items ≡ []) × (seats.ends.items ≡ [])
  pub room : (length links ≤ vec_capacity seats.links) × (length links ≤ vec_capacity seats.ends)

-- there is room for so many clients, and nothing was done yet
pub record HasRoom {L : Type 0} (count : ℕ) (room : HubRoom L) : Type 0 where
  pub empty : (room.seats.clients.items ≡ []) × (room.seats.links.items ≡ []) × (room.seats.ends.items ≡ [])
  pub places : (count ≤ vec_capacity room.seats.clients) × (count ≤ vec_capacity room.seats.links) × (count ≤ vec_capacity room.seats.ends)
  pub events : room.journal.events.items ≡ []
  pub byes : room.journal.byes.items ≡ replicate count false
