-- The room for the clients of a hub whose links are in threads of their own.
use Rattle.std.specs.Prelude.{◌≡◌, ◌≤◌, ℕ, [], vec_capacity}
use Rattle.hub_core.specs.Seating.{HasRoom}
use Rattle.hub_run.specs.declared.serve.Rooms.{Rooms}

-- there is room for so many clients, and nothing is in it
pub record HasRooms {S P L : Type 0} (count : ℕ) (rooms : Rooms S P L) : Type 0 where
  pub hub : HasRoom count rooms.hub
  pub ports : (rooms.posts.items ≡ []) × (rooms.ports.items ≡ []) × (count ≤ vec_capacity rooms.posts) × (count ≤ vec_capacity rooms.ports)
  pub back : (rooms.links.items ≡ []) × (rooms.served.items ≡ []) × (count ≤ vec_capacity rooms.links) × (count ≤ vec_capacity rooms.served)
