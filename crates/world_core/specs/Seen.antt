-- A world without what nothing can see. Worlds that differ in nothing that can be seen are equal then, so what is computed from
-- such a world alone is the same for both.
use Rattle.std.specs.Prelude.{◌≡◌, ℕ, Bool, false, ◌&&◌, List, [], length, Option, Some, None, slice_get, nat_lt, nat_eq, bytes_eq, if◌then◌else◌}
use Rattle.std.specs.List.{list_any}
use Rattle.exec_core.specs.Block.{Name}
use Rattle.world_core.specs.World.{Status, IsUnset, Shows, Unset, World, AreSame, trail_text}

-- whether a name is in scope at a statement, and whether an instance has it; a statement that is not there has neither
abbrev pub has_name : Option Shows → Name → Bool
has_name None x = false
has_name (Some shows) x = list_any (bytes_eq x) shows.names

abbrev pub has_instance : Option Shows → ℕ → Bool
has_instance None i = false
has_instance (Some shows) i = list_any (nat_eq i) shows.instances

-- the status of a name in scope at a statement of an instance; any other is unset
abbrev pub seen_status : World → (slot instance : ℕ) → Name → Status
seen_status w k i x = if has_instance (slice_get w.slots k) i && has_name (slice_get w.slots k) x then w.status k i x else IsUnset

-- the threads of a statement in a cycle that there is
abbrev pub seen_threads : World → (cycle slot : ℕ) → List ℕ
seen_threads w t k = if nat_lt t w.cycles && nat_lt k (length w.slots) then w.threads t k else []

-- a world as it is seen: the same cycles, paths and statements, with these statuses and threads; and in each of these threads what
-- is shown of a name in scope
abbrev pub seen : World → World
seen w = record {
  cycles = w.cycles;
  paths = w.paths;
  slots = w.slots;
  status = seen_status w;
  threads = seen_threads w;
  shown = λ t k i x. if list_any (nat_eq i) (seen_threads w t k) && has_name (slice_get w.slots k) x then w.shown t k i x else Unset;
}

-- worlds that differ in nothing that can be seen are equal, as they are seen
abbrev pub SameWorldsAreSeenAlike : Type 0
SameWorldsAreSeenAlike = (v w : World) → AreSame v w → seen v ≡ seen w

-- a world differs in nothing that can be seen from what is seen of it
abbrev pub SeenWorldsAreSame : Type 0
SeenWorldsAreSame = (w : World) → AreSame (seen w) w

-- so they have one trail
abbrev pub SeenWorldsKeepTrails : Type 0
SeenWorldsKeepTrails = (w : World) → trail_text (seen w) ≡ trail_text w
