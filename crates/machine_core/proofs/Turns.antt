-- A turn of a machine that runs does what its searches find.
use Rattle.std.proofs.Common.{◌≡◌, ℕ, Bool, true, false, List, length, Option, Some, None, nat_lt, refl, ap, ◌∙◌, if◌then◌else◌}
use Rattle.trace_core.specs.declared.scan.Way.{Way}
use Rattle.trace_core.specs.declared.scan.Want.{Want}
use Rattle.trace_core.specs.declared.scan.Want.TheVariants.{Breakpoints, Step}
use Rattle.world_core.specs.World.{World}
use Rattle.machine_core.specs.Positions.{position_count, ahead, reach}
use Rattle.machine_core.specs.Matching.{matches}
use Rattle.machine_core.specs.Search.{nearest_that, found_or, searched_for}
use Rattle.machine_core.specs.Machine.{Machine, awaited_by, edge_turn, moved_turn, turn_to}
use Rattle.machine_core.specs.Laws.{turn_from, found_by, TurnsBySearch}
use Rattle.machine_core.proofs.Ends.{running_turns}
use Rattle.machine_core.proofs.Joined.{answer_joined}

by_found : (w : World) (way : Way) (m : Machine) (positions : List ℕ) (o : Option ℕ) → turn_to w way m positions o ≡ turn_from w way m (found_or o (nat_lt (length positions) reach))
by_found w way m positions (Some p) = refl
by_found w way m positions None = by_edge (nat_lt (length positions) reach)
  where
    by_edge : (b : Bool) → (if b then edge_turn w way m else moved_turn way m) ≡ turn_from w way m (found_or None b)
    by_edge true = refl
    by_edge false = refl

by_want : (w : World) (m : Machine) (way : Way) (want : Want) → searched_for (matches w (awaited_by m) want) (position_count w) way m.place ≡ found_by w m way want
by_want w m way Breakpoints = answer_joined w (awaited_by m) (position_count w) way m.place
by_want w m way (Step named) = refl

pub turns_by_search : TurnsBySearch
turns_by_search w m way want e =
    running_turns w m way want e
    ∙ by_found w way m (ahead (position_count w) way m.place) (nearest_that (matches w (awaited_by m) want) (position_count w) way m.place)
    ∙ ap (turn_from w way m) (by_want w m way want)
