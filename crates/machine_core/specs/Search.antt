-- A search over the positions that a turn looks at, for any test: what it answers, and which of two answers is the nearer.
use Rattle.std.specs.Prelude.{ℕ, ◌+◌, ℤ, pos, negsuc, min, max, Bool, List, length, Option, Some, None, find, take, nat_lt, if◌then◌else◌}
use Rattle.trace_core.specs.declared.scan.Way.{Way}
use Rattle.trace_core.specs.declared.scan.Way.TheVariants.{Forward, Backward}
use Rattle.trace_core.specs.declared.scan.Scanned.{Scanned}
use Rattle.trace_core.specs.declared.scan.Scanned.TheVariants as told
use Rattle.machine_core.specs.declared.found.Found.{Found}
use Rattle.machine_core.specs.declared.found.Found.TheVariants as found
use Rattle.machine_core.specs.Positions.{ahead, reach}

-- of so many positions those that a turn looks at from a place, the nearest first
abbrev pub looked_at : ℕ → Way → ℕ → List ℕ
looked_at count way place = take reach (ahead count way place)

-- the nearest of them that passes a test
abbrev pub nearest_that : (ℕ → Bool) → ℕ → Way → ℕ → Option ℕ
nearest_that test count way place = find test (looked_at count way place)

-- of two positions ahead the nearer
abbrev pub nearer_of : Way → ℕ → ℕ → ℕ
nearer_of Forward p q = min p q
nearer_of Backward p q = max p q

abbrev pub nearer : Way → Option ℕ → Option ℕ → Option ℕ
nearer way None other = other
nearer way (Some p) None = Some p
nearer way (Some p) (Some q) = Some (nearer_of way p q)

-- ---- answers

-- fewer positions lie ahead than one turn looks at
abbrev pub is_near_edge : ℕ → Way → ℕ → Bool
is_near_edge count way place = nat_lt (length (ahead count way place)) reach

-- the match, if there is one; else whether the edge is near
abbrev pub found_or : Option ℕ → Bool → Found
found_or (Some p) near = found.At p
found_or None near = if near then found.Edge else found.Nowhere

-- from a place: 0 is the start, and p + 1 is position p
abbrev pub searched_for : (ℕ → Bool) → ℕ → Way → ℕ → Found
searched_for test count way place = found_or (nearest_that test count way place) (is_near_edge count way place)

-- of two answers from one place the one with the nearer match; where neither has one, both say the same
abbrev pub nearer_found : Way → Found → Found → Found
nearer_found way (found.At p) (found.At q) = found.At (nearer_of way p q)
nearer_found way (found.At p) found.Edge = found.At p
nearer_found way (found.At p) found.Nowhere = found.At p
nearer_found way found.Edge other = other
nearer_found way found.Nowhere other = other

-- an answer, as it is told
abbrev pub told_of : Found → Scanned
told_of (found.At p) = told.Hit (pos p)
told_of found.Edge = told.Edge
told_of found.Nowhere = told.Nowhere

-- from a position, where -1 is the start
abbrev pub place_of : ℤ → ℕ
place_of (pos p) = p + 1
place_of (negsuc n) = 0
