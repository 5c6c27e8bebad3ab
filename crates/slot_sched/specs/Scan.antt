-- What a search for breakpoints, or for a step, over the positions of a world answers.
use Rattle.std.specs.Prelude.{ℕ, ◌/◌, ◌%◌, ℤ, Bool, List, length}
use Rattle.symtab.specs.declared.parts.TableParts.{TableParts}
use Rattle.trace_core.specs.Samples.{Samples}
use Rattle.trace_core.specs.declared.scan.Way.{Way}
use Rattle.trace_core.specs.declared.scan.Want.{Want}
use Rattle.trace_core.specs.declared.scan.Scanned.{Scanned}
use Rattle.world_core.specs.World.{World}
use Rattle.machine_core.specs.declared.found.Found.{Found}
use Rattle.machine_core.specs.Positions.{position_count}
use Rattle.machine_core.specs.Matching.{Breakpoint, breakpoints_alone, matches}
use Rattle.machine_core.specs.Search.{searched_for, told_of, place_of}
use Rattle.slot_sched.specs.declared.armed.Armed.{Armed}
use Rattle.slot_sched.specs.Waiting.{slot_stops}

-- from a place: 0 is the start, and p + 1 is position p
abbrev pub searched : World → List Breakpoint → Want → Way → ℕ → Found
searched w breakpoints want way place = searched_for (matches w (breakpoints_alone breakpoints) want) (position_count w) way place

-- from a position, where -1 is the start, as it is told
abbrev pub scanned : World → List Breakpoint → Want → Way → ℤ → Scanned
scanned w breakpoints want way at = told_of (searched w breakpoints want way (place_of at))

-- ---- the same, position by position

-- what is searched for is at a position
abbrev pub position_stops : TableParts → Samples → List Armed → Want → ℕ → Bool
position_stops parts s armed want p = slot_stops parts (s.sample (p / length parts.slots)) (p % length parts.slots) armed want
