-- The watches that a list holds, and when they are those of a table.
use Rattle.std.specs.Prelude.{◌≡◌, ℕ, ◌+◌, ◌==◌, ℤ, Bool, false, List, map, Some, All}
use Rattle.symtab.specs.declared.parts.TableParts.{TableParts}
use Rattle.trace_core.specs.declared.scan.Way.{Way}
use Rattle.trace_core.specs.declared.scan.Want.TheVariants.{Breakpoints}
use Rattle.trace_core.specs.declared.scan.Scanned.{Scanned}
use Rattle.world_core.specs.World.{World}
use Rattle.cond_lang.specs.TextShown.{text_expr}
use Rattle.machine_core.specs.declared.found.Found.{Found}
use Rattle.machine_core.specs.Positions.{position_count, cycle_at, slot_at}
use Rattle.machine_core.specs.Matching.{Watch, watches_alone, matches, watches_at}
use Rattle.machine_core.specs.Numbers.{AreRising}
use Rattle.machine_core.specs.Search.{searched_for, told_of, place_of}
use Rattle.site_core.specs.Traps.{traps_of, trap_place, IsTrapOf}
use Rattle.watch.specs.declared.watched.Watched.{Watched}
use Rattle.watch.specs.declared.watch_list.WatchList.{WatchList}

abbrev pub watch_of : Watched → Watch
watch_of a = record { number = a.number; slots = a.slots.items; instance = a.instance; expr = text_expr a.text }

-- the watches, in the order in which they were armed
abbrev pub watches : WatchList → List Watch
watches list = map watch_of list.watched.items

-- the number of the next one
abbrev pub next_watch : WatchList → ℕ
next_watch list = list.given + 1

abbrev pub is_number : ℕ → Watched → Bool
is_number wp a = a.number == wp

-- their numbers rise, from 1 on, and are below that of the next one
abbrev pub AreInOrder : WatchList → Type 0
AreInOrder list = AreRising 1 (map (λ (watch : Watch). watch.number) (watches list)) (next_watch list)

-- ---- of a table

pub record IsWatched (parts : TableParts) (a : Watched) : Type 0 where
  pub places : map trap_place a.traps.items ≡ traps_of parts (Some a.instance) a.slots.items
  pub each : All (IsTrapOf false parts (Some a.text)) a.traps.items

abbrev pub AreOf : TableParts → WatchList → Type 0
AreOf parts list = All (IsWatched parts) list.watched.items

-- ---- searches

-- a position matches one of these
abbrev pub changes_at : World → List Watch → ℕ → Bool
changes_at w watches p = matches w (watches_alone watches) Breakpoints p

-- from a place: 0 is the start, and p + 1 is position p
abbrev pub searched : World → List Watch → Way → ℕ → Found
searched w watches way place = searched_for (changes_at w watches) (position_count w) way place

-- from a position, where -1 is the start, as it is told
abbrev pub scanned : World → List Watch → Way → ℤ → Scanned
scanned w watches way at = told_of (searched w watches way (place_of at))

-- those that match at a position, in the order in which they were armed
abbrev pub matching_at : World → List Watch → ℕ → List Watch
matching_at w watches p = watches_at w (cycle_at w p) (slot_at w p) watches
