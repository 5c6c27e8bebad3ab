-- The positions of a run, in order: cycle after cycle, and in each cycle slot after slot. A session stands at one of them, or at the
-- start before all of them, or at the end behind them.
use Rattle.std.specs.Prelude.{ℕ, zero, suc, ◌+◌, ◌-◌, ◌*◌, ◌/◌, ◌%◌, List, length, take, drop, reverse, nat_eq, if◌then◌else◌}
use Rattle.list_core.specs.Lists.{from}
use Rattle.trace_core.specs.declared.scan.Way.{Way}
use Rattle.trace_core.specs.declared.scan.Way.TheVariants.{Forward, Backward}
use Rattle.world_core.specs.World.{World}
use Rattle.machine_core.specs.declared.reply.At.{At}
use Rattle.machine_core.specs.declared.reply.At.TheVariants.{Start, End, Position}

-- how many there are, and the cycle and the slot of each
abbrev pub position_count : World → ℕ
position_count w = w.cycles * length w.slots

abbrev pub cycle_at : World → ℕ → ℕ
cycle_at w p = p / length w.slots

abbrev pub slot_at : World → ℕ → ℕ
slot_at w p = p % length w.slots

-- a place: 0 is the start, p + 1 is position p, and one more than all positions is the end
abbrev pub end_place : World → ℕ
end_place w = position_count w + 1

-- a place, as it is told
abbrev pub at_place : World → ℕ → At
at_place w zero = Start
at_place w (suc p) = if nat_eq p (position_count w) then End else Position (cycle_at w p) (slot_at w p)

-- of so many positions those that lie ahead of a place, the nearest first
abbrev pub ahead : ℕ → Way → ℕ → List ℕ
ahead count Forward place = drop place (from 0 count)
ahead count Backward place = reverse (take (place - 1) (from 0 count))

-- a turn looks at so many of them
abbrev pub reach : ℕ
reach = 64
