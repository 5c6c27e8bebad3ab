-- What a session and its listeners mean: the state of the machine.
use Rattle.std.specs.Prelude.{ℕ, List, Option}
use Rattle.listen.specs.Pairs.{Heard}
use Rattle.machine_core.specs.Machine.{Machine}
use Rattle.slot_sched.specs.Armed.{breakpoints, next_number}
use Rattle.watch.specs.Watching.{watches, next_watch}
use Rattle.dbg_core.specs.declared.session.Session.{Session}

-- the state of a session whose listeners mean this
abbrev pub machine_of : {T : Type 0} {g : _} → Session T g → List (Option Heard) → Machine
machine_of s heard = record {
  place = s.place;
  motion = s.motion;
  breakpoints = breakpoints s.schedule;
  next = next_number s.schedule;
  watches = watches s.watch;
  next_watch = next_watch s.watch;
  ordinal = s.ordinal;
  heard = heard;
}

-- the same, as its request of this ordinal is answered
abbrev pub counted_as : {T : Type 0} {g : _} → Session T g → ℕ → List (Option Heard) → Machine
counted_as s ordinal heard = record (machine_of s heard) { ordinal = ordinal }
