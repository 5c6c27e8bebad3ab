-- The stops that a session reaches while it answers a batch of requests, each with the way in which it ran, and how many there are.
use Rattle.std.specs.Prelude.{ℕ, zero, suc, ◌+◌, Bool, true, false, List, [], ◌∷◌, ◌++◌, length, filter, sum_by, if◌then◌else◌}
use Rattle.listen.specs.declared.note.StopNote.{StopNote}
use Rattle.trace_core.specs.declared.scan.Way.{Way}
use Rattle.trace_core.specs.declared.scan.Way.TheVariants.{Forward, Backward}
use Rattle.world_core.specs.World.{World}
use Rattle.machine_core.specs.declared.request.Asked.{Asked}
use Rattle.machine_core.specs.declared.turn.Motion.{Motion}
use Rattle.machine_core.specs.declared.turn.Motion.TheVariants.{Idle, Running}
use Rattle.machine_core.specs.declared.turn.Turned.{Turned}
use Rattle.machine_core.specs.declared.turn.Turned.TheVariants as turned
use Rattle.machine_core.specs.Positions.{position_count}
use Rattle.machine_core.specs.Reading.{Reader}
use Rattle.machine_core.specs.Machine.{Machine, turn_of, answer_of}
use Rattle.machine_core.specs.Journal.{until_idle, is_bye}

-- the way in which a session ran, and what is told of the stop
abbrev pub Reached : Type 0
Reached = Way × StopNote

-- ---- the stops of turns

-- the stop that a turn of a machine that runs this way reaches, if it does
abbrev pub stop_by : Way → Turned → List Reached
stop_by way (turned.Stopped note) = (way, note) ∷ []
stop_by way turned.Idle = []
stop_by way turned.Moved = []
stop_by way turned.AtEnd = []
stop_by way turned.AtStart = []

-- an idle machine reaches none
abbrev pub stop_in : Motion → Turned → List Reached
stop_in Idle turned = []
stop_in (Running way want) turned = stop_by way turned

-- those of so many turns
abbrev pub turn_stops : World → ℕ → Machine → List Reached
turn_stops w zero m = []
turn_stops w (suc n) m = stop_in m.motion (turn_of w m).turned ++ turn_stops w n (turn_of w m).after

-- ---- the stops of a batch

-- those of the turns behind each request, until the machine is idle; up to the first `bye` that is accepted
abbrev pub batch_stops : Reader → World → List Asked → Machine → List Reached
batch_stops read w [] m = []
batch_stops read w (asked ∷ rest) m =
    if is_bye (answer_of read w m asked).reply.body then []
    else turn_stops w (position_count w + 1) (answer_of read w m asked).after ++ batch_stops read w rest (until_idle w (answer_of read w m asked).after).after

-- ---- how many there are

abbrev pub is_forward : Reached → Bool
is_forward (Forward, note) = true
is_forward (Backward, note) = false

abbrev pub is_backward : Reached → Bool
is_backward (Forward, note) = false
is_backward (Backward, note) = true

-- how many were reached while running forwards, and while running backwards
abbrev pub forward_count : List Reached → ℕ
forward_count stops = length (filter is_forward stops)

abbrev pub backward_count : List Reached → ℕ
backward_count stops = length (filter is_backward stops)

-- the sum of the numbers of threads of those that were reached while running forwards
abbrev pub thread_count : Reached → ℕ
thread_count stop = stop.1.threads

abbrev pub thread_sum : List Reached → ℕ
thread_sum stops = sum_by thread_count (filter is_forward stops)
