-- Laws of the stops of a batch.
use Rattle.std.specs.Prelude.{◌≡◌, ◌+◌, List, [], ◌∷◌, length, map}
use Rattle.std.specs.List.{flat_map}
use Rattle.listen.specs.declared.note.StopNote.{StopNote}
use Rattle.world_core.specs.World.{World}
use Rattle.machine_core.specs.declared.request.Asked.{Asked}
use Rattle.machine_core.specs.declared.turn.Notice.TheVariants as notice
use Rattle.machine_core.specs.declared.turn.Notice.{Notice}
use Rattle.machine_core.specs.Reading.{Reader}
use Rattle.machine_core.specs.Machine.{Machine}
use Rattle.machine_core.specs.Journal.{Line, Replied, Noticed, batch_from}
use Rattle.demo_run.specs.Stops.{Reached, batch_stops, forward_count, backward_count}

-- the stop that a line tells, if it tells one
abbrev pub stop_told : Notice → List StopNote
stop_told (notice.Stopped note gens paths watches) = note ∷ []
stop_told notice.Ended = []
stop_told notice.Start = []
stop_told (notice.Rows k rows) = []

abbrev pub line_stop : Line → List StopNote
line_stop (Replied reply) = []
line_stop (Noticed told) = stop_told told

abbrev pub note_of : Reached → StopNote
note_of stop = stop.1

-- the stops of a batch are those that its lines tell, in order
abbrev pub StopsAreTold : Type 0
StopsAreTold = (read : Reader) (w : World) (requests : List Asked) (m : Machine) → map note_of (batch_stops read w requests m) ≡ flat_map line_stop (batch_from read w requests m).lines

-- so there are as many of them as were reached either way
abbrev pub TwoWaysAreAll : Type 0
TwoWaysAreAll =
    (read : Reader) (w : World) (requests : List Asked) (m : Machine)
    → forward_count (batch_stops read w requests m) + backward_count (batch_stops read w requests m) ≡ length (flat_map line_stop (batch_from read w requests m).lines)
