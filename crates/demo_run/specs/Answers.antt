-- The stops that the answers to an idle session's requests tell, and their counts as the code adds them up.
use Rattle.std.specs.Prelude.{◌≡◌, ◌+◌, List, [], map, Option, Some, None}
use Rattle.listen.specs.declared.note.StopNote.{StopNote}
use Rattle.trace_core.specs.declared.scan.Way.{Way}
use Rattle.trace_core.specs.declared.scan.Way.TheVariants.{Forward, Backward}
use Rattle.machine_core.specs.declared.reply.Body.{Body}
use Rattle.machine_core.specs.declared.reply.Body.TheVariants as body
use Rattle.machine_core.specs.declared.turn.Notice.{Notice}
use Rattle.demo_run.specs.Stops.{Reached, forward_count, backward_count, thread_sum}
use Rattle.demo_run.specs.Laws.{stop_told}
use Rattle.demo_run.specs.declared.tally.Counts.{Counts}

-- the way in which an idle session runs where it is granted this, if it runs
abbrev pub granted_way : Body → Option Way
granted_way body.Continue = Some Forward
granted_way body.Step = Some Forward
granted_way body.Reverse = Some Backward
granted_way body.Back = Some Backward
granted_way other = None

-- the stops that are told of one that ran this way; of one that did not run there are none
abbrev pub reached_by : Option Way → List StopNote → List Reached
reached_by None notes = []
reached_by (Some way) notes = map (λ note. (way, note)) notes

abbrev pub told_notes : Option Notice → List StopNote
told_notes None = []
told_notes (Some notice) = stop_told notice

-- the stop that an answer tells, if it tells one
abbrev pub answered_stops : Body → Option Notice → List Reached
answered_stops granted notice = reached_by (granted_way granted) (told_notes notice)

-- these counts are those of these stops
pub record Counted (stops : List Reached) (counts : Counts) : Type 0 where
  pub forward : counts.forward ≡ forward_count stops
  pub backward : counts.backward ≡ backward_count stops
  pub threads : counts.threads ≡ thread_sum stops

-- and these the same with these stops added
pub record Adds (counts : Counts) (stops : List Reached) (more : Counts) : Type 0 where
  pub forward : more.forward ≡ counts.forward + forward_count stops
  pub backward : more.backward ≡ counts.backward + backward_count stops
  pub threads : more.threads ≡ counts.threads + thread_sum stops
