-- The stops of a batch are those that its lines tell.
use Rattle.std.proofs.Common.{◌≡◌, ◌+◌, ℕ, Bool, true, false, List, [], ◌∷◌, ◌++◌, length, map, Some, if◌then◌else◌, refl, sym, ap, ap₂, ◌∙◌, arith}
use Rattle.std.specs.List.{flat_map}
use Rattle.std.proofs.lemmas.List.{length-map, map-append}
use Rattle.std.proofs.lemmas.List.Concat.{flat_map-append}
use Rattle.listen.specs.declared.note.StopNote.{StopNote}
use Rattle.trace_core.specs.declared.scan.Way.{Way}
use Rattle.trace_core.specs.declared.scan.Way.TheVariants.{Forward, Backward}
use Rattle.world_core.specs.World.{World}
use Rattle.machine_core.specs.declared.turn.Motion.{Motion}
use Rattle.machine_core.specs.declared.turn.Motion.TheVariants.{Idle, Running}
use Rattle.machine_core.specs.Positions.{position_count}
use Rattle.machine_core.specs.Machine.{Machine, Answer, answer_of}
use Rattle.machine_core.specs.Journal.{Ran, behind, turns_from, until_idle, is_bye, batch_from}
use Rattle.demo_run.specs.Stops.{Reached, turn_stops, batch_stops, forward_count, backward_count}
use Rattle.demo_run.specs.Laws.{line_stop, note_of, StopsAreTold, TwoWaysAreAll}
use Rattle.demo_run.specs.Answers.{reached_by}
use Rattle.demo_run.proofs.Turns.{idle_lines, idle_stops, running_told}

notes_of : (way : Way) (notes : List StopNote) → map note_of (reached_by (Some way) notes) ≡ notes
notes_of way [] = refl
notes_of way (note ∷ notes) = ap (λ l. note ∷ l) (notes_of way notes)

turns_tell : (w : World) (n : ℕ) (m : Machine) → map note_of (turn_stops w n m) ≡ flat_map line_stop (turns_from w n m).lines
turns_tell w n m = by_motion m.motion refl
  where
    by_motion : (motion : Motion) → m.motion ≡ motion → map note_of (turn_stops w n m) ≡ flat_map line_stop (turns_from w n m).lines
    by_motion Idle e = ap (map note_of) (idle_stops w n m e) ∙ ap (flat_map line_stop) (sym (idle_lines w n m e))
    by_motion (Running way want) e = ap (map note_of) (running_told w n m way want e) ∙ notes_of way (flat_map line_stop (turns_from w n m).lines)

by_bye : (b : Bool) (a : Answer) (u : Ran) (stops more : List Reached) (rest : Ran) → map note_of stops ≡ flat_map line_stop u.lines → map note_of more ≡ flat_map line_stop rest.lines
    → map note_of (if b then [] else stops ++ more) ≡ flat_map line_stop (if b then (let ran : Ran = record { after = a.after; lines = [] } in ran) else behind u.lines rest).lines
by_bye true a u stops more rest h g = refl
by_bye false a u stops more rest h g = map-append note_of stops more ∙ ap₂ (λ x y. x ++ y) h g ∙ sym (flat_map-append line_stop u.lines rest.lines)

pub stops_are_told : StopsAreTold
stops_are_told read w [] m = refl
stops_are_told read w (asked ∷ rest) m =
    let a = answer_of read w m asked in
    by_bye (is_bye a.reply.body) a (until_idle w a.after) (turn_stops w (position_count w + 1) a.after) (batch_stops read w rest (until_idle w a.after).after) (batch_from read w rest (until_idle w a.after).after)
    (turns_tell w (position_count w + 1) a.after) (stops_are_told read w rest (until_idle w a.after).after)

-- each was reached one way or the other
two_ways : (stops : List Reached) → forward_count stops + backward_count stops ≡ length stops
two_ways [] = refl
two_ways ((Forward, note) ∷ stops) = let h = two_ways stops in omega (arith, h)
two_ways ((Backward, note) ∷ stops) = let h = two_ways stops in omega (arith, h)

pub two_ways_are_all : TwoWaysAreAll
two_ways_are_all read w requests m =
    two_ways (batch_stops read w requests m) ∙ sym (length-map (batch_stops read w requests m) note_of) ∙ ap (λ (l : List StopNote). length l) (stops_are_told read w requests m)
