-- What the answers to an idle machine's requests tell are the stops of the batch.
use Rattle.std.proofs.Common.{◌≡◌, ◌+◌, ℕ, Bool, true, false, List, [], ◌∷◌, ◌++◌, Option, Some, None, if◌then◌else◌, refl, sym, ap, ◌∙◌, append-nil, ◌≤◌, subst}
use Rattle.std.specs.List.{flat_map}
use Rattle.trace_core.specs.declared.scan.Way.{Way}
use Rattle.trace_core.specs.declared.scan.Want.{Want}
use Rattle.world_core.specs.World.{World}
use Rattle.machine_core.specs.declared.request.Asked.{Asked}
use Rattle.machine_core.specs.declared.reply.Body.{Body}
use Rattle.machine_core.specs.declared.reply.Reply.{Reply}
use Rattle.machine_core.specs.declared.turn.Motion.{Motion}
use Rattle.machine_core.specs.declared.turn.Motion.TheVariants.{Idle, Running}
use Rattle.machine_core.specs.declared.turn.Notice.{Notice}
use Rattle.machine_core.specs.Positions.{position_count, end_place}
use Rattle.machine_core.specs.Reading.{Reader}
use Rattle.machine_core.specs.Machine.{Machine, Answer, answer_of}
use Rattle.machine_core.specs.Journal.{Line, Replied, Ran, behind, turns_from, until_idle, is_bye, batch_from, told_lines, answered_lines}
use Rattle.machine_core.proofs.Ends.{batches_end}
use Rattle.machine_core.proofs.Keeps.{moves_by_turns_alone}
use Rattle.demo_run.specs.Stops.{Reached, turn_stops, batch_stops}
use Rattle.demo_run.specs.Laws.{stop_told, line_stop}
use Rattle.demo_run.specs.Answers.{granted_way, reached_by, told_notes, answered_stops}
use Rattle.demo_run.proofs.Ways.{way_is_granted}
use Rattle.demo_run.proofs.Turns.{idle_lines, idle_stops, running_told}

-- ---- one request

reached_none : (way : Option Way) → reached_by way [] ≡ []
reached_none None = refl
reached_none (Some way) = refl

told_told : (notice : Option Notice) → told_notes notice ≡ flat_map line_stop (told_lines notice)
told_told None = refl
told_told (Some notice) = sym (append-nil (stop_told notice))

same_reply : (r q : Reply) (xs ys : List Line) → Replied r ∷ xs ≡ Replied q ∷ ys → r ≡ q
same_reply r q xs ys e = cc

same_rest : (r q : Reply) (xs ys : List Line) → Replied r ∷ xs ≡ Replied q ∷ ys → xs ≡ ys
same_rest r q xs ys e = cc

-- the turns behind an answer reach what they tell, with the way that the answer grants
by_motion : (w : World) (n : ℕ) (a : Machine) (granted : Body) (motion : Motion) → a.motion ≡ motion → ((way : Way) (want : Want) → a.motion ≡ Running way want → granted_way granted ≡ Some way)
    → turn_stops w n a ≡ reached_by (granted_way granted) (flat_map line_stop (turns_from w n a).lines)
by_motion w n a granted Idle e h =
    idle_stops w n a e ∙ sym (reached_none (granted_way granted)) ∙ ap (λ (l : List Line). reached_by (granted_way granted) (flat_map line_stop l)) (sym (idle_lines w n a e))
by_motion w n a granted (Running way want) e h =
    running_told w n a way want e ∙ ap (λ (o : Option Way). reached_by o (flat_map line_stop (turns_from w n a).lines)) (sym (h way want e))

-- what a batch of one request tells, by whether it is the last
abbrev told_by : Bool → List Line → List Line
told_by b lines = if b then [] else lines ++ []

abbrev stops_by : Bool → List Reached → List Reached
stops_by b stops = if b then [] else stops ++ []

ran_told : (a : Answer) (u : Ran) (b : Bool) → (if b then (let ran : Ran = record { after = a.after; lines = [] } in ran) else behind u.lines (record { after = u.after; lines = [] })).lines ≡ told_by b u.lines
ran_told a u true = refl
ran_told a u false = refl

by_bye : (b : Bool) (way : Option Way) (lines : List Line) (stops : List Reached) → stops ≡ reached_by way (flat_map line_stop lines) → reached_by way (flat_map line_stop (told_by b lines)) ≡ stops_by b stops
by_bye true way lines stops h = reached_none way
by_bye false way lines stops h = ap (λ (l : List Line). reached_by way (flat_map line_stop l)) (append-nil lines) ∙ sym h ∙ sym (append-nil stops)

stops_are : (b : Bool) (stops : List Reached) → (if b then [] else stops ++ []) ≡ stops_by b stops
stops_are b stops = refl

module _ (read : Reader) (w : World) (m : Machine) (asked : Asked) (idle : m.motion ≡ Idle) where
  turns_told : turn_stops w (position_count w + 1) (answer_of read w m asked).after
      ≡ reached_by (granted_way (answer_of read w m asked).reply.body) (flat_map line_stop (until_idle w (answer_of read w m asked).after).lines)
  turns_told =
      by_motion w (position_count w + 1) (answer_of read w m asked).after (answer_of read w m asked).reply.body (answer_of read w m asked).after.motion refl
      (λ way want e. (way_is_granted read w m asked way want idle e).0)

  -- what was answered tells the stops of the batch of this one request
  pub answered_is : (after : Machine) (reply : Reply) (notice : Option Notice)
      → (let ran : Ran = record { after = after; lines = answered_lines reply notice } in ran) ≡ batch_from read w (asked ∷ []) m → answered_stops reply.body notice ≡ batch_stops read w (asked ∷ []) m
  answered_is after reply notice e =
      let a = answer_of read w m asked in
      let lines : answered_lines reply notice ≡ (batch_from read w (asked ∷ []) m).lines = ap (λ (r : Ran). r.lines) e in
      let same : reply ≡ a.reply = same_reply _ _ _ _ lines in
      let told : told_lines notice ≡ told_by (is_bye a.reply.body) (until_idle w a.after).lines = same_rest _ _ _ _ lines ∙ ran_told a (until_idle w a.after) (is_bye a.reply.body) in
      (λ i. reached_by (granted_way (same i).body) (told_notes notice))
      ∙ ap (λ l. reached_by (granted_way a.reply.body) l) (told_told notice)
      ∙ ap (λ (l : List Line). reached_by (granted_way a.reply.body) (flat_map line_stop l)) told
      ∙ by_bye (is_bye a.reply.body) (granted_way a.reply.body) (until_idle w a.after).lines _ turns_told

-- ---- and then the others

split_by : (b : Bool) (a : Answer) (u : Ran) (stops : List Reached) (others : Machine → List Reached)
    → (if b then [] else stops ++ others u.after)
    ≡ (if b then [] else stops ++ []) ++ (if b then [] else others (if b then (let ran : Ran = record { after = a.after; lines = [] } in ran) else behind u.lines (record { after = u.after; lines = [] })).after)
split_by true a u stops others = refl
split_by false a u stops others = ap (λ l. l ++ others u.after) (sym (append-nil stops))

pub stops_split : (read : Reader) (w : World) (asked : Asked) (others : List Asked) (m : Machine)
    → batch_stops read w (asked ∷ others) m
    ≡ batch_stops read w (asked ∷ []) m ++ (if is_bye (answer_of read w m asked).reply.body then [] else batch_stops read w others (batch_from read w (asked ∷ []) m).after)
stops_split read w asked others m =
    let a = answer_of read w m asked in
    split_by (is_bye a.reply.body) a (until_idle w a.after) (turn_stops w (position_count w + 1) a.after) (batch_stops read w others)

-- ---- it is idle again

idle_by : (w : World) (a : Answer) (b : Bool) → is_bye a.reply.body ≡ b → a.after.place ≤ end_place w → ((way : Way) (want : Want) → a.after.motion ≡ Running way want → is_bye a.reply.body ≡ false)
    → (if b then (let ran : Ran = record { after = a.after; lines = [] } in ran) else behind (until_idle w a.after).lines (record { after = (until_idle w a.after).after; lines = [] })).after.motion ≡ Idle
idle_by w a false e within h = batches_end w a.after within
idle_by w a true e within h = rests a.after.motion refl
  where
    rests : (motion : Motion) → a.after.motion ≡ motion → a.after.motion ≡ Idle
    rests Idle is = is
    rests (Running way want) is = let not : is_bye a.reply.body ≡ false = h way want is in absurd cc

pub idle_again : (read : Reader) (w : World) (m : Machine) (asked : Asked) → m.motion ≡ Idle → m.place ≤ end_place w → (batch_from read w (asked ∷ []) m).after.motion ≡ Idle
idle_again read w m asked idle within =
    let a = answer_of read w m asked in
    idle_by w a (is_bye a.reply.body) refl (subst (λ p. p ≤ end_place w) (sym (moves_by_turns_alone read w m asked)) within) (λ way want e. (way_is_granted read w m asked way want idle e).1)
