-- The stops that turns reach are those that they tell, with the way in which the machine runs.
use Rattle.std.proofs.Common.{◌≡◌, ℕ, zero, suc, Bool, true, false, List, [], ◌++◌, length, Option, Some, None, refl, sym, ap, ◌∙◌, nat_lt, if◌then◌else◌}
use Rattle.std.specs.List.{flat_map}
use Rattle.trace_core.specs.declared.scan.Way.{Way}
use Rattle.trace_core.specs.declared.scan.Way.TheVariants.{Forward, Backward}
use Rattle.trace_core.specs.declared.scan.Want.{Want}
use Rattle.world_core.specs.World.{World}
use Rattle.machine_core.specs.declared.turn.Motion.TheVariants.{Idle, Running}
use Rattle.machine_core.specs.declared.turn.Turned.TheVariants as turned
use Rattle.machine_core.specs.Positions.{position_count, ahead, reach}
use Rattle.machine_core.specs.Matching.{matches}
use Rattle.machine_core.specs.Search.{nearest_that}
use Rattle.machine_core.specs.Machine.{Machine, awaited_by, Turn, stopped_at, edge_turn, moved_turn, turn_to, turn_by, turn_of}
use Rattle.machine_core.specs.Journal.{Line, notices_of, turns_from}
use Rattle.machine_core.proofs.Ends.{running_turns}
use Rattle.demo_run.specs.Stops.{Reached, stop_in, turn_stops}
use Rattle.demo_run.specs.Laws.{line_stop}
use Rattle.demo_run.specs.Answers.{reached_by}

-- ---- an idle machine

idle_turn : (w : World) (m : Machine) → m.motion ≡ Idle → turn_of w m ≡ record { after = m; turned = turned.Idle }
unfolding turn_of
idle_turn w m e = ap (turn_by w m) e

pub idle_lines : (w : World) (n : ℕ) (m : Machine) → m.motion ≡ Idle → (turns_from w n m).lines ≡ []
idle_lines w zero m e = refl
idle_lines w (suc n) m e = ap (λ (t : Turn). notices_of w t.after t.turned ++ (turns_from w n t.after).lines) (idle_turn w m e) ∙ idle_lines w n m e

pub idle_stops : (w : World) (n : ℕ) (m : Machine) → m.motion ≡ Idle → turn_stops w n m ≡ []
idle_stops w zero m e = refl
idle_stops w (suc n) m e =
    ap (λ (t : Turn). stop_in m.motion t.turned ++ turn_stops w n t.after) (idle_turn w m e)
    ∙ ap (λ motion. stop_in motion turned.Idle ++ turn_stops w n m) e
    ∙ idle_stops w n m e

-- ---- a machine that runs

abbrev Told : World → ℕ → Way → Machine → Type 0
Told w n way m = turn_stops w n m ≡ reached_by (Some way) (flat_map line_stop (turns_from w n m).lines)

-- the same behind a first turn
abbrev ToldBehind : World → ℕ → Way → Want → Turn → Type 0
ToldBehind w n way want t =
    stop_in (Running way want) t.turned ++ turn_stops w n t.after ≡ reached_by (Some way) (flat_map line_stop (notices_of w t.after t.turned ++ (turns_from w n t.after).lines))

stopped_told : (w : World) (n : ℕ) (way : Way) (want : Want) (m : Machine) (p : ℕ) → ToldBehind w n way want (stopped_at w m p)
stopped_told w n way want m p =
    let none : turn_stops w n (stopped_at w m p).after ≡ [] = idle_stops w n (stopped_at w m p).after refl in
    let silent : (turns_from w n (stopped_at w m p).after).lines ≡ [] = idle_lines w n (stopped_at w m p).after refl in
    ap (λ (l : List Reached). stop_in (Running way want) (stopped_at w m p).turned ++ l) none
    ∙ ap (λ (l : List Line). reached_by (Some way) (flat_map line_stop (notices_of w (stopped_at w m p).after (stopped_at w m p).turned ++ l))) (sym silent)

edge_told : (w : World) (n : ℕ) (way : Way) (want : Want) (m : Machine) → ToldBehind w n way want (edge_turn w way m)
edge_told w n Forward want m =
    idle_stops w n (edge_turn w Forward m).after refl ∙ ap (λ (l : List Line). reached_by (Some Forward) (flat_map line_stop l)) (sym (idle_lines w n (edge_turn w Forward m).after refl))
edge_told w n Backward want m =
    idle_stops w n (edge_turn w Backward m).after refl ∙ ap (λ (l : List Line). reached_by (Some Backward) (flat_map line_stop l)) (sym (idle_lines w n (edge_turn w Backward m).after refl))

moved_told : (w : World) (n : ℕ) (way : Way) (want : Want) (m : Machine) → m.motion ≡ Running way want → ((a : Machine) → a.motion ≡ Running way want → Told w n way a) → ToldBehind w n way want (moved_turn way m)
moved_told w n Forward want m e more = more (moved_turn Forward m).after e
moved_told w n Backward want m e more = more (moved_turn Backward m).after e

by_near : (w : World) (n : ℕ) (way : Way) (want : Want) (b : Bool) (t u : Turn) → ToldBehind w n way want t → ToldBehind w n way want u → ToldBehind w n way want (if b then t else u)
by_near w n way want true t u h g = h
by_near w n way want false t u h g = g

by_found : (w : World) (n : ℕ) (way : Way) (want : Want) (m : Machine) (positions : List ℕ) (found : Option ℕ) → m.motion ≡ Running way want
    → ((a : Machine) → a.motion ≡ Running way want → Told w n way a) → ToldBehind w n way want (turn_to w way m positions found)
by_found w n way want m positions (Some p) e more = stopped_told w n way want m p
by_found w n way want m positions None e more =
    by_near w n way want (nat_lt (length positions) reach) (edge_turn w way m) (moved_turn way m) (edge_told w n way want m) (moved_told w n way want m e more)

pub running_told : (w : World) (n : ℕ) (m : Machine) (way : Way) (want : Want) → m.motion ≡ Running way want → turn_stops w n m ≡ reached_by (Some way) (flat_map line_stop (turns_from w n m).lines)
running_told w zero m way want e = refl
running_told w (suc n) m way want e =
    let t = running_turns w m way want e in
    (λ i. stop_in (e i) (t i).turned ++ turn_stops w n (t i).after)
    ∙ by_found w n way want m (ahead (position_count w) way m.place) (nearest_that (matches w (awaited_by m) want) (position_count w) way m.place) e (λ a h. running_told w n a way want h)
    ∙ (λ i. reached_by (Some way) (flat_map line_stop (notices_of w (sym t i).after (sym t i).turned ++ (turns_from w n (sym t i).after).lines)))
