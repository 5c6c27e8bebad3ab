-- Turns until a session is idle: all but the last only move, and tell nothing.
use Rattle.std.proofs.Common.{◌≡◌, ℕ, ◌<◌, ◌≤◌, Bool, true, false, List, length, Option, Some, None, refl, ap, ◌∙◌, sym, subst, arith, inl, inr, append-nil}
use Rattle.trace_core.specs.declared.scan.Way.{Way}
use Rattle.trace_core.specs.declared.scan.Way.TheVariants.{Forward, Backward}
use Rattle.trace_core.specs.declared.scan.Want.{Want}
use Rattle.world_core.specs.World.{World}
use Rattle.machine_core.specs.declared.turn.Motion.{Motion}
use Rattle.machine_core.specs.declared.turn.Motion.TheVariants.{Idle, Running}
use Rattle.machine_core.specs.declared.turn.Turned.{Turned}
use Rattle.machine_core.specs.declared.turn.Turned.TheVariants as turned
use Rattle.machine_core.specs.Positions.{position_count, end_place, ahead}
use Rattle.machine_core.specs.Matching.{matches}
use Rattle.machine_core.specs.Search.{nearest_that}
use Rattle.machine_core.specs.Machine.{Machine, awaited_by, Turn, edge_turn, moved_turn, turn_to, turn_by, turn_of}
use Rattle.machine_core.specs.Journal.{Line, Ran, notices_of, behind, until_idle}
use Rattle.machine_core.proofs.Ends.{length_ahead, ahead_length, running_turns, far_or_near, edge_is_idle}
use Rattle.dbg_core.proofs.Runs.{idle_ran, one_turn}

-- ---- a turn that only moves

abbrev pub is_moved : Turned → Bool
is_moved turned.Moved = true
is_moved other = false

-- how many positions lie ahead of a machine that runs
abbrev pub left_of : World → Motion → ℕ → ℕ
left_of w Idle place = 0
left_of w (Running way want) place = length_ahead (position_count w) way place

-- the two kinds of turns: one that only moves, and leaves a machine that runs on, within the run, with fewer positions ahead; and one that leaves
-- an idle machine
pub data TurnKind (w : World) (m : Machine) (t : Turn) : Type 0 where
  moves : t.turned ≡ turned.Moved → (way : Way) → (want : Want) → m.motion ≡ Running way want → t.after.motion ≡ Running way want → t.after.place ≤ end_place w
      → length_ahead (position_count w) way t.after.place < length_ahead (position_count w) way m.place → TurnKind w m t
  rests : is_moved t.turned ≡ false → t.after.motion ≡ Idle → TurnKind w m t

moved_motion : (way : Way) (m : Machine) → (moved_turn way m).after.motion ≡ m.motion
moved_motion Forward m = refl
moved_motion Backward m = refl

moved_told : (way : Way) (m : Machine) → (moved_turn way m).turned ≡ turned.Moved
moved_told Forward m = refl
moved_told Backward m = refl

moved_inside : (w : World) (way : Way) (m : Machine) → m.place ≤ end_place w → 64 ≤ length_ahead (position_count w) way m.place → (moved_turn way m).after.place ≤ end_place w
moved_inside w Forward m within far = omega (arith, within, far)
moved_inside w Backward m within far = omega (arith, within, far)

moved_less : (w : World) (way : Way) (m : Machine) → m.place ≤ end_place w → 64 ≤ length_ahead (position_count w) way m.place
    → length_ahead (position_count w) way (moved_turn way m).after.place < length_ahead (position_count w) way m.place
moved_less w Forward m within far = omega (arith, within, far)
moved_less w Backward m within far = omega (arith, within, far)

edge_told : (w : World) (way : Way) (m : Machine) → is_moved (edge_turn w way m).turned ≡ false
edge_told w Forward m = refl
edge_told w Backward m = refl

turn_to_kind : (w : World) (way : Way) (want : Want) (m : Machine) (found : Option ℕ) (positions : List ℕ) → m.motion ≡ Running way want → m.place ≤ end_place w
    → length positions ≡ length_ahead (position_count w) way m.place → TurnKind w m (turn_to w way m positions found)
turn_to_kind w way want m (Some p) positions e within n = rests refl refl
turn_to_kind w way want m None positions e within n = elim (far_or_near (length positions)) [
  | inl near ↦ rw near (rests (edge_told w way m) (edge_is_idle w way m))
  | inr far ↦ rw far.0 (moves (moved_told way m) way want e (moved_motion way m ∙ e) (moved_inside w way m within (rw n at far.1)) (moved_less w way m within (rw n at far.1)))
]

idle_turn : (w : World) (m : Machine) → m.motion ≡ Idle → turn_of w m ≡ record { after = m; turned = turned.Idle }
unfolding turn_of
idle_turn w m e = ap (turn_by w m) e

-- each turn is of one of them
pub turn_kind : (w : World) (m : Machine) → m.place ≤ end_place w → TurnKind w m (turn_of w m)
turn_kind w m within = by_motion m.motion refl
  where
    by_motion : (motion : Motion) → m.motion ≡ motion → TurnKind w m (turn_of w m)
    by_motion Idle e = subst (TurnKind w m) (sym (idle_turn w m e)) (rests refl e)
    by_motion (Running way want) e =
        subst (TurnKind w m) (sym (running_turns w m way want e))
        (turn_to_kind w way want m (nearest_that (matches w (awaited_by m) want) (position_count w) way m.place) (ahead (position_count w) way m.place) e within (ahead_length (position_count w) way m.place))

-- ---- turns until it is idle

module _ (w : World) (m : Machine) (t : Turn) (is : t ≡ turn_of w m) (within : m.place ≤ end_place w) where
  kind : TurnKind w m t
  kind = subst (TurnKind w m) (sym is) (turn_kind w m within)

  -- those behind a turn that only moves tell what is left to tell
  pub after_move : t.turned ≡ turned.Moved → until_idle w m ≡ until_idle w t.after
  after_move told =
      one_turn w m within ∙ ap (λ (x : Turn). behind (notices_of w x.after x.turned) (until_idle w x.after)) (sym is) ∙ ap (λ x. behind (notices_of w t.after x) (until_idle w t.after)) told

  -- any other turn is the last that tells something
  pub last_turn : is_moved t.turned ≡ false → (let ran : Ran = record { after = t.after; lines = notices_of w t.after t.turned } in ran) ≡ until_idle w m
  last_turn told = by_kind kind
    where
      by_kind : TurnKind w m t → (let ran : Ran = record { after = t.after; lines = notices_of w t.after t.turned } in ran) ≡ until_idle w m
      by_kind (moves x way want was on inside less) = let both : true ≡ false = sym (ap is_moved x) ∙ told in cc
      by_kind (rests x idle) =
          sym (one_turn w m within ∙ ap (λ (x : Turn). behind (notices_of w x.after x.turned) (until_idle w x.after)) (sym is)
          ∙ ap (behind (notices_of w t.after t.turned)) (idle_ran w t.after idle)
          ∙ ap (λ (lines : List Line). record { after = t.after; lines = lines }) (append-nil (notices_of w t.after t.turned)))

  -- a move leaves fewer positions ahead
  pub less_left : t.turned ≡ turned.Moved → left_of w t.after.motion t.after.place < left_of w m.motion m.place
  less_left told = by_kind kind
    where
      by_kind : TurnKind w m t → left_of w t.after.motion t.after.place < left_of w m.motion m.place
      by_kind (rests x idle) = let both : true ≡ false = sym (ap is_moved told) ∙ x in cc
      by_kind (moves x way want was on inside less) =
          subst (λ (motion : Motion). left_of w motion t.after.place < left_of w m.motion m.place) (sym on)
          (subst (λ (motion : Motion). length_ahead (position_count w) way t.after.place < left_of w motion m.place) (sym was) less)

pub not_moved : (t : Turned) → (t ≡ turned.Moved → ⊥) → is_moved t ≡ false
not_moved turned.Idle h = refl
not_moved turned.Moved h = absurd (h refl)
not_moved (turned.Stopped note) h = refl
not_moved turned.AtEnd h = refl
not_moved turned.AtStart h = refl
