-- A session that runs comes to a stop, the end or the start: each turn that only moves leaves 64 positions less ahead.
use Rattle.std.proofs.Common.{◌≡◌, ℕ, zero, suc, ◌+◌, ◌-◌, ◌<◌, ◌≤◌, min, Bool, true, false, List, length, take, Option, Some, None, refl, ap, ◌∙◌, arith, nat_lt, ◌⊎◌, inl, inr}
use Rattle.std.proofs.lemmas.List.{length-drop, length-take, length-reverse}
use Rattle.std.proofs.lemmas.Bool.Decides.{nat_tests}
use Rattle.list_core.specs.Lists.{from}
use Rattle.list_core.proofs.Listing.{from_length}
use Rattle.trace_core.specs.declared.scan.Way.{Way}
use Rattle.trace_core.specs.declared.scan.Way.TheVariants.{Forward, Backward}
use Rattle.trace_core.specs.declared.scan.Want.{Want}
use Rattle.world_core.specs.World.{World}
use Rattle.machine_core.specs.declared.turn.Motion.{Motion}
use Rattle.machine_core.specs.declared.turn.Motion.TheVariants.{Idle, Running}
use Rattle.machine_core.specs.Positions.{position_count, end_place, ahead}
use Rattle.machine_core.specs.Machine.{Machine, edge_turn, moved_turn, turn_to, running_turn, turn_by, turn_of}
use Rattle.machine_core.specs.Journal.{turns_from, until_idle}
use Rattle.machine_core.specs.Laws.{BatchesEnd}

-- ---- how many positions lie ahead

abbrev pub length_ahead : (count : ℕ) (way : Way) (place : ℕ) → ℕ
length_ahead count Forward place = count - place
length_ahead count Backward place = min (place - 1) count

pub ahead_length : (count : ℕ) (way : Way) (place : ℕ) → length (ahead count way place) ≡ length_ahead count way place
ahead_length count Forward place = length-drop place (from 0 count) ∙ ap (λ n. n - place) (from_length 0 count)
ahead_length count Backward place =
    length-reverse (take (place - 1) (from 0 count)) ∙ length-take (place - 1) (from 0 count) ∙ ap (λ n. min (place - 1) n) (from_length 0 count)

-- ---- turns

idle_stays : (w : World) (m : Machine) → m.motion ≡ Idle → (turn_of w m).after ≡ m
unfolding turn_of
idle_stays w m e = ap (λ motion. (turn_by w m motion).after) e

idle_for_good : (w : World) (n : ℕ) (m : Machine) → m.motion ≡ Idle → (turns_from w n m).after.motion ≡ Idle
idle_for_good w zero m e = e
idle_for_good w (suc n) m e = ap (λ (a : Machine). (turns_from w n a).after.motion) (idle_stays w m e) ∙ idle_for_good w n m e

pub edge_is_idle : (w : World) (way : Way) (m : Machine) → (edge_turn w way m).after.motion ≡ Idle
edge_is_idle w Forward m = refl
edge_is_idle w Backward m = refl

-- a turn leaves an idle machine, or one that runs on with so many positions less ahead
pub data Leaves (w : World) (way : Way) (want : Want) (left : ℕ) (m : Machine) : Type 0 where
  rests : m.motion ≡ Idle → Leaves w way want left m
  goes : m.motion ≡ Running way want → m.place ≤ end_place w → length_ahead (position_count w) way m.place + 64 ≤ left → Leaves w way want left m

pub moved_leaves : (w : World) (way : Way) (want : Want) (m : Machine) → m.motion ≡ Running way want → m.place ≤ end_place w
    → 64 ≤ length_ahead (position_count w) way m.place → Leaves w way want (length_ahead (position_count w) way m.place) (moved_turn way m).after
moved_leaves w Forward want m e within far = goes e (omega arith) (omega arith)
moved_leaves w Backward want m e within far = goes e (omega arith) (omega arith)

pub far_or_near : (n : ℕ) → (nat_lt n 64 ≡ true) ⊎ ((nat_lt n 64 ≡ false) × (64 ≤ n))
far_or_near n = elim (test (nat_lt n 64)) [ inl near ↦ inl near | inr far ↦ inr (far, grind (arith, nat_tests, far)) ]
  where
    test : (b : Bool) → (b ≡ true) ⊎ (b ≡ false)
    test true = inl refl
    test false = inr refl

turn_leaves : (w : World) (way : Way) (want : Want) (m : Machine) (found : Option ℕ) (positions : List ℕ) → m.motion ≡ Running way want → m.place ≤ end_place w
    → length positions ≡ length_ahead (position_count w) way m.place → Leaves w way want (length_ahead (position_count w) way m.place) (turn_to w way m positions found).after
turn_leaves w way want m (Some p) positions e within n = rests refl
turn_leaves w way want m None positions e within n = elim (far_or_near (length positions)) [
  | inl near ↦ rw near (rests (edge_is_idle w way m))
  | inr far ↦ rw far.0 (moved_leaves w way want m e within (rw n at far.1))
]

pub running_turns : (w : World) (m : Machine) (way : Way) (want : Want) → m.motion ≡ Running way want → turn_of w m ≡ running_turn w m way want
unfolding turn_of
running_turns w m way want e = ap (turn_by w m) e

after_turn : (w : World) (way : Way) (want : Want) (n left : ℕ) (a : Machine) → left < suc n
    → ((b : Machine) → b.motion ≡ Running way want → b.place ≤ end_place w → length_ahead (position_count w) way b.place < n → (turns_from w n b).after.motion ≡ Idle)
    → Leaves w way want left a → (turns_from w n a).after.motion ≡ Idle
after_turn w way want n left a h more (rests idle) = idle_for_good w n a idle
after_turn w way want n left a h more (goes f inside less) = more a f inside (omega (arith, less, h))

runs_out : (w : World) (way : Way) (want : Want) (n : ℕ) (m : Machine) → m.motion ≡ Running way want → m.place ≤ end_place w
    → length_ahead (position_count w) way m.place < n → (turns_from w n m).after.motion ≡ Idle
runs_out w way want zero m e within h = absurd (omega (arith, h))
runs_out w way want (suc n) m e within h =
    let turn_is : turn_of w m ≡ running_turn w m way want = running_turns w m way want e in
    rw turn_is (after_turn w way want n _ _ h (λ a. runs_out w way want n a)
    (turn_leaves w way want m _ _ e within (ahead_length (position_count w) way m.place)))

pub ahead_below : (count : ℕ) (way : Way) (place : ℕ) → length_ahead count way place < count + 1
ahead_below count Forward place = omega arith
ahead_below count Backward place = omega arith

pub batches_end : BatchesEnd
batches_end w m within = by_motion m.motion refl
  where
    by_motion : (motion : Motion) → m.motion ≡ motion → (until_idle w m).after.motion ≡ Idle
    by_motion Idle e = idle_for_good w (position_count w + 1) m e
    by_motion (Running way want) e = runs_out w way want (position_count w + 1) m e within (ahead_below (position_count w) way m.place)
