-- Turn by turn a session comes to the nearest of all positions ahead that match.
use Rattle.std.proofs.Common.{◌≡◌, ℕ, zero, suc, ◌+◌, ◌-◌, ◌<◌, ◌≤◌, Bool, List, [], ◌++◌, length, take, drop, reverse, Option, Some, None, refl, ap, ap₂, subst, ◌∙◌, sym, arith, find, inl, inr, append-nil}
use Rattle.std.proofs.lemmas.List.{length-drop, length-reverse, length-take-le, take-append-drop, reverse-append, take-take, drop-drop, take_all}
use Rattle.std.proofs.lemmas.Bool.Decides.{nat_tests}
use Rattle.std.proofs.lemmas.List.Folds.{find-append}
use Rattle.std.specs.Option.{option_or}
use Rattle.std.proofs.Math.Seq.{drop-append_seam}
use Rattle.list_core.specs.Lists.{from}
use Rattle.list_core.proofs.Listing.{from_length}
use Rattle.trace_core.specs.declared.scan.Way.{Way}
use Rattle.trace_core.specs.declared.scan.Way.TheVariants.{Forward, Backward}
use Rattle.trace_core.specs.declared.scan.Want.{Want}
use Rattle.world_core.specs.World.{World}
use Rattle.machine_core.specs.declared.turn.Motion.TheVariants.{Idle, Running}
use Rattle.machine_core.specs.declared.turn.Turned.TheVariants as turned
use Rattle.machine_core.specs.Positions.{position_count, end_place, ahead, reach}
use Rattle.machine_core.specs.Matching.{matches}
use Rattle.machine_core.specs.Machine.{Machine, Turn, awaited_by, stopped_at, edge_turn, moved_turn, turn_to, turn_by, turn_of}
use Rattle.machine_core.specs.Journal.{Line, Ran, notices_of, behind, turns_from}
use Rattle.machine_core.specs.Laws.{comes_to, RunsToTheNearest}
use Rattle.machine_core.proofs.Ends.{length_ahead, ahead_length, running_turns, far_or_near, ahead_below, edge_is_idle, Leaves, rests as leaves_idle, goes, moved_leaves}

-- ---- what lies ahead after a move

behind_taken : (k : ℕ) (xs : List ℕ) → 64 ≤ k → k ≤ length xs → drop 64 (reverse (take k xs)) ≡ reverse (take (k - 64) xs)
behind_taken k xs far within =
    let whole : take (k - 64) (take k xs) ++ drop (k - 64) (take k xs) ≡ take k xs = take-append-drop (k - 64) (take k xs) in
    let turned : reverse (take k xs) ≡ reverse (drop (k - 64) (take k xs)) ++ reverse (take (k - 64) (take k xs)) =
    ap reverse (sym whole) ∙ reverse-append (take (k - 64) (take k xs)) (drop (k - 64) (take k xs)) in
    let size : length (reverse (drop (k - 64) (take k xs))) ≡ 64 =
    length-reverse (drop (k - 64) (take k xs)) ∙ length-drop (k - 64) (take k xs) ∙ ap (λ n. n - (k - 64)) (length-take-le k xs within) ∙ omega (arith, far) in
    ap (drop 64) turned
    ∙ subst (λ n. drop n (reverse (drop (k - 64) (take k xs)) ++ reverse (take (k - 64) (take k xs))) ≡ reverse (take (k - 64) (take k xs))) size
    (drop-append_seam (reverse (drop (k - 64) (take k xs))) (reverse (take (k - 64) (take k xs))))
    ∙ ap reverse (take-take (k - 64) k xs (omega arith))

ahead_moved : (w : World) (way : Way) (m : Machine) → m.place ≤ end_place w → 64 ≤ length_ahead (position_count w) way m.place
    → ahead (position_count w) way (moved_turn way m).after.place ≡ drop 64 (ahead (position_count w) way m.place)
ahead_moved w Forward m within far = sym (drop-drop 64 m.place (from 0 (position_count w)))
ahead_moved w Backward m within far =
    ap (λ k. reverse (take k (from 0 (position_count w)))) (omega arith)
    ∙ sym (behind_taken (m.place - 1) (from 0 (position_count w)) (omega (arith, far)) (rw (from_length 0 (position_count w)) (omega (arith, within))))

-- ---- a search that goes on

found_early : (test : ℕ → Bool) (n p : ℕ) (xs : List ℕ) → find test (take n xs) ≡ Some p → find test xs ≡ Some p
found_early test n p xs e =
    ap (find test) (sym (take-append-drop n xs)) ∙ find-append test (take n xs) (drop n xs) ∙ ap (λ o. option_or o (find test (drop n xs))) e

found_later : (test : ℕ → Bool) (n : ℕ) (xs : List ℕ) → find test (take n xs) ≡ None → find test xs ≡ find test (drop n xs)
found_later test n xs e =
    ap (find test) (sym (take-append-drop n xs)) ∙ find-append test (take n xs) (drop n xs) ∙ ap (λ o. option_or o (find test (drop n xs))) e

found_all : (test : ℕ → Bool) (n : ℕ) (xs : List ℕ) → length xs ≤ n → find test (take n xs) ≡ None → find test xs ≡ None
found_all test n xs h e = ap (find test) (sym (take_all n xs h)) ∙ e

-- ---- turns

-- where it comes to, as what turns give
told_of : World → Turn → Ran
told_of w t = record { after = t.after; lines = notices_of w t.after t.turned }

idle_turn : (w : World) (m : Machine) → m.motion ≡ Idle → turn_of w m ≡ record { after = m; turned = turned.Idle }
unfolding turn_of
idle_turn w m e = ap (turn_by w m) e

rests : (w : World) (n : ℕ) (m : Machine) → m.motion ≡ Idle → turns_from w n m ≡ record { after = m; lines = [] }
rests w zero m e = refl
rests w (suc n) m e = ap (λ (t : Turn). behind (notices_of w t.after t.turned) (turns_from w n t.after)) (idle_turn w m e) ∙ rests w n m e

-- a turn that leaves an idle machine, and those behind it
last_turn : (w : World) (n : ℕ) (t : Turn) → t.after.motion ≡ Idle → behind (notices_of w t.after t.turned) (turns_from w n t.after) ≡ told_of w t
unfolding told_of
last_turn w n t e =
    ap (behind (notices_of w t.after t.turned)) (rests w n t.after e)
    ∙ ap (λ (lines : List Line). record { after = t.after; lines = lines }) (append-nil (notices_of w t.after t.turned))

-- a move changes the place alone
moved_motion : (way : Way) (m : Machine) → (moved_turn way m).after.motion ≡ m.motion
moved_motion Forward m = refl
moved_motion Backward m = refl

same_end : (w : World) (way : Way) (m : Machine) (found : Option ℕ) → comes_to w (moved_turn way m).after way found ≡ comes_to w m way found
same_end w Forward m (Some p) = refl
same_end w Forward m None = refl
same_end w Backward m (Some p) = refl
same_end w Backward m None = refl

same_awaited : (way : Way) (m : Machine) → awaited_by (moved_turn way m).after ≡ awaited_by m
same_awaited Forward m = refl
same_awaited Backward m = refl

nothing_told : (w : World) (way : Way) (m : Machine) (ran : Ran) → behind (notices_of w (moved_turn way m).after (moved_turn way m).turned) ran ≡ ran
nothing_told w Forward m ran = refl
nothing_told w Backward m ran = refl

-- the turns behind a turn that only moved come to where it comes to from before it
moved_comes : (w : World) (way : Way) (want : Want) (n : ℕ) (m : Machine) → m.place ≤ end_place w → 64 ≤ length_ahead (position_count w) way m.place
    → find (matches w (awaited_by m) want) (take reach (ahead (position_count w) way m.place)) ≡ None
    → turns_from w n (moved_turn way m).after ≡ told_of w (comes_to w (moved_turn way m).after way (find (matches w (awaited_by (moved_turn way m).after) want) (ahead (position_count w) way (moved_turn way m).after.place)))
    → behind (notices_of w (moved_turn way m).after (moved_turn way m).turned) (turns_from w n (moved_turn way m).after)
    ≡ told_of w (comes_to w m way (find (matches w (awaited_by m) want) (ahead (position_count w) way m.place)))
moved_comes w way want n m within far e more =
    nothing_told w way m _ ∙ more
    ∙ ap (told_of w) (same_end w way m _)
    ∙ ap₂ (λ awaited xs. told_of w (comes_to w m way (find (matches w awaited want) xs))) (same_awaited way m) (ahead_moved w way m within far)
    ∙ ap (λ o. told_of w (comes_to w m way o)) (sym (found_later (matches w (awaited_by m) want) 64 (ahead (position_count w) way m.place) e))

-- a turn of a machine that runs, and those behind it
one_turn : (w : World) (way : Way) (want : Want) (n : ℕ) (m : Machine) (found : Option ℕ) → m.motion ≡ Running way want → m.place ≤ end_place w
    → length_ahead (position_count w) way m.place < suc n
    → find (matches w (awaited_by m) want) (take reach (ahead (position_count w) way m.place)) ≡ found
    → ((b : Machine) → b.motion ≡ Running way want → b.place ≤ end_place w → length_ahead (position_count w) way b.place < n
    → turns_from w n b ≡ told_of w (comes_to w b way (find (matches w (awaited_by b) want) (ahead (position_count w) way b.place))))
    → behind (notices_of w (turn_to w way m (ahead (position_count w) way m.place) found).after (turn_to w way m (ahead (position_count w) way m.place) found).turned) (turns_from w n (turn_to w way m (ahead (position_count w) way m.place) found).after)
    ≡ told_of w (comes_to w m way (find (matches w (awaited_by m) want) (ahead (position_count w) way m.place)))
one_turn w way want n m (Some p) e within h is more =
    last_turn w n (stopped_at w m p) refl
    ∙ ap (λ o. told_of w (comes_to w m way o)) (sym (found_early (matches w (awaited_by m) want) 64 p (ahead (position_count w) way m.place) is))
one_turn w way want n m None e within h is more = elim (far_or_near (length (ahead (position_count w) way m.place))) [
  | inl near ↦ rw near (
      last_turn w n (edge_turn w way m) (edge_is_idle w way m)
      ∙ ap (λ o. told_of w (comes_to w m way o)) (sym (found_all (matches w (awaited_by m) want) 64 (ahead (position_count w) way m.place) (grind (arith, nat_tests, near)) is)))
  | inr far ↦ rw far.0 (goes_on (moved_leaves w way want m e within (rw (ahead_length (position_count w) way m.place) at far.1)) (rw (ahead_length (position_count w) way m.place) at far.1))
]
  where
    goes_on : Leaves w way want (length_ahead (position_count w) way m.place) (moved_turn way m).after → 64 ≤ length_ahead (position_count w) way m.place
        → behind (notices_of w (moved_turn way m).after (moved_turn way m).turned) (turns_from w n (moved_turn way m).after)
        ≡ told_of w (comes_to w m way (find (matches w (awaited_by m) want) (ahead (position_count w) way m.place)))
    goes_on (leaves_idle idle) far = absurd (not_idle (moved_motion way m) idle)
      where
        not_idle : (moved_turn way m).after.motion ≡ m.motion → (moved_turn way m).after.motion ≡ Idle → ⊥
        not_idle same idle = let both : Running way want ≡ Idle = sym e ∙ sym same ∙ idle in cc
    goes_on (goes f inside less) far = moved_comes w way want n m within far is (more (moved_turn way m).after f inside (omega (arith, less, h)))

reaches : (w : World) (way : Way) (want : Want) (n : ℕ) (m : Machine) → m.motion ≡ Running way want → m.place ≤ end_place w
    → length_ahead (position_count w) way m.place < n
    → turns_from w n m ≡ told_of w (comes_to w m way (find (matches w (awaited_by m) want) (ahead (position_count w) way m.place)))
reaches w way want zero m e within h = absurd (omega (arith, h))
reaches w way want (suc n) m e within h =
    ap (λ (t : Turn). behind (notices_of w t.after t.turned) (turns_from w n t.after)) (running_turns w m way want e)
    ∙ one_turn w way want n m _ e within h refl (λ b. reaches w way want n b)

pub runs_to_the_nearest : RunsToTheNearest
unfolding told_of
runs_to_the_nearest w m way want e within = reaches w way want (position_count w + 1) m e within (ahead_below (position_count w) way m.place)
