-- The turns of a run, one after another, until the machine is idle: for the loops of those who drive a session.
use Rattle.std.proofs.Common.{◌≡◌, ℕ, zero, suc, ◌+◌, ◌≤◌, Bool, true, false, if◌then◌else◌, List, [], ◌∷◌, ◌++◌, append_assoc, refl, sym, ap, ◌∙◌, add-one}
use Rattle.world_core.specs.World.{World}
use Rattle.machine_core.specs.declared.request.Asked.{Asked}
use Rattle.machine_core.specs.declared.turn.Motion.TheVariants.{Idle}
use Rattle.machine_core.specs.Reading.{Reader}
use Rattle.machine_core.specs.Positions.{position_count, end_place}
use Rattle.machine_core.specs.Machine.{Machine, Turn, turn_of, Answer, answer_of}
use Rattle.machine_core.specs.Journal.{Line, Replied, notices_of, Ran, behind, turns_from, until_idle, is_bye, waited, batch_from}
use Rattle.machine_core.proofs.Ends.{batches_end}
use Rattle.dbg_core.proofs.Turns.{rests}

-- an idle machine makes no turns
still : (w : World) (n : ℕ) (m : Machine) → m.motion ≡ Idle → turns_from w n m ≡ record { after = m; lines = [] }
still w zero m e = refl
still w (suc n) m e = ap (λ (t : Turn). behind (notices_of w t.after t.turned) (turns_from w n t.after)) (sym (rests w m e)) ∙ still w n m e

pub idle_ran : (w : World) (m : Machine) → m.motion ≡ Idle → until_idle w m ≡ record { after = m; lines = [] }
idle_ran w m e = still w (position_count w + 1) m e

-- once it is idle, one turn more adds nothing
settled : (w : World) (n : ℕ) (m : Machine) → (turns_from w n m).after.motion ≡ Idle → turns_from w (suc n) m ≡ turns_from w n m
settled w zero m e = still w 1 m e
settled w (suc n) m e = ap (behind (notices_of w (turn_of w m).after (turn_of w m).turned)) (settled w n (turn_of w m).after e)

-- the turns until it is idle are one turn, and those until it is idle from there
pub one_turn : (w : World) (m : Machine) → m.place ≤ end_place w → until_idle w m ≡ behind (notices_of w (turn_of w m).after (turn_of w m).turned) (until_idle w (turn_of w m).after)
one_turn w m within =
    let next : turns_from w (position_count w + 1) m ≡ turns_from w (suc (position_count w)) m = ap (λ n. turns_from w n m) (add-one (position_count w)) in
    let ends : (turns_from w (suc (position_count w)) m).after.motion ≡ Idle = ap (λ (r : Ran). r.after.motion) (sym next) ∙ batches_end w m within in
    next
    ∙ ap (behind (notices_of w (turn_of w m).after (turn_of w m).turned)) (sym (settled w (position_count w) (turn_of w m).after ends) ∙ ap (λ n. turns_from w n (turn_of w m).after) (sym (add-one (position_count w))))

-- ---- a batch, as a loop puts out its lines: those before, and those of what is left, are the whole

behind_twice : (a b : List Line) (ran : Ran) → behind (a ++ b) ran ≡ behind a (behind b ran)
behind_twice a b ran = ap (λ lines. record { after = ran.after; lines = lines }) (append_assoc a b ran.lines)

-- one turn more
pub turn_more : (w : World) (m : Machine) (rest : Machine → Ran) (before : List Line) (whole : Ran) → m.place ≤ end_place w → behind before (waited (until_idle w m) rest) ≡ whole
    → behind (before ++ notices_of w (turn_of w m).after (turn_of w m).turned) (waited (until_idle w (turn_of w m).after) rest) ≡ whole
turn_more w m rest before whole within inv =
    behind_twice before (notices_of w (turn_of w m).after (turn_of w m).turned) (waited (until_idle w (turn_of w m).after) rest)
    ∙ ap (behind before) (sym (behind_twice (notices_of w (turn_of w m).after (turn_of w m).turned) (until_idle w (turn_of w m).after).lines (rest (until_idle w (turn_of w m).after).after)))
    ∙ ap (λ ran. behind before (waited ran rest)) (sym (one_turn w m within))
    ∙ inv

-- no turn more
pub turns_done : (w : World) (m : Machine) (rest : Machine → Ran) (before : List Line) (whole : Ran) → m.motion ≡ Idle → behind before (waited (until_idle w m) rest) ≡ whole → behind before (rest m) ≡ whole
turns_done w m rest before whole idle inv = ap (λ ran. behind before (waited ran rest)) (sym (idle_ran w m idle)) ∙ inv

module _ (read : Reader) (w : World) (asked : Asked) (rest : List Asked) (m : Machine) (before : List Line) (whole : Ran) where
  answer : Answer
  answer = answer_of read w m asked

  by_bye : (b : Bool) → is_bye answer.reply.body ≡ b → behind before (batch_from read w (asked ∷ rest) m) ≡ whole
      → behind (before ++ Replied answer.reply ∷ []) (if b then record { after = answer.after; lines = [] } else waited (until_idle w answer.after) (batch_from read w rest)) ≡ whole
  unfolding answer
  by_bye b e inv =
      behind_twice before (Replied answer.reply ∷ []) _
      ∙ ap (λ c. behind before (behind (Replied answer.reply ∷ []) (if c then record { after = answer.after; lines = [] } else waited (until_idle w answer.after) (batch_from read w rest)))) (sym e)
      ∙ inv

  -- one request more, which is not the last
  pub asked_more : is_bye (answer_of read w m asked).reply.body ≡ false → behind before (batch_from read w (asked ∷ rest) m) ≡ whole
      → behind (before ++ Replied (answer_of read w m asked).reply ∷ []) (waited (until_idle w (answer_of read w m asked).after) (batch_from read w rest)) ≡ whole
  unfolding answer
  asked_more e inv = by_bye false e inv

  -- the last request
  pub asked_last : is_bye (answer_of read w m asked).reply.body ≡ true → behind before (batch_from read w (asked ∷ rest) m) ≡ whole
      → behind (before ++ Replied (answer_of read w m asked).reply ∷ []) (record { after = (answer_of read w m asked).after; lines = [] }) ≡ whole
  unfolding answer
  asked_last e inv = by_bye true e inv
