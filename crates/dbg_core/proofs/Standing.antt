-- What is asked at a position is answered as the machine answers it.
use Rattle.std.proofs.Common.{◌≡◌, ℕ, Bool, true, false, List, Option, Some, None, Result, Ok, Err, if◌then◌else◌, refl, sym, ap, ◌∙◌}
use Rattle.std.specs.Prelude.{nat_eq, OnErr, IfOk}
use Rattle.std.specs.List.{list_any}
use Rattle.exec_core.specs.Block.{Name}
use Rattle.listen.specs.Pairs.{Heard}
use Rattle.trace_core.specs.Samples.{Samples}
use Rattle.world_core.specs.World.{World}
use Rattle.cond_lang.specs.Judged.{Refusal, judged}
use Rattle.gen_tree.specs.Tree.{Expr}
use Rattle.machine_core.specs.declared.reply.Body.{Body}
use Rattle.machine_core.specs.declared.reply.Body.TheVariants as body
use Rattle.machine_core.specs.declared.turn.Motion.{Motion}
use Rattle.machine_core.specs.declared.turn.Motion.TheVariants.{Idle, Running}
use Rattle.machine_core.specs.Positions.{cycle_at, slot_at, at_place}
use Rattle.machine_core.specs.Reading.{Reader, Reading, Condition, NoCondition}
use Rattle.machine_core.specs.Matching.{Breakpoint, Watch}
use Rattle.machine_core.specs.Arming.{instance_named, scope_at}
use Rattle.machine_core.specs.Machine.{Machine, Outcome, Refused, accepted_unless, armed_break, armed_watch, if_idle, if_stopped, at_stop, if_thread, at_thread, position_of, threads_at, threads, values, eval, judged_value, drop_listener, answer_by}
use Rattle.dbg_core.specs.Answering.{answered, told_of, stand, stand_at, thread_of, thread_there, thread_from, threads_body, values_body, eval_body, judged_body, broken, watched, dropped}

same_Ok : {A B : Type 0} (x y : A) → (let r : Result A B = Ok x in r) ≡ Ok y → x ≡ y
same_Ok x y e = cc

-- what follows of each error holds of one
pub on_error : {X Y : Type 0} (r : Result X Y) (P Q : Type 0) → (P → Q) → OnErr r P → OnErr r Q
on_error (Ok x) P Q f h = h
on_error (Err e) P Q f h = f h

-- ---- at a stop

module _ (w : World) (m : Machine) (id : Option ℕ) where
  by_position : (o : Option ℕ) (f : ℕ → Outcome) (g : ℕ → Body) → ((p : ℕ) → answered m id (g p) ≡ answer_by m id (f p))
      → answered m id (told_of g (stand_at w m.place o)) ≡ answer_by m id (if_stopped w m o f)
  by_position None f g h = refl
  by_position (Some p) f g h = h p

  by_motion : (motion : Motion) (f : ℕ → Outcome) (g : ℕ → Body) → ((p : ℕ) → answered m id (g p) ≡ answer_by m id (f p))
      → answered m id (told_of g (stand w motion m.place)) ≡ answer_by m id (if_idle motion (if_stopped w m (position_of w m.place) f))
  by_motion Idle f g h = by_position (position_of w m.place) f g h
  by_motion (Running way want) f g h = refl

  pub threads_answered : answered m id (told_of (threads_body w m.place) (stand w m.motion m.place)) ≡ answer_by m id (at_stop w m (threads w m))
  threads_answered = by_motion m.motion (threads w m) (threads_body w m.place) (λ p. refl)

  -- ---- in a thread

  by_thread : (p : ℕ) (o : Option ℕ) (f : ℕ → Outcome) (g : ℕ × ℕ → Body) → ((i : ℕ) → answered m id (g (p, i)) ≡ answer_by m id (f i))
      → answered m id (told_of g (thread_there w m.place p o)) ≡ answer_by m id (if_thread w m p o f)
  by_thread p None f g h = refl
  by_thread p (Some i) f g h = by_test (list_any (nat_eq i) (threads_at w p))
    where
      by_test : (b : Bool) → answered m id (told_of g (if b then Ok (p, i) else Err (body.NoStop (at_place w m.place)))) ≡ answer_by m id (if b then f i else Refused (body.NoStop (at_place w m.place)))
      by_test true = h i
      by_test false = refl

  by_stand : (named : Option ℕ) (o : Option ℕ) (f : ℕ → ℕ → Outcome) (g : ℕ × ℕ → Body) → ((p i : ℕ) → answered m id (g (p, i)) ≡ answer_by m id (f p i))
      → answered m id (told_of g (thread_from w m.place named (stand_at w m.place o))) ≡ answer_by m id (if_stopped w m o (λ p. if_thread w m p named (f p)))
  by_stand named None f g h = refl
  by_stand named (Some p) f g h = by_thread p named (f p) g (h p)

  by_going : (motion : Motion) (named : Option ℕ) (f : ℕ → ℕ → Outcome) (g : ℕ × ℕ → Body) → ((p i : ℕ) → answered m id (g (p, i)) ≡ answer_by m id (f p i))
      → answered m id (told_of g (thread_from w m.place named (stand w motion m.place))) ≡ answer_by m id (if_idle motion (if_stopped w m (position_of w m.place) (λ p. if_thread w m p named (f p))))
  by_going Idle named f g h = by_stand named (position_of w m.place) f g h
  by_going (Running way want) named f g h = refl

  pub values_answered : (path : Name) → answered m id (told_of (values_body w) (thread_of w m.motion m.place path)) ≡ answer_by m id (at_thread w m path (values w m))
  values_answered path = by_going m.motion (instance_named w path) (values w m) (values_body w) (λ p i. refl)

  by_judged : (p i : ℕ) (e : Expr) (r : Result ℕ Refusal) → answered m id (judged_body w (cycle_at w p) (slot_at w p) i e r) ≡ answer_by m id (judged_value w m p i e r)
  by_judged p i e (Ok width) = refl
  by_judged p i e (Err refusal) = refl

  by_reading : (p i : ℕ) (reading : Reading) → answered m id (eval_body w reading (p, i)) ≡ answer_by m id (eval w m p i reading)
  by_reading p i (NoCondition offset) = refl
  by_reading p i (Condition e offsets) = by_judged p i e (judged (scope_at w (slot_at w p) i) e offsets)

  pub eval_answered : (path : Name) (reading : Reading) → answered m id (told_of (eval_body w reading) (thread_of w m.motion m.place path)) ≡ answer_by m id (at_thread w m path (λ p i. eval w m p i reading))
  eval_answered path reading = by_going m.motion (instance_named w path) (λ p i. eval w m p i reading) (eval_body w reading) (λ p i. by_reading p i reading)

-- ---- a thread that was found is one

abbrev found_by : World → (place position instance : ℕ) → Bool → Result (ℕ × ℕ) Body
found_by w place p i b = if b then Ok (p, i) else Err (body.NoStop (at_place w place))

known_there : (w : World) (place p : ℕ) (o : Option ℕ) (q i : ℕ) → thread_there w place p o ≡ Ok (q, i) → list_any (nat_eq i) (threads_at w q) ≡ true
known_there w place p None q i e = cc
known_there w place p (Some j) q i e = by_test (list_any (nat_eq j) (threads_at w p)) refl e
  where
    by_test : (b : Bool) → list_any (nat_eq j) (threads_at w p) ≡ b → found_by w place p j b ≡ Ok (q, i) → list_any (nat_eq i) (threads_at w q) ≡ true
    by_test false f g = cc
    by_test true f g = ap (λ (x : ℕ × ℕ). list_any (nat_eq x.1) (threads_at w x.0)) (sym (same_Ok {A = ℕ × ℕ} {B = Body} (p, j) (q, i) g)) ∙ f

known_from : (w : World) (place : ℕ) (named : Option ℕ) (r : Result ℕ Body) (q i : ℕ) → thread_from w place named r ≡ Ok (q, i) → list_any (nat_eq i) (threads_at w q) ≡ true
known_from w place named (Err refusal) q i e = cc
known_from w place named (Ok p) q i e = known_there w place p named q i e

pub thread_known : (w : World) (motion : Motion) (place : ℕ) (path : Name) (q i : ℕ) → thread_of w motion place path ≡ Ok (q, i) → list_any (nat_eq i) (threads_at w q) ≡ true
thread_known w motion place path q i e = known_from w place (instance_named w path) (stand w motion place) q i e

-- ---- breakpoints, watches and listeners

-- a machine with these breakpoints, and this next number
abbrev pub armed_with : Machine → List Breakpoint × ℕ × Body → Machine
armed_with m left = record m { breakpoints = left.0; next = left.1 }

pub break_answered : (m : Machine) (id : Option ℕ) (made : Result Breakpoint Body)
    → answered (armed_with m (broken made m.breakpoints m.next)) id (broken made m.breakpoints m.next).2 ≡ answer_by m id (accepted_unless made (armed_break m))
break_answered m id (Ok b) = refl
break_answered m id (Err refusal) = refl

-- and with these watches
abbrev pub watching_with : Machine → List Watch × ℕ × Body → Machine
watching_with m left = record m { watches = left.0; next_watch = left.1 }

pub watch_answered : (m : Machine) (id : Option ℕ) (made : Result Watch Body)
    → answered (watching_with m (watched made m.watches m.next_watch)) id (watched made m.watches m.next_watch).2 ≡ answer_by m id (accepted_unless made (armed_watch m))
watch_answered m id (Ok watch) = refl
watch_answered m id (Err refusal) = refl

pub drop_answered : (m : Machine) (id : Option ℕ) (k : ℕ) (o : Option Heard)
    → answered (record m { heard = (dropped m.heard k o).0 }) id (dropped m.heard k o).1 ≡ answer_by m id (drop_listener m k o)
drop_answered m id k None = refl
drop_answered m id k (Some heard) = refl

-- ---- what holds of an answer by each reader

-- a fact of what was made for each reader of conditions, and another of it
pub ok_for_all : {X Y : Type 0} (r : Result X Y) (R : Reader → Type 0) (P : X → Reader → Type 0) (Q : X → Type 0) → ((x : X) → ((read : Reader) → R read → P x read) → Q x)
    → ((read : Reader) → R read → IfOk r (λ x. P x read)) → IfOk r Q
ok_for_all (Ok x) R P Q f h = f x h
ok_for_all (Err e) R P Q f h = tt

pub ok_for_samples : {X Y : Type 0} (r : Result X Y) (R : Reader → Type 0) (P : X → Reader → Samples → Type 0) (Q : X → Type 0) → ((x : X) → ((read : Reader) (s : Samples) → R read → P x read s) → Q x)
    → ((read : Reader) (s : Samples) → R read → IfOk r (λ x. P x read s)) → IfOk r Q
ok_for_samples (Ok x) R P Q f h = f x h
ok_for_samples (Err e) R P Q f h = tt
