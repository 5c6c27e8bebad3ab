-- No request moves a session, and a refused one leaves all as it was.
use Rattle.std.proofs.Common.{◌≡◌, ℕ, Bool, true, false, Option, Some, None, Result, Ok, Err, refl, ap, if◌then◌else◌, filter, not}
use Rattle.std.specs.List.{list_any}
use Rattle.exec_core.specs.Block.{Name}
use Rattle.gen_tree.specs.Tree.{Expr}
use Rattle.listen.specs.Pairs.{Heard}
use Rattle.trace_core.specs.declared.scan.Way.{Way}
use Rattle.world_core.specs.World.{World}
use Rattle.cond_lang.specs.Judged.{Refusal}
use Rattle.machine_core.specs.declared.request.Cmd.{Cmd}
use Rattle.machine_core.specs.declared.request.Cmd.TheVariants as cmd
use Rattle.machine_core.specs.declared.request.Asked.{Asked}
use Rattle.machine_core.specs.declared.request.Asked.TheVariants.{Good, Bad}
use Rattle.machine_core.specs.declared.reply.Body.{Body}
use Rattle.machine_core.specs.declared.reply.Body.TheVariants as body
use Rattle.machine_core.specs.declared.turn.Motion.{Motion}
use Rattle.machine_core.specs.declared.turn.Motion.TheVariants.{Idle, Running}
use Rattle.machine_core.specs.Reading.{Reader, Reading, Condition, NoCondition}
use Rattle.machine_core.specs.Matching.{Breakpoint, Watch}
use Rattle.machine_core.specs.Arming.{instance_named}
use Rattle.machine_core.specs.Machine.{Machine, Outcome, Refused, Accepted, accepted_unless, if_idle, if_running, armed_break, has_number, armed_watch, is_watch, named_step, step, position_of, no_stop, if_stopped, at_stop, if_thread, at_thread, judged_value, eval, listener, drop_listener, obey, asked_outcome, asked_id, answer_by, counted, answer_of}
use Rattle.machine_core.specs.Laws.{RefusedChangeNothing, MovesByTurnsAlone}

-- what is left stands at the same place
abbrev Stands : ℕ → Outcome → Type 0
Stands place (Refused refusal) = Unit {0}
Stands place (Accepted left granted) = left.place ≡ place

idle_stands : (place : ℕ) (motion : Motion) (o : Outcome) → Stands place o → Stands place (if_idle motion o)
idle_stands place Idle o h = h
idle_stands place (Running way want) o h = tt

running_stands : (place : ℕ) (motion : Motion) (o : Outcome) → Stands place o → Stands place (if_running motion o)
running_stands place Idle o h = tt
running_stands place (Running way want) o h = h

break_stands : (m : Machine) (r : Result Breakpoint Body) → Stands m.place (accepted_unless r (armed_break m))
break_stands m (Ok b) = refl
break_stands m (Err refusal) = tt

delete_by : (place : ℕ) (b : Bool) (o p : Outcome) → Stands place o → Stands place p → Stands place (if b then o else p)
delete_by place true o p h g = h
delete_by place false o p h g = g

-- what is left where a breakpoint is disarmed
abbrev disarmed : Machine → ℕ → Outcome
disarmed m bp = Accepted (record m { breakpoints = filter (λ b. not (has_number bp b)) m.breakpoints }) body.Delete

watch_stands : (m : Machine) (r : Result Watch Body) → Stands m.place (accepted_unless r (armed_watch m))
watch_stands m (Ok watch) = refl
watch_stands m (Err refusal) = tt

-- and where a watch is
abbrev unwatched : Machine → ℕ → Outcome
unwatched m wp = Accepted (record m { watches = filter (λ watch. not (is_watch wp watch)) m.watches }) body.Unwatch

named_stands : (m : Machine) (way : Way) (granted : Body) (path : Name) (i : Option ℕ) → Stands m.place (named_step m way granted path i)
named_stands m way granted path None = tt
named_stands m way granted path (Some i) = refl

step_stands : (w : World) (m : Machine) (way : Way) (granted : Body) (path : Option Name) → Stands m.place (step w m way granted path)
step_stands w m way granted None = refl
step_stands w m way granted (Some path) = named_stands m way granted path (instance_named w path)

stop_stands : (w : World) (m : Machine) (p : Option ℕ) (f : ℕ → Outcome) → ((q : ℕ) → Stands m.place (f q)) → Stands m.place (if_stopped w m p f)
stop_stands w m None f h = tt
stop_stands w m (Some p) f h = h p

at_stop_stands : (w : World) (m : Machine) (f : ℕ → Outcome) → ((q : ℕ) → Stands m.place (f q)) → Stands m.place (at_stop w m f)
at_stop_stands w m f h = idle_stands m.place m.motion _ (stop_stands w m (position_of w m.place) f h)

thread_stands : (w : World) (m : Machine) (p : ℕ) (i : Option ℕ) (f : ℕ → Outcome) → ((j : ℕ) → Stands m.place (f j)) → Stands m.place (if_thread w m p i f)
thread_stands w m p None f h = tt
thread_stands w m p (Some i) f h = delete_by m.place _ (f i) (no_stop w m) (h i) tt

at_thread_stands : (w : World) (m : Machine) (path : Name) (f : ℕ → ℕ → Outcome) → ((q j : ℕ) → Stands m.place (f q j)) → Stands m.place (at_thread w m path f)
at_thread_stands w m path f h = at_stop_stands w m _ (λ q. thread_stands w m q (instance_named w path) (f q) (h q))

value_stands : (w : World) (m : Machine) (p i : ℕ) (e : Expr) (r : Result ℕ Refusal) → Stands m.place (judged_value w m p i e r)
value_stands w m p i e (Ok width) = refl
value_stands w m p i e (Err refusal) = tt

eval_stands : (w : World) (m : Machine) (p i : ℕ) (r : Reading) → Stands m.place (eval w m p i r)
eval_stands w m p i (NoCondition offset) = tt
eval_stands w m p i (Condition e offsets) = value_stands w m p i e _

drop_stands : (m : Machine) (k : ℕ) (h : Option Heard) → Stands m.place (drop_listener m k h)
drop_stands m k None = tt
drop_stands m k (Some heard) = refl

obey_stands : (read : Reader) (w : World) (m : Machine) (c : Cmd) → Stands m.place (obey read w m c)
obey_stands read w m (cmd.Break line path text) = break_stands m _
obey_stands read w m (cmd.Delete bp) = delete_by m.place (list_any (has_number bp) m.breakpoints) (disarmed m bp) (Refused (body.NoBreakpoint bp)) refl tt
obey_stands read w m (cmd.Watch line path text) = watch_stands m _
obey_stands read w m (cmd.Unwatch wp) = delete_by m.place (list_any (is_watch wp) m.watches) (unwatched m wp) (Refused (body.NoWatch wp)) refl tt
obey_stands read w m cmd.Continue = idle_stands m.place m.motion _ refl
obey_stands read w m cmd.Reverse = idle_stands m.place m.motion _ refl
obey_stands read w m (cmd.Step path) = idle_stands m.place m.motion _ (step_stands w m _ _ path)
obey_stands read w m (cmd.Back path) = idle_stands m.place m.motion _ (step_stands w m _ _ path)
obey_stands read w m cmd.Pause = running_stands m.place m.motion _ refl
obey_stands read w m cmd.Threads = at_stop_stands w m _ (λ q. refl)
obey_stands read w m (cmd.Values path) = at_thread_stands w m path _ (λ q j. refl)
obey_stands read w m (cmd.Eval path text) = at_thread_stands w m path _ (λ q j. eval_stands w m q j (read text))
obey_stands read w m (cmd.Drop k) = drop_stands m k (listener m k)
obey_stands read w m cmd.Status = refl
obey_stands read w m cmd.Bye = refl

outcome_stands : (read : Reader) (w : World) (m : Machine) (asked : Asked) → Stands m.place (asked_outcome read w m asked)
outcome_stands read w m (Good request) = obey_stands read w m request.cmd
outcome_stands read w m (Bad text) = tt

answer_stands : (m : Machine) (id : Option ℕ) (o : Outcome) → Stands m.place o → (answer_by m id o).after.place ≡ m.place
answer_stands m id (Refused refusal) h = refl
answer_stands m id (Accepted left granted) h = h

pub moves_by_turns_alone : MovesByTurnsAlone
unfolding answer_of
moves_by_turns_alone read w m asked = answer_stands (counted m) (asked_id asked) (asked_outcome read w (counted m) asked) (outcome_stands read w (counted m) asked)

pub refused_change_nothing : RefusedChangeNothing
unfolding answer_of
refused_change_nothing read w m asked refusal e = ap (λ (o : Outcome). (answer_by (counted m) (asked_id asked) o).after) e
