-- What an idle machine is granted tells the way in which it runs then.
use Rattle.std.proofs.Common.{◌≡◌, ℕ, Bool, true, false, Option, Some, None, Result, Ok, Err, refl, subst, if◌then◌else◌, filter, not}
use Rattle.std.specs.List.{list_any}
use Rattle.exec_core.specs.Block.{Name}
use Rattle.gen_tree.specs.Tree.{Expr}
use Rattle.listen.specs.Pairs.{Heard}
use Rattle.trace_core.specs.declared.scan.Way.{Way}
use Rattle.trace_core.specs.declared.scan.Way.TheVariants.{Forward, Backward}
use Rattle.trace_core.specs.declared.scan.Want.{Want}
use Rattle.world_core.specs.World.{World}
use Rattle.cond_lang.specs.Judged.{Refusal}
use Rattle.machine_core.specs.declared.request.Cmd.{Cmd}
use Rattle.machine_core.specs.declared.request.Cmd.TheVariants as cmd
use Rattle.machine_core.specs.declared.request.Asked.{Asked}
use Rattle.machine_core.specs.declared.request.Asked.TheVariants.{Good, Bad}
use Rattle.machine_core.specs.declared.reply.Body.{Body}
use Rattle.machine_core.specs.declared.reply.Body.TheVariants as body
use Rattle.machine_core.specs.declared.turn.Motion.{Motion}
use Rattle.machine_core.specs.declared.turn.Motion.TheVariants.{Idle, Running}
use Rattle.machine_core.specs.Reading.{Reader, Reading, Condition, NoCondition}
use Rattle.machine_core.specs.Matching.{Breakpoint, Watch}
use Rattle.machine_core.specs.Arming.{instance_named}
use Rattle.machine_core.specs.Machine.{Machine, Outcome, Refused, Accepted, accepted_unless, if_idle, if_running, armed_break, has_number, armed_watch, is_watch, unwatch, named_step, step, position_of, no_stop, if_stopped, at_stop, if_thread, at_thread, judged_value, eval, listener, drop_listener, delete, obey, asked_outcome, asked_id, answer_by, counted, answer_of}
use Rattle.machine_core.specs.Journal.{is_bye}
use Rattle.demo_run.specs.Answers.{granted_way}

-- it grants this way, and is not the last answer
abbrev pub Runs : Body → Way → Type 0
Runs granted way = (granted_way granted ≡ Some way) × (is_bye granted ≡ false)

-- where what is left runs, its way is granted
abbrev Grants : Outcome → Type 0
Grants (Refused refusal) = Unit {0}
Grants (Accepted left granted) = (way : Way) (want : Want) → left.motion ≡ Running way want → Runs granted way

same_way : (a way : Way) (b want : Want) → Running a b ≡ Running way want → a ≡ way
same_way a way b want e = cc

runs_so : (granted : Body) (a way : Way) (b want : Want) → Runs granted a → Running a b ≡ Running way want → Runs granted way
runs_so granted a way b want h e = subst (Runs granted) (same_way a way b want e) h

still : (motion : Motion) (way : Way) (want : Want) → motion ≡ Idle → motion ≡ Running way want → ⊥
still motion way want idle e = cc

idle_grants : (motion : Motion) (o : Outcome) → Grants o → Grants (if_idle motion o)
idle_grants Idle o h = h
idle_grants (Running way want) o h = tt

running_grants : (motion : Motion) (o : Outcome) → Grants o → Grants (if_running motion o)
running_grants Idle o h = tt
running_grants (Running way want) o h = h

break_grants : (m : Machine) (r : Result Breakpoint Body) → m.motion ≡ Idle → Grants (accepted_unless r (armed_break m))
break_grants m (Ok b) idle = λ way want e. absurd (still m.motion way want idle e)
break_grants m (Err refusal) idle = tt

by_test : (b : Bool) (o p : Outcome) → Grants o → Grants p → Grants (if b then o else p)
by_test true o p h g = h
by_test false o p h g = g

-- what is left where a breakpoint is disarmed
abbrev disarmed : Machine → ℕ → Outcome
disarmed m bp = Accepted (record m { breakpoints = filter (λ b. not (has_number bp b)) m.breakpoints }) body.Delete

delete_grants : (m : Machine) (bp : ℕ) → m.motion ≡ Idle → Grants (delete m bp)
delete_grants m bp idle = by_test (list_any (has_number bp) m.breakpoints) (disarmed m bp) (Refused (body.NoBreakpoint bp)) (λ way want e. absurd (still m.motion way want idle e)) tt

watch_grants : (m : Machine) (r : Result Watch Body) → m.motion ≡ Idle → Grants (accepted_unless r (armed_watch m))
watch_grants m (Ok watch) idle = λ way want e. absurd (still m.motion way want idle e)
watch_grants m (Err refusal) idle = tt

-- what is left where a watch is disarmed
abbrev unwatched : Machine → ℕ → Outcome
unwatched m wp = Accepted (record m { watches = filter (λ watch. not (is_watch wp watch)) m.watches }) body.Unwatch

unwatch_grants : (m : Machine) (wp : ℕ) → m.motion ≡ Idle → Grants (unwatch m wp)
unwatch_grants m wp idle = by_test (list_any (is_watch wp) m.watches) (unwatched m wp) (Refused (body.NoWatch wp)) (λ way want e. absurd (still m.motion way want idle e)) tt

named_grants : (m : Machine) (way : Way) (granted : Body) (path : Name) (i : Option ℕ) → Runs granted way → Grants (named_step m way granted path i)
named_grants m way granted path None e = tt
named_grants m way granted path (Some i) e = λ other want h. runs_so granted way other _ want e h

step_grants : (w : World) (m : Machine) (way : Way) (granted : Body) (path : Option Name) → Runs granted way → Grants (step w m way granted path)
step_grants w m way granted None e = λ other want h. runs_so granted way other _ want e h
step_grants w m way granted (Some path) e = named_grants m way granted path (instance_named w path) e

stop_grants : (w : World) (m : Machine) (p : Option ℕ) (f : ℕ → Outcome) → ((q : ℕ) → Grants (f q)) → Grants (if_stopped w m p f)
stop_grants w m None f h = tt
stop_grants w m (Some p) f h = h p

at_stop_grants : (w : World) (m : Machine) (f : ℕ → Outcome) → ((q : ℕ) → Grants (f q)) → Grants (at_stop w m f)
at_stop_grants w m f h = idle_grants m.motion _ (stop_grants w m (position_of w m.place) f h)

thread_grants : (w : World) (m : Machine) (p : ℕ) (i : Option ℕ) (f : ℕ → Outcome) → ((j : ℕ) → Grants (f j)) → Grants (if_thread w m p i f)
thread_grants w m p None f h = tt
thread_grants w m p (Some i) f h = by_test _ (f i) (no_stop w m) (h i) tt

at_thread_grants : (w : World) (m : Machine) (path : Name) (f : ℕ → ℕ → Outcome) → ((q j : ℕ) → Grants (f q j)) → Grants (at_thread w m path f)
at_thread_grants w m path f h = at_stop_grants w m _ (λ q. thread_grants w m q (instance_named w path) (f q) (h q))

value_grants : (w : World) (m : Machine) (p i : ℕ) (e : Expr) (r : Result ℕ Refusal) → m.motion ≡ Idle → Grants (judged_value w m p i e r)
value_grants w m p i e (Ok width) idle = λ way want f. absurd (still m.motion way want idle f)
value_grants w m p i e (Err refusal) idle = tt

eval_grants : (w : World) (m : Machine) (p i : ℕ) (r : Reading) → m.motion ≡ Idle → Grants (eval w m p i r)
eval_grants w m p i (NoCondition offset) idle = tt
eval_grants w m p i (Condition e offsets) idle = value_grants w m p i e _ idle

drop_grants : (m : Machine) (k : ℕ) (h : Option Heard) → m.motion ≡ Idle → Grants (drop_listener m k h)
drop_grants m k None idle = tt
drop_grants m k (Some heard) idle = λ way want e. absurd (still m.motion way want idle e)

obey_grants : (read : Reader) (w : World) (m : Machine) (c : Cmd) → m.motion ≡ Idle → Grants (obey read w m c)
obey_grants read w m (cmd.Break line path text) idle = break_grants m _ idle
obey_grants read w m (cmd.Delete bp) idle = delete_grants m bp idle
obey_grants read w m (cmd.Watch line path text) idle = watch_grants m _ idle
obey_grants read w m (cmd.Unwatch wp) idle = unwatch_grants m wp idle
obey_grants read w m cmd.Continue idle = idle_grants m.motion _ (λ way want h. runs_so body.Continue Forward way _ want (refl, refl) h)
obey_grants read w m cmd.Reverse idle = idle_grants m.motion _ (λ way want h. runs_so body.Reverse Backward way _ want (refl, refl) h)
obey_grants read w m (cmd.Step path) idle = idle_grants m.motion _ (step_grants w m _ _ path (refl, refl))
obey_grants read w m (cmd.Back path) idle = idle_grants m.motion _ (step_grants w m _ _ path (refl, refl))
obey_grants read w m cmd.Pause idle = running_grants m.motion _ (λ way want e. absurd (still Idle way want refl e))
obey_grants read w m cmd.Threads idle = at_stop_grants w m _ (λ q way want e. absurd (still m.motion way want idle e))
obey_grants read w m (cmd.Values path) idle = at_thread_grants w m path _ (λ q j way want e. absurd (still m.motion way want idle e))
obey_grants read w m (cmd.Eval path text) idle = at_thread_grants w m path _ (λ q j. eval_grants w m q j (read text) idle)
obey_grants read w m (cmd.Drop k) idle = drop_grants m k (listener m k) idle
obey_grants read w m cmd.Status idle = λ way want e. absurd (still m.motion way want idle e)
obey_grants read w m cmd.Bye idle = λ way want e. absurd (still m.motion way want idle e)

outcome_grants : (read : Reader) (w : World) (m : Machine) (asked : Asked) → m.motion ≡ Idle → Grants (asked_outcome read w m asked)
outcome_grants read w m (Good request) idle = obey_grants read w m request.cmd idle
outcome_grants read w m (Bad text) idle = tt

answer_grants : (m : Machine) (id : Option ℕ) (o : Outcome) (way : Way) (want : Want) → m.motion ≡ Idle → Grants o → (answer_by m id o).after.motion ≡ Running way want → Runs (answer_by m id o).reply.body way
answer_grants m id (Refused refusal) way want idle h e = absurd (still m.motion way want idle e)
answer_grants m id (Accepted left granted) way want idle h e = h way want e

-- an idle machine that runs after its answer runs the way that the answer grants
pub way_is_granted : (read : Reader) (w : World) (m : Machine) (asked : Asked) (way : Way) (want : Want) → m.motion ≡ Idle → (answer_of read w m asked).after.motion ≡ Running way want → Runs (answer_of read w m asked).reply.body way
unfolding answer_of
way_is_granted read w m asked way want idle e =
    answer_grants (counted m) (asked_id asked) (asked_outcome read w (counted m) asked) way want idle (outcome_grants read w (counted m) asked idle) e
