-- What fails changes nothing: no request that is refused does, and of those that are granted the ones that fail ask only what is shown.
use Rattle.std.proofs.Common.{◌≡◌, ◌≢◌, ℕ, Bool, true, false, List, Option, Some, None, refl, ap, ◌∙◌}
use Rattle.std.specs.Prelude.{nat_eq, nat_le, Ok, Err, if◌then◌else◌}
use Rattle.std.specs.List.{list_any}
use Rattle.exec_core.specs.Block.{Name}
use Rattle.world_core.specs.World.{World}
use Rattle.machine_core.specs.declared.request.Cmd.TheVariants as cmd
use Rattle.machine_core.specs.declared.reply.Body.{Body}
use Rattle.machine_core.specs.declared.reply.Body.TheVariants as body
use Rattle.machine_core.specs.declared.turn.Motion.{Motion}
use Rattle.machine_core.specs.declared.turn.Motion.TheVariants.{Idle, Running}
use Rattle.machine_core.specs.Arming.{instance_named}
use Rattle.machine_core.specs.Positions.{at_place}
use Rattle.machine_core.specs.Reading.{Reader, Reading, Condition, NoCondition}
use Rattle.machine_core.specs.Machine.{Machine, Outcome, Refused, Accepted, answer_by, answer_of, at_stop, at_thread, counted, eval, if_idle, if_running, if_stopped, if_thread, judged_value, position_of, threads_at, threads, values}
use Rattle.dap_text.specs.declared.message.EditorCmd.{EditorCmd}
use Rattle.dap_text.specs.declared.message.EditorCmd.TheVariants as asks
use Rattle.dap_text.specs.declared.payload.Payload.{Payload}
use Rattle.dap_text.specs.declared.payload.Payload.TheVariants as payload
use Rattle.dap_text.specs.declared.payload.Reason.{Reason}
use Rattle.dap_text.specs.declared.payload.Reason.TheVariants.{Breakpoint, Step}
use Rattle.dap_link.specs.Conversation.{Conversation, Led, asked_so, granted_by, if_named, keeping, led_by, looked_by, most_signals, path_named, quietly, refusal_name, run_by, runs_unless, told_by, unheard}
use Rattle.dap_link.specs.Answers.{FailedChangeNothing, IsUnchanged, uncounted}

-- ---- requests that ask what is shown leave all as it was

-- the machine that an outcome leaves
abbrev left_by : Machine → Outcome → Machine
left_by m (Refused refusal) = m
left_by m (Accepted left granted) = left

answer_left : (m : Machine) (id : Option ℕ) (o : Outcome) → (answer_by m id o).after ≡ left_by m o
answer_left m id (Refused refusal) = refl
answer_left m id (Accepted left granted) = refl

idle_keeps : (m : Machine) (motion : Motion) (o : Outcome) → left_by m o ≡ m → left_by m (if_idle motion o) ≡ m
idle_keeps m Idle o e = e
idle_keeps m (Running way want) o e = refl

stop_keeps : (w : World) (m : Machine) (at : Option ℕ) (f : ℕ → Outcome) → ((p : ℕ) → left_by m (f p) ≡ m) → left_by m (if_stopped w m at f) ≡ m
stop_keeps w m None f e = refl
stop_keeps w m (Some p) f e = e p

test_keeps : (m : Machine) (b : Bool) (o p : Outcome) → left_by m o ≡ m → left_by m p ≡ m → left_by m (if b then o else p) ≡ m
test_keeps m true o p e f = e
test_keeps m false o p e f = f

thread_keeps : (w : World) (m : Machine) (p : ℕ) (instance : Option ℕ) (f : ℕ → Outcome) → ((i : ℕ) → left_by m (f i) ≡ m) → left_by m (if_thread w m p instance f) ≡ m
thread_keeps w m p None f e = refl
thread_keeps w m p (Some i) f e = test_keeps m (list_any (nat_eq i) (threads_at w p)) (f i) _ (e i) refl

at_stop_keeps : (w : World) (m : Machine) (f : ℕ → Outcome) → ((p : ℕ) → left_by m (f p) ≡ m) → left_by m (at_stop w m f) ≡ m
at_stop_keeps w m f e = idle_keeps m m.motion (if_stopped w m (position_of w m.place) f) (stop_keeps w m (position_of w m.place) f e)

at_thread_keeps : (w : World) (m : Machine) (path : Name) (f : ℕ → ℕ → Outcome) → ((p i : ℕ) → left_by m (f p i) ≡ m) → left_by m (at_thread w m path f) ≡ m
at_thread_keeps w m path f e =
    at_stop_keeps w m (λ p. if_thread w m p (instance_named w path) (f p)) (λ p. thread_keeps w m p (instance_named w path) (f p) (e p))

judged_keeps : (w : World) (m : Machine) (p i : ℕ) (e : _) (width : _) → left_by m (judged_value w m p i e width) ≡ m
judged_keeps w m p i e (Err refusal) = refl
judged_keeps w m p i e (Ok width) = refl

eval_keeps : (w : World) (m : Machine) (p i : ℕ) (reading : Reading) → left_by m (eval w m p i reading) ≡ m
eval_keeps w m p i (NoCondition offset) = refl
eval_keeps w m p i (Condition e offsets) = judged_keeps w m p i e _

module _ (read : Reader) (w : World) (m : Machine) where
  threads_keep : (asked_so read w m cmd.Threads).0 ≡ unheard (counted m)
  unfolding answer_of
  threads_keep =
      let c = counted m in
      ap unheard (answer_left c None (at_stop w c (threads w c)) ∙ at_stop_keeps w c (threads w c) (λ p. refl))

  values_keep : (path : Name) → (asked_so read w m (cmd.Values path)).0 ≡ unheard (counted m)
  unfolding answer_of
  values_keep path =
      let c = counted m in
      ap unheard (answer_left c None (at_thread w c path (values w c)) ∙ at_thread_keeps w c path (values w c) (λ p i. refl))

  eval_keep : (path : Name) (text : List ℕ) → (asked_so read w m (cmd.Eval path text)).0 ≡ unheard (counted m)
  unfolding answer_of
  eval_keep path text =
      let c = counted m in
      ap unheard
      (answer_left c None (at_thread w c path (λ p i. eval w c p i (read text)))
      ∙ at_thread_keeps w c path (λ p i. eval w c p i (read text)) (λ p i. eval_keeps w c p i (read text)))

-- ---- what a command leads to

-- all but the count is as it was, and nothing happened
record Kept (m : Machine) (led : Led) : Type 0 where
  machine : uncounted led.after ≡ uncounted m
  happened : led.happened ≡ None

kept_quietly : (m n : Machine) (told : Payload) → n ≡ unheard (counted m) → Kept m (quietly n told)
kept_quietly m n told e = record { machine = ap uncounted e; happened = refl }

-- a run that was granted tells no failure
run_granted : (w : World) (why : Reason) (told : Payload) (m : Machine) (name : List ℕ) (refusal : Option (List ℕ)) → told ≢ payload.Failed name → refusal ≡ None
    → (runs_unless w why told m refusal).told ≡ payload.Failed name → ⊥
run_granted w why told m name None apart e f = apart f
run_granted w why told m name (Some other) apart e f = absurd (let bad : Some other ≡ None = e in cc)

run_kept : (w : World) (why : Reason) (told : Payload) (motion : Motion) (m left : Machine) (granted : Body) (name : List ℕ) → told ≢ payload.Failed name → refusal_name granted ≡ None
    → (run_by w why told (told_by (answer_by (counted m) None (if_idle motion (Accepted left granted))))).told ≡ payload.Failed name
    → Kept m (run_by w why told (told_by (answer_by (counted m) None (if_idle motion (Accepted left granted)))))
run_kept w why told Idle m left granted name apart e f = absurd (run_granted w why told (unheard left) name (refusal_name granted) apart e f)
run_kept w why told (Running way want) m left granted name apart e f = record { machine = refl; happened = refl }

empty_apart : (name : List ℕ) → payload.Empty ≢ payload.Failed name
empty_apart name = λ (e : payload.Empty ≡ payload.Failed name). cc

continued_apart : (name : List ℕ) → payload.Continued ≢ payload.Failed name
continued_apart name = λ (e : payload.Continued ≡ payload.Failed name). cc

pause_kept : (w : World) (motion : Motion) (m left : Machine) (name : List ℕ)
    → (granted_by payload.Empty (told_by (answer_by (counted m) None (if_running motion (Accepted left (body.Pause (at_place w m.place))))))).told ≡ payload.Failed name
    → Kept m (granted_by payload.Empty (told_by (answer_by (counted m) None (if_running motion (Accepted left (body.Pause (at_place w m.place)))))))
pause_kept w Idle m left name f = record { machine = refl; happened = refl }
pause_kept w (Running way want) m left name f = absurd (empty_apart name f)

test_kept : (m : Machine) (b : Bool) (x y : Led) → Kept m x → Kept m y → Kept m (if b then x else y)
test_kept m true x y kx ky = kx
test_kept m false x y kx ky = ky

named_kept : (m : Machine) (path : Option Name) (look : Name → Led) → ((p : Name) → Kept m (look p)) → Kept m (if_named m path look)
named_kept m None look kept = record { machine = refl; happened = refl }
named_kept m (Some path) look kept = kept path

module _ (read : Reader) (w : World) (names : List (List ℕ)) where
  led_kept : (m : Machine) (asked : EditorCmd) (name : List ℕ) → (led_by read w names m asked).told ≡ payload.Failed name → Kept m (led_by read w names m asked)
  unfolding answer_of
  led_kept m asks.Initialize name f = absurd (let bad : payload.Abilities ≡ payload.Failed name = f in cc)
  led_kept m asks.Launch name f = record { machine = refl; happened = refl }
  led_kept m (asks.SetBreakpoints path lines) name f = record { machine = refl; happened = refl }
  led_kept m asks.ConfigurationDone name f = run_kept w Breakpoint payload.Empty m.motion m _ body.Continue name (empty_apart name) refl f
  led_kept m asks.Continue name f = run_kept w Breakpoint payload.Continued m.motion m _ body.Continue name (continued_apart name) refl f
  led_kept m asks.ReverseContinue name f = run_kept w Breakpoint payload.Empty m.motion m _ body.Reverse name (empty_apart name) refl f
  led_kept m asks.Step name f = run_kept w Step payload.Empty m.motion m _ body.Step name (empty_apart name) refl f
  led_kept m asks.StepBack name f = run_kept w Step payload.Empty m.motion m _ body.Back name (empty_apart name) refl f
  led_kept m asks.Pause name f = pause_kept w m.motion m _ name f
  led_kept m asks.Threads name f = kept_quietly m _ _ (threads_keep read w m)
  led_kept m (asks.StackTrace thread) name f = kept_quietly m _ _ (threads_keep read w m)
  led_kept m (asks.Scopes frame) name f = record { machine = refl; happened = refl }
  led_kept m (asks.Variables n) name f =
      test_kept m (nat_le n most_signals) _ _
      (named_kept m (path_named w.paths n) (λ path. looked_by (asked_so read w m (cmd.Values path))) (λ path. kept_quietly m _ _ (values_keep read w m path)))
      (kept_quietly m _ _ (threads_keep read w m))
  led_kept m (asks.Evaluate expression frame) name f =
      named_kept m (path_named w.paths frame) (λ path. looked_by (asked_so read w m (cmd.Eval path expression))) (λ path. kept_quietly m _ _ (eval_keep read w m path expression))
  led_kept m asks.Disconnect name f = record { machine = refl; happened = refl }
  led_kept m asks.BadShape name f = record { machine = refl; happened = refl }
  led_kept m asks.UnknownCmd name f = record { machine = refl; happened = refl }

  keeps : (c : Conversation) (asked : EditorCmd) (name : List ℕ) → (led_by read w names c.machine asked).told ≡ payload.Failed name
      → IsUnchanged c (keeping c.set (led_by read w names c.machine asked))
  keeps c asked name f =
      let k = led_kept c.machine asked name f in
      record { machine = k.machine; set = refl; happened = k.happened }

-- but for the setting of breakpoints, which never fails, a command leads to what the table says
pub failed_change_nothing : FailedChangeNothing
failed_change_nothing read w names c asks.Initialize name f = keeps read w names c asks.Initialize name f
failed_change_nothing read w names c asks.Launch name f = keeps read w names c asks.Launch name f
failed_change_nothing read w names c (asks.SetBreakpoints path lines) name f = absurd (let bad : payload.Breakpoints _ ≡ payload.Failed name = f in cc)
failed_change_nothing read w names c asks.ConfigurationDone name f = keeps read w names c asks.ConfigurationDone name f
failed_change_nothing read w names c asks.Continue name f = keeps read w names c asks.Continue name f
failed_change_nothing read w names c asks.ReverseContinue name f = keeps read w names c asks.ReverseContinue name f
failed_change_nothing read w names c asks.Step name f = keeps read w names c asks.Step name f
failed_change_nothing read w names c asks.StepBack name f = keeps read w names c asks.StepBack name f
failed_change_nothing read w names c asks.Pause name f = keeps read w names c asks.Pause name f
failed_change_nothing read w names c asks.Threads name f = keeps read w names c asks.Threads name f
failed_change_nothing read w names c (asks.StackTrace thread) name f = keeps read w names c (asks.StackTrace thread) name f
failed_change_nothing read w names c (asks.Scopes frame) name f = keeps read w names c (asks.Scopes frame) name f
failed_change_nothing read w names c (asks.Variables n) name f = keeps read w names c (asks.Variables n) name f
failed_change_nothing read w names c (asks.Evaluate expression frame) name f = keeps read w names c (asks.Evaluate expression frame) name f
failed_change_nothing read w names c asks.Disconnect name f = keeps read w names c asks.Disconnect name f
failed_change_nothing read w names c asks.BadShape name f = keeps read w names c asks.BadShape name f
failed_change_nothing read w names c asks.UnknownCmd name f = keeps read w names c asks.UnknownCmd name f
