-- What the answer to a request rests on, part by part, and what it leaves.
use Rattle.std.specs.Prelude.{ℕ, ◌+◌, ◌-◌, List, [], ◌∷◌, ◌++◌, map, Option, Some, None, Result, Ok, Err, nat_eq, set, if◌then◌else◌}
use Rattle.std.specs.List.{list_any}
use Rattle.listen.specs.Pairs.{Heard}
use Rattle.exec_core.specs.Block.{Name}
use Rattle.gen_tree.specs.Tree.{Expr}
use Rattle.trace_core.specs.declared.scan.Way.{Way}
use Rattle.trace_core.specs.declared.scan.Way.TheVariants.{Forward, Backward}
use Rattle.world_core.specs.World.{World}
use Rattle.cond_lang.specs.Judged.{Refusal, judged}
use Rattle.machine_core.specs.declared.reply.Body.{Body}
use Rattle.machine_core.specs.declared.reply.Body.TheVariants as body
use Rattle.machine_core.specs.declared.turn.Motion.{Motion}
use Rattle.machine_core.specs.declared.turn.Motion.TheVariants.{Idle, Running}
use Rattle.machine_core.specs.Positions.{cycle_at, slot_at, at_place}
use Rattle.machine_core.specs.Reading.{Reading, Condition, NoCondition}
use Rattle.machine_core.specs.Matching.{Breakpoint, Watch, value_there}
use Rattle.machine_core.specs.Arming.{instance_named, scope_at, refusal_at}
use Rattle.machine_core.specs.declared.reply.Reply.{Reply}
use Rattle.machine_core.specs.Journal.{Replied, Ran, behind, after_answer}
use Rattle.machine_core.specs.Machine.{Machine, Answer, way_going, position_of, line_at, threads_at, gens_at, names_at, thread_paths, shown_there, sample_of}

-- a machine that answers with this
abbrev pub answered : Machine → Option ℕ → Body → Answer
answered m id told = record { after = m; reply = record { seq = m.ordinal; id = id; body = told } }

-- ---- turns

-- how many of so many positions lie ahead of a place
abbrev pub left_ahead : ℕ → Way → ℕ → ℕ
left_ahead total Forward place = total - place
left_ahead total Backward place = place - 1

-- a reply, and what is told of the turns behind it, until the machine is idle; the last reply alone
abbrev pub followed : World → Reply → Machine → Ran
followed w reply m = behind (Replied reply ∷ []) (after_answer w (record { after = m; reply = reply }) (λ left. record { after = left; lines = [] }))

-- ---- where it stands

-- what is refused while it runs
abbrev pub busy : Motion → Option Body
busy Idle = None
busy (Running way want) = Some (body.Busy (way_going way))

-- the position at which it stands, idle; or why it stands at none
abbrev pub stand_at : World → ℕ → Option ℕ → Result ℕ Body
stand_at w place None = Err (body.NoStop (at_place w place))
stand_at w place (Some p) = Ok p

abbrev pub unless : Option Body → Result ℕ Body → Result ℕ Body
unless None found = found
unless (Some refusal) found = Err refusal

abbrev pub stand : World → Motion → ℕ → Result ℕ Body
stand w motion place = unless (busy motion) (stand_at w place (position_of w place))

-- the position, and the instance of a path, if it is a thread there
abbrev pub thread_there : World → (place position : ℕ) → Option ℕ → Result (ℕ × ℕ) Body
thread_there w place p None = Err (body.NoStop (at_place w place))
thread_there w place p (Some i) = if list_any (nat_eq i) (threads_at w p) then Ok (p, i) else Err (body.NoStop (at_place w place))

abbrev pub thread_from : World → ℕ → Option ℕ → Result ℕ Body → Result (ℕ × ℕ) Body
thread_from w place named (Ok p) = thread_there w place p named
thread_from w place named (Err refusal) = Err refusal

abbrev pub thread_of : World → Motion → ℕ → Name → Result (ℕ × ℕ) Body
thread_of w motion place path = thread_from w place (instance_named w path) (stand w motion place)

-- ---- what is told there

-- what is told of what was found, or why it was not
abbrev pub told_of : {A : Type 0} → (A → Body) → Result A Body → Body
told_of f (Ok x) = f x
told_of f (Err refusal) = refusal

abbrev pub threads_body : World → (place position : ℕ) → Body
threads_body w place p = body.Threads (at_place w place) (gens_at w (slot_at w p)) (line_at w (slot_at w p)) (thread_paths w p)

abbrev pub values_body : World → ℕ × ℕ → Body
values_body w at = body.Values (map (shown_there w at.0 at.1) (names_at w (slot_at w at.0)))

-- the value of an expression in a thread, or why it has none
abbrev pub judged_body : World → (cycle slot instance : ℕ) → Expr → Result ℕ Refusal → Body
judged_body w t k i e (Err refusal) = refusal_at k refusal
judged_body w t k i e (Ok width) = body.Eval (sample_of (value_there w t k i e))

abbrev pub read_body : World → (cycle slot instance : ℕ) → Reading → Body
read_body w t k i (NoCondition offset) = body.BadCondAt offset
read_body w t k i (Condition e offsets) = judged_body w t k i e (judged (scope_at w k i) e offsets)

abbrev pub eval_body : World → Reading → ℕ × ℕ → Body
eval_body w reading at = read_body w (cycle_at w at.0) (slot_at w at.0) at.1 reading

-- ---- what is granted to one that runs

abbrev pub run_granted : Way → Body
run_granted Forward = body.Continue
run_granted Backward = body.Reverse

abbrev pub step_granted : Way → Body
step_granted Forward = body.Step
step_granted Backward = body.Back

-- ---- breakpoints and listeners

-- the breakpoints, the next number and the answer, where one was to be armed
abbrev pub broken : Result Breakpoint Body → List Breakpoint → ℕ → List Breakpoint × ℕ × Body
broken (Ok b) old next = (old ++ b ∷ [], next + 1, body.Break b.number b.slots)
broken (Err refusal) old next = (old, next, refusal)

-- the watches, the next number and the answer, where one was to be armed
abbrev pub watched : Result Watch Body → List Watch → ℕ → List Watch × ℕ × Body
watched (Ok watch) old next = (old ++ watch ∷ [], next + 1, body.Watch watch.slots watch.number)
watched (Err refusal) old next = (old, next, refusal)

-- what listeners mean, and the answer, where one of them was to be dropped
abbrev pub dropped : List (Option Heard) → ℕ → Option Heard → List (Option Heard) × Body
dropped heard k None = (heard, body.NoListener k)
dropped heard k (Some one) = (set heard k None, body.Drop one.pairs)
