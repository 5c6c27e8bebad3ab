-- The machine of a debugger over a world: its state, its turns, and its answers to requests.
use Rattle.std.specs.Prelude.{ℕ, zero, suc, ◌+◌, ◌-◌, ◌^◌, ◌==◌, not, min, Bool, true, false, List, [], ◌∷◌, ◌++◌, length, map, filter, Option, Some, None, Result, Ok, Err, option_map, is_some, slice_get, slice_index_or, set, nat_eq, nat_lt, unwrap_or, if◌then◌else◌}
use Rattle.std.specs.List.{list_any, enumerate_from}
use Rattle.bv_core.specs.Value.{Bits}
use Rattle.bv_core.specs.declared.reference.Sample.{Sample}
use Rattle.bv_core.specs.declared.reference.Sample.TheVariants as sample
use Rattle.exec_core.specs.Block.{Name}
use Rattle.design_core.specs.Design.{Gens}
use Rattle.gen_tree.specs.Tree.{Expr}
use Rattle.trace_core.specs.declared.scan.Way.{Way}
use Rattle.trace_core.specs.declared.scan.Way.TheVariants.{Forward, Backward}
use Rattle.trace_core.specs.declared.scan.Want.{Want}
use Rattle.trace_core.specs.declared.scan.Want.TheVariants.{Breakpoints, Step}
use Rattle.listen.specs.declared.note.StopNote.{StopNote}
use Rattle.listen.specs.Pairs.{Heard, after}
use Rattle.world_core.specs.World as world
use Rattle.world_core.specs.World.{World, Shows, path_in}
use Rattle.cond_lang.specs.Judged.{Refusal, judged}
use Rattle.machine_core.specs.declared.request.Cmd.{Cmd}
use Rattle.machine_core.specs.declared.request.Cmd.TheVariants as cmd
use Rattle.machine_core.specs.declared.request.Asked.{Asked}
use Rattle.machine_core.specs.declared.request.Asked.TheVariants.{Good, Bad}
use Rattle.machine_core.specs.declared.reply.Going.{Going}
use Rattle.machine_core.specs.declared.reply.Going.TheVariants as going
use Rattle.machine_core.specs.declared.reply.Shown.{Shown}
use Rattle.machine_core.specs.declared.reply.Shown.TheVariants as shown
use Rattle.machine_core.specs.declared.reply.Body.{Body}
use Rattle.machine_core.specs.declared.reply.Body.TheVariants as body
use Rattle.machine_core.specs.declared.reply.Reply.{Reply}
use Rattle.machine_core.specs.declared.turn.Motion.{Motion}
use Rattle.machine_core.specs.declared.turn.Motion.TheVariants.{Idle, Running}
use Rattle.machine_core.specs.declared.turn.Turned.{Turned}
use Rattle.machine_core.specs.declared.turn.Turned.TheVariants as turned
use Rattle.machine_core.specs.Positions.{position_count, cycle_at, slot_at, end_place, at_place, ahead, reach}
use Rattle.machine_core.specs.Reading.{Reader, Reading, Condition, NoCondition}
use Rattle.machine_core.specs.Matching.{Breakpoint, Watch, Awaited, value_there, matches, watches_at}
use Rattle.machine_core.specs.Search.{nearest_that}
use Rattle.machine_core.specs.Arming.{instance_named, breakpoint_on, watch_on, scope_at, refusal_at}

-- the state: the place where it stands, whether it runs, the breakpoints that are armed, the next number of a breakpoint, the watches
-- that are armed, the next number of a watch, how many requests there were, and what its listeners mean; one that was dropped means
-- nothing
pub record Machine : Type 0 where
  pub place : ℕ
  pub motion : Motion
  pub breakpoints : List Breakpoint
  pub next : ℕ
  pub watches : List Watch
  pub next_watch : ℕ
  pub ordinal : ℕ
  pub heard : List (Option Heard)

-- at the start, idle, with no breakpoint, no watch and these listeners
abbrev pub opening : List Heard → Machine
opening heard = record { place = 0; motion = Idle; breakpoints = []; next = 1; watches = []; next_watch = 1; ordinal = 0; heard = map (λ h. Some h) heard }

-- what it stops for where it runs
abbrev pub awaited_by : Machine → Awaited
awaited_by m = record { breakpoints = m.breakpoints; watches = m.watches }

-- ---- turns

pub record Turn : Type 0 where
  pub after : Machine
  pub turned : Turned

-- what is told of a stop at a position
abbrev pub line_at : World → ℕ → ℕ
line_at w k = unwrap_or (option_map (λ (s : Shows). s.line) (slice_get w.slots k)) 0

abbrev pub threads_at : World → ℕ → List ℕ
threads_at w p = w.threads (cycle_at w p) (slot_at w p)

abbrev pub note_at : World → List Watch → ℕ → StopNote
note_at w watches p = record {
  cycle = cycle_at w p;
  slot = slot_at w p;
  line = line_at w (slot_at w p);
  threads = length (threads_at w p);
  watches = length (watches_at w (cycle_at w p) (slot_at w p) watches);
}

-- a stop tells every listener that was not dropped
abbrev pub stopped_at : World → Machine → ℕ → Turn
stopped_at w m p = record {
  after = record m { place = p + 1; motion = Idle; heard = map (option_map (after (note_at w m.watches p))) m.heard };
  turned = turned.Stopped (note_at w m.watches p);
}

-- the end or the start
abbrev pub edge_turn : World → Way → Machine → Turn
edge_turn w Forward m = record { after = record m { place = end_place w; motion = Idle }; turned = turned.AtEnd }
edge_turn w Backward m = record { after = record m { place = 0; motion = Idle }; turned = turned.AtStart }

-- on by as many positions as a turn looks at
abbrev pub moved_turn : Way → Machine → Turn
moved_turn Forward m = record { after = record m { place = m.place + reach }; turned = turned.Moved }
moved_turn Backward m = record { after = record m { place = m.place - reach }; turned = turned.Moved }

-- where a turn comes to: the nearest match, if there is one within reach; else the end or the start, if fewer positions lie ahead
abbrev pub turn_to : World → Way → Machine → List ℕ → Option ℕ → Turn
turn_to w way m positions (Some p) = stopped_at w m p
turn_to w way m positions None = if nat_lt (length positions) reach then edge_turn w way m else moved_turn way m

abbrev pub running_turn : World → Machine → Way → Want → Turn
running_turn w m way want =
    turn_to w way m (ahead (position_count w) way m.place) (nearest_that (matches w (awaited_by m) want) (position_count w) way m.place)

-- one turn: none of an idle machine
abbrev pub turn_by : World → Machine → Motion → Turn
turn_by w m Idle = record { after = m; turned = turned.Idle }
turn_by w m (Running way want) = running_turn w m way want

unfoldable pub turn_of : World → Machine → Turn
turn_of w m = turn_by w m m.motion

-- ---- requests

-- a request is refused, and leaves all as it was; or it is accepted, and leaves this
pub data Outcome : Type 0 where
  Refused : Body → Outcome
  Accepted : Machine → Body → Outcome

-- what a request leads to where nothing refuses it
abbrev pub accepted_unless : {A : Type 0} → Result A Body → (A → Outcome) → Outcome
accepted_unless (Err refusal) f = Refused refusal
accepted_unless (Ok x) f = f x

-- ---- whether it runs

abbrev pub way_going : Way → Going
way_going Forward = going.Forward
way_going Backward = going.Backward

abbrev pub going_of : Motion → Going
going_of Idle = going.Idle
going_of (Running way want) = way_going way

abbrev pub is_running : Motion → Bool
is_running Idle = false
is_running (Running way want) = true

-- what needs an idle machine is refused while it runs
abbrev pub if_idle : Motion → Outcome → Outcome
if_idle Idle outcome = outcome
if_idle (Running way want) outcome = Refused (body.Busy (way_going way))

abbrev pub if_running : Motion → Outcome → Outcome
if_running Idle outcome = Refused body.NotRunning
if_running (Running way want) outcome = outcome

-- ---- breakpoints

abbrev pub armed_break : Machine → Breakpoint → Outcome
armed_break m b = Accepted (record m { breakpoints = m.breakpoints ++ b ∷ []; next = m.next + 1 }) (body.Break b.number b.slots)

abbrev pub has_number : ℕ → Breakpoint → Bool
has_number bp b = b.number == bp

abbrev pub delete : Machine → ℕ → Outcome
delete m bp =
    if list_any (has_number bp) m.breakpoints then Accepted (record m { breakpoints = filter (λ b. not (has_number bp b)) m.breakpoints }) body.Delete
    else Refused (body.NoBreakpoint bp)

-- ---- watches

abbrev pub armed_watch : Machine → Watch → Outcome
armed_watch m watch = Accepted (record m { watches = m.watches ++ watch ∷ []; next_watch = m.next_watch + 1 }) (body.Watch watch.slots watch.number)

abbrev pub is_watch : ℕ → Watch → Bool
is_watch wp watch = watch.number == wp

abbrev pub unwatch : Machine → ℕ → Outcome
unwatch m wp =
    if list_any (is_watch wp) m.watches then Accepted (record m { watches = filter (λ watch. not (is_watch wp watch)) m.watches }) body.Unwatch
    else Refused (body.NoWatch wp)

-- ---- steps

abbrev pub named_step : Machine → Way → Body → Name → Option ℕ → Outcome
named_step m way granted path None = Refused (body.NoInstance path)
named_step m way granted path (Some i) = Accepted (record m { motion = Running way (Step (Some i)) }) granted

abbrev pub step : World → Machine → Way → Body → Option Name → Outcome
step w m way granted None = Accepted (record m { motion = Running way (Step None) }) granted
step w m way granted (Some path) = named_step m way granted path (instance_named w path)

-- ---- at a stop

-- the position where it stands, if it stands at one
abbrev pub position_of : World → ℕ → Option ℕ
position_of w zero = None
position_of w (suc p) = if nat_lt p (position_count w) then Some p else None

-- the threads at a place; there are none at the start or the end
abbrev pub threads_of : World → ℕ → List ℕ
threads_of w zero = []
threads_of w (suc p) = threads_at w p

abbrev pub no_stop : World → Machine → Outcome
no_stop w m = Refused (body.NoStop (at_place w m.place))

abbrev pub if_stopped : World → Machine → Option ℕ → (ℕ → Outcome) → Outcome
if_stopped w m None f = no_stop w m
if_stopped w m (Some p) f = f p

abbrev pub at_stop : World → Machine → (ℕ → Outcome) → Outcome
at_stop w m f = if_idle m.motion (if_stopped w m (position_of w m.place) f)

-- the instance of a path, where it is a thread at the position
abbrev pub if_thread : World → Machine → ℕ → Option ℕ → (ℕ → Outcome) → Outcome
if_thread w m p None f = no_stop w m
if_thread w m p (Some i) f = if list_any (nat_eq i) (threads_at w p) then f i else no_stop w m

abbrev pub at_thread : World → Machine → Name → (ℕ → ℕ → Outcome) → Outcome
at_thread w m path f = at_stop w m (λ p. if_thread w m p (instance_named w path) (f p))

abbrev pub gens_at : World → ℕ → Gens
gens_at w k = unwrap_or (option_map (λ (s : Shows). s.gens) (slice_get w.slots k)) []

abbrev pub names_at : World → ℕ → List Name
names_at w k = unwrap_or (option_map (λ (s : Shows). s.names) (slice_get w.slots k)) []

-- the paths of the threads
abbrev pub thread_paths : World → ℕ → List Name
thread_paths w p = map (path_in w) (threads_at w p)

abbrev pub threads : World → Machine → ℕ → Outcome
threads w m p = Accepted m (body.Threads (at_place w m.place) (gens_at w (slot_at w p)) (line_at w (slot_at w p)) (thread_paths w p))

-- what is shown of a name
abbrev pub told : world.Shown → Shown
told (world.Value bits) = shown.Value bits
told world.Unknown = shown.Unknown
told world.Unset = shown.Unset
told world.Removed = shown.Removed

abbrev pub shown_there : World → (position instance : ℕ) → Name → Name × Shown
shown_there w p i x = (x, told (w.shown (cycle_at w p) (slot_at w p) i x))

-- what the names in scope at a place show in a thread
abbrev pub values_of : World → ℕ → ℕ → List (Name × Shown)
values_of w zero i = []
values_of w (suc p) i = map (shown_there w p i) (names_at w (slot_at w p))

abbrev pub values : World → Machine → (position instance : ℕ) → Outcome
values w m p i = Accepted m (body.Values (map (shown_there w p i) (names_at w (slot_at w p))))

-- the value of an expression
abbrev pub sample_of : Option Bits → Sample
sample_of (Some bits) = sample.Known bits
sample_of None = sample.Unknown

abbrev pub judged_value : World → Machine → (position instance : ℕ) → Expr → Result ℕ Refusal → Outcome
judged_value w m p i e (Err refusal) = Refused (refusal_at (slot_at w p) refusal)
judged_value w m p i e (Ok width) = Accepted m (body.Eval (sample_of (value_there w (cycle_at w p) (slot_at w p) i e)))

abbrev pub eval : World → Machine → (position instance : ℕ) → Reading → Outcome
eval w m p i (NoCondition offset) = Refused (body.BadCondAt offset)
eval w m p i (Condition e offsets) = judged_value w m p i e (judged (scope_at w (slot_at w p) i) e offsets)

-- ---- listeners

abbrev pub listener : Machine → ℕ → Option Heard
listener m k = slice_index_or m.heard k None

abbrev pub drop_listener : Machine → ℕ → Option Heard → Outcome
drop_listener m k None = Refused (body.NoListener k)
drop_listener m k (Some heard) = Accepted (record m { heard = set m.heard k None }) (body.Drop heard.pairs)

-- the numbers of those that remain
abbrev pub remaining : List (Option Heard) → List ℕ
remaining heard = map (λ h. h.0) (filter (λ h. is_some h.1) (enumerate_from 0 heard))

-- ---- each request

abbrev pub obey : Reader → World → Machine → Cmd → Outcome
obey read w m (cmd.Break line path text) = accepted_unless (breakpoint_on read w (length m.breakpoints) m.next line path text) (armed_break m)
obey read w m (cmd.Delete bp) = delete m bp
obey read w m (cmd.Watch line path text) = accepted_unless (watch_on read w (length m.watches) m.next_watch line path text) (armed_watch m)
obey read w m (cmd.Unwatch wp) = unwatch m wp
obey read w m cmd.Continue = if_idle m.motion (Accepted (record m { motion = Running Forward Breakpoints }) body.Continue)
obey read w m cmd.Reverse = if_idle m.motion (Accepted (record m { motion = Running Backward Breakpoints }) body.Reverse)
obey read w m (cmd.Step path) = if_idle m.motion (step w m Forward body.Step path)
obey read w m (cmd.Back path) = if_idle m.motion (step w m Backward body.Back path)
obey read w m cmd.Pause = if_running m.motion (Accepted (record m { motion = Idle }) (body.Pause (at_place w m.place)))
obey read w m cmd.Threads = at_stop w m (threads w m)
obey read w m (cmd.Values path) = at_thread w m path (values w m)
obey read w m (cmd.Eval path text) = at_thread w m path (λ p i. eval w m p i (read text))
obey read w m (cmd.Drop k) = drop_listener m k (listener m k)
obey read w m cmd.Status =
    Accepted m (body.Status (at_place w m.place) (map (λ (b : Breakpoint). b.number) m.breakpoints) (remaining m.heard) (going_of m.motion))
obey read w m cmd.Bye = Accepted m body.Bye

-- a text that is no request
abbrev pub text_refusal : ℕ → Option (List ℕ) → Body
text_refusal code field =
    if code == 1 then body.TooLong else if code == 2 then body.NotJson else if code == 3 then body.BadShape (unwrap_or field []) else body.UnknownCmd

abbrev pub asked_outcome : Reader → World → Machine → Asked → Outcome
asked_outcome read w m (Good request) = obey read w m request.cmd
asked_outcome read w m (Bad text) = Refused (text_refusal text.code text.field)

abbrev pub asked_id : Asked → Option ℕ
asked_id (Good request) = request.id
asked_id (Bad text) = text.id

-- the answer to a request, and what it leaves
pub record Answer : Type 0 where
  pub after : Machine
  pub reply : Reply

abbrev pub answer_by : Machine → Option ℕ → Outcome → Answer
answer_by m id (Refused refusal) = record { after = m; reply = record { seq = m.ordinal; id = id; body = refusal } }
answer_by m id (Accepted left granted) = record { after = left; reply = record { seq = m.ordinal; id = id; body = granted } }

-- each raises the ordinal by one, to the last number at most
abbrev pub counted : Machine → Machine
counted m = record m { ordinal = min (m.ordinal + 1) (2 ^ 64 - 1) }

unfoldable pub answer_of : Reader → World → Machine → Asked → Answer
answer_of read w m asked = answer_by (counted m) (asked_id asked) (asked_outcome read w (counted m) asked)
