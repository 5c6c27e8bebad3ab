-- The conversation with an editor: which requests of a session its messages give, in which order, and what is told of what they lead to. All
-- of it is about the machine of a debugger over a world; nothing here knows how a session is kept.
use Rattle.std.specs.Prelude.{ℕ, ◌+◌, ◌-◌, ◌^◌, ◌&&◌, ◌==◌, not, min, Bool, true, false, List, [], ◌∷◌, ◌++◌, length, map, filter, drop, Option, Some, None, option_map, slice_get, slice_index_or, bytes_eq, codes, nat_le, nat_lt, unwrap_or, ℤ, if◌then◌else◌}
use Rattle.std.specs.List.{list_any, position, suffix_len}
use Rattle.std.specs.Str.{is_utf8}
use Rattle.places.specs.Places.{file_of, line_in, place}
use Rattle.exec_core.specs.Block.{Name}
use Rattle.world_core.specs.World.{World}
use Rattle.machine_core.specs.declared.request.Asked.TheVariants.{Good}
use Rattle.machine_core.specs.declared.request.Cmd.{Cmd}
use Rattle.machine_core.specs.declared.request.Cmd.TheVariants as cmd
use Rattle.machine_core.specs.declared.reply.Body.{Body}
use Rattle.machine_core.specs.declared.reply.Body.TheVariants as body
use Rattle.machine_core.specs.declared.turn.Notice.{Notice}
use Rattle.machine_core.specs.declared.turn.Notice.TheVariants as notice
use Rattle.machine_core.specs.Reading.{Reader}
use Rattle.machine_core.specs.Machine.{Machine, Answer, answer_of, threads_of}
use Rattle.machine_core.specs.Journal.{Line, Replied, Noticed, Ran, until_idle}
use Rattle.symtab_json.specs.Entries.{kept_if}
use Rattle.req_json.specs.Replies.{body_refusal}
use Rattle.dap_text.specs.declared.message.Message.{Message}
use Rattle.dap_text.specs.declared.message.EditorCmd.{EditorCmd}
use Rattle.dap_text.specs.declared.message.EditorCmd.TheVariants as asks
use Rattle.dap_text.specs.declared.message.LineAsked.{LineAsked}
use Rattle.dap_text.specs.declared.payload.LineSet.{LineSet}
use Rattle.dap_text.specs.declared.payload.LineSet.TheVariants.{Verified, Unverified}
use Rattle.dap_text.specs.declared.payload.Payload.{Payload}
use Rattle.dap_text.specs.declared.payload.Payload.TheVariants as payload
use Rattle.dap_text.specs.declared.payload.Reason.{Reason}
use Rattle.dap_text.specs.declared.payload.Reason.TheVariants.{Breakpoint, Step}
use Rattle.dap_text.specs.declared.payload.Happening.{Happening}
use Rattle.dap_text.specs.declared.payload.Happening.TheVariants as happening
use Rattle.dap_text.specs.Messages.{told_message}
use Rattle.dap_text.specs.Texts.{event_text, response_text}

-- ---- requests of the session

-- no listener hears of a conversation
abbrev pub unheard : Machine → Machine
unheard m = record m { heard = [] }

-- what a request leaves, and what is answered to it
abbrev pub told_by : Answer → Machine × Body
told_by answer = (unheard answer.after, answer.reply.body)

abbrev pub asked_so : Reader → World → Machine → Cmd → Machine × Body
asked_so read w m c = told_by (answer_of read w m (Good (record { id = None; cmd = c })))

-- the name of a refusal
abbrev pub refusal_name : Body → Option (List ℕ)
refusal_name b = option_map (λ refusal. refusal.1) (body_refusal b)

-- what is told where a request was refused, and where it was not
abbrev pub failed_or : Payload → Option (List ℕ) → Payload
failed_or told None = told
failed_or told (Some name) = payload.Failed name

abbrev pub unless_refused : Payload → Body → Payload
unless_refused told b = failed_or told (refusal_name b)

abbrev pub no_stop : Payload
no_stop = payload.Failed (codes "NoStop")

-- ---- instances: an editor knows them by numbers from 1

-- the path of an instance, from 0; and that of the instance of a number, if a request can name it: requests are UTF-8
abbrev pub path_at : List Name → ℕ → Name
path_at paths i = slice_index_or paths i (codes "")

abbrev pub path_named : List Name → ℕ → Option Name
path_named paths n = if n == 0 then None else kept_if is_utf8 (slice_get paths (n - 1))

abbrev pub is_instance : List Name → ℕ → Bool
is_instance paths n = nat_le 1 n && nat_le n (length paths)

-- whether the instance of a number is a thread where the machine stands
abbrev pub has_id : ℕ → ℕ → Bool
has_id n i = i + 1 == n

abbrev pub is_thread : World → Machine → ℕ → Bool
is_thread w m n = list_any (has_id n) (threads_of w m.place)

-- ---- what a command leads to: the machine that it leaves, what is answered, and what is told behind that

pub record Led : Type 0 where
  pub after : Machine
  pub told : Payload
  pub happened : Option Happening

abbrev pub quietly : Machine → Payload → Led
quietly m told = record { after = m; told = told; happened = None }

-- a request, whatever is answered, unless it is refused
abbrev pub granted_by : Payload → Machine × Body → Led
granted_by told answer = quietly answer.0 (unless_refused told answer.1)

-- ---- runs: a request that starts one, and turns until the machine is idle

-- the number of the first thread
abbrev pub first_id : List ℕ → ℕ
first_id [] = 0
first_id (i ∷ threads) = i + 1

-- what is told of where the machine has come to, whose first thread has this number
abbrev pub notice_happening : Reason → ℕ → Notice → Option Happening
notice_happening why first (notice.Stopped note gens paths watches) = Some (happening.Stopped why first)
notice_happening why first notice.Ended = Some happening.Ended
notice_happening why first notice.Start = Some happening.Started
notice_happening why first (notice.Rows k rows) = None

abbrev pub line_happening : Reason → ℕ → Line → Option Happening
line_happening why first (Replied reply) = None
line_happening why first (Noticed n) = notice_happening why first n

abbrev pub lines_happening : Reason → ℕ → List Line → Option Happening
lines_happening why first [] = None
lines_happening why first (line ∷ lines) = line_happening why first line

abbrev pub ran_to : World → Reason → Payload → Ran → Led
ran_to w why told ran =
    record { after = unheard ran.after; told = told; happened = lines_happening why (first_id (threads_of w ran.after.place)) ran.lines }

abbrev pub runs_unless : World → Reason → Payload → Machine → Option (List ℕ) → Led
runs_unless w why told m None = ran_to w why told (until_idle w m)
runs_unless w why told m (Some name) = quietly m (payload.Failed name)

abbrev pub run_by : World → Reason → Payload → Machine × Body → Led
run_by w why told answer = runs_unless w why told answer.0 (refusal_name answer.1)

-- some runs are told that all threads went on
abbrev pub run_payload : Bool → Payload
run_payload true = payload.Continued
run_payload false = payload.Empty

-- ---- what is looked at where the machine stands

-- its threads, each with its number and its path; none where it stands at no stop
abbrev pub thread_row : List Name → ℕ → ℕ × Name
thread_row paths i = (i + 1, path_at paths i)

abbrev pub thread_rows : World → Machine → List (ℕ × Name)
thread_rows w m = map (thread_row w.paths) (threads_of w m.place)

abbrev pub threads_by : World → Machine × Body → Led
threads_by w answer = quietly answer.0 (payload.Threads (thread_rows w answer.0))

-- where a thread stands: its place, of these files
abbrev pub file_name_of : List (List ℕ) → ℕ → List ℕ
file_name_of names at = slice_index_or names (file_of at) (codes "")

abbrev pub frame_at : List Name → List (List ℕ) → ℕ → ℕ → Payload
frame_at paths names n at = payload.StackFrame n (line_in at) (path_at paths (n - 1)) (file_name_of names at)

-- the place that an answer tells
abbrev pub place_told : Body → Option ℕ
place_told (body.Threads at gens line threads) = Some line
place_told other = None

abbrev pub frame_if : List Name → List (List ℕ) → ℕ → Bool → Option ℕ → Payload
frame_if paths names n true (Some at) = frame_at paths names n at
frame_if paths names n true None = no_stop
frame_if paths names n false place = no_stop

abbrev pub stack_by : World → List (List ℕ) → ℕ → Machine × Body → Led
stack_by w names n answer = quietly answer.0 (frame_if w.paths names n (is_thread w answer.0 n) (place_told answer.1))

-- the references of generator variables lie so far beyond those of signals
abbrev pub most_signals : ℕ
most_signals = 8192

abbrev pub scopes_told : List Name → ℕ → Payload
scopes_told paths n = if is_instance paths n then payload.Scopes n (n + most_signals) else no_stop

-- the generator variables that an answer tells, of a thread
abbrev pub gens_told : Body → Option (List (Name × ℤ))
gens_told (body.Threads at gens line threads) = Some gens
gens_told other = None

abbrev pub gens_if : Bool → Option (List (Name × ℤ)) → Payload
gens_if true (Some gens) = payload.GenVariables gens
gens_if true None = no_stop
gens_if false gens = no_stop

abbrev pub gens_by : World → ℕ → Machine × Body → Led
gens_by w n answer = quietly answer.0 (gens_if (is_thread w answer.0 n) (gens_told answer.1))

-- what an answer tells of a thread
abbrev pub looked_at : Body → Payload
looked_at (body.Values values) = payload.Signals values
looked_at (body.Eval value) = payload.Result value
looked_at other = unless_refused payload.Empty other

abbrev pub looked_by : Machine × Body → Led
looked_by answer = quietly answer.0 (looked_at answer.1)

-- of the instance that was named
abbrev pub if_named : Machine → Option Name → (Name → Led) → Led
if_named m None look = quietly m no_stop
if_named m (Some path) look = look path

abbrev pub variables_of : Reader → World → Machine → ℕ → Led
variables_of read w m n =
    if nat_le n most_signals then if_named m (path_named w.paths n) (λ path. looked_by (asked_so read w m (cmd.Values path)))
    else gens_by w (n - most_signals) (asked_so read w m cmd.Threads)

abbrev pub evaluated : Reader → World → Machine → List ℕ → ℕ → Led
evaluated read w m expression n = if_named m (path_named w.paths n) (λ path. looked_by (asked_so read w m (cmd.Eval path expression)))

-- ---- breakpoints

-- the breakpoints that were set for an editor, each with the number of its file, in the order in which they were set
abbrev pub Set : Type 0
Set = List (ℕ × ℕ)

abbrev pub is_in_file : ℕ → ℕ × ℕ → Bool
is_in_file file b = b.0 == file

-- the file of a path is the one of the name behind its last slash; a design has at most 64 files
abbrev pub is_no_slash : ℕ → Bool
is_no_slash byte = not (byte == 47)

abbrev pub last_part : List ℕ → List ℕ
last_part path = drop (length path - suffix_len is_no_slash path) path

abbrev pub is_file : ℕ → Bool
is_file file = nat_lt file 64

abbrev pub file_named : List (List ℕ) → List ℕ → Option ℕ
file_named names path = kept_if is_file (position (bytes_eq (last_part path)) names)

-- what was set so far in a file: the machine and the breakpoints that are left, and what became of each line
pub record Setting : Type 0 where
  pub after : Machine
  pub set : Set
  pub lines : List LineSet

abbrev pub setting : Machine → Set → List LineSet → Setting
setting m set lines = record { after = m; set = set; lines = lines }

-- those that were set in the file are deleted, in the order in which they were set
abbrev pub deleted_if : Bool → Reader → World → ℕ → Machine → Machine
deleted_if true read w bp m = (asked_so read w m (cmd.Delete bp)).0
deleted_if false read w bp m = m

abbrev pub delete_each : Reader → World → ℕ → Set → Machine → Machine
delete_each read w file [] m = m
delete_each read w file (b ∷ set) m = delete_each read w file set (deleted_if (is_in_file file b) read w b.1 m)

abbrev pub is_elsewhere : ℕ → ℕ × ℕ → Bool
is_elsewhere file b = not (is_in_file file b)

abbrev pub cleared : Reader → World → ℕ → Machine → Set → Setting
cleared read w file m set = record { after = delete_each read w file set m; set = filter (is_elsewhere file) set; lines = [] }

-- then each line is asked for: what became of it, by the answer
abbrev pub line_told : ℕ → ℕ → Machine → Set → List LineSet → Body → Setting
line_told file line m set lines (body.Break bp slots) = record { after = m; set = set ++ (file, bp) ∷ []; lines = lines ++ Verified bp line ∷ [] }
line_told file line m set lines other = record { after = m; set = set; lines = lines ++ Unverified line (unwrap_or (refusal_name other) (codes "")) ∷ [] }

abbrev pub line_by : ℕ → ℕ → Setting → Machine × Body → Setting
line_by file line s answer = line_told file line answer.0 s.set s.lines answer.1

abbrev pub set_line : Reader → World → ℕ → LineAsked → Setting → Setting
set_line read w file asked s = line_by file asked.line s (asked_so read w s.after (cmd.Break (place file asked.line) None asked.condition))

abbrev pub set_each : Reader → World → ℕ → List LineAsked → Setting → Setting
set_each read w file [] s = s
set_each read w file (line ∷ lines) s = set_each read w file lines (set_line read w file line s)

-- a name of no file has no breakpoints, and changes none
abbrev pub no_file : LineAsked → LineSet
no_file line = Unverified line.line (codes "NoFile")

abbrev pub set_in : Reader → World → Machine → Set → Option ℕ → List LineAsked → Setting
set_in read w m set None lines = record { after = m; set = set; lines = map no_file lines }
set_in read w m set (Some file) lines = set_each read w file lines (cleared read w file m set)

-- ---- a conversation: its machine, the breakpoints that were set, and how many messages were written

pub record Conversation : Type 0 where
  pub machine : Machine
  pub set : Set
  pub written : ℕ

-- at its beginning
abbrev pub begun : Machine → Conversation
begun m = record { machine = m; set = []; written = 0 }

-- what a command leads to, with the breakpoints that are left
pub record Reaction : Type 0 where
  pub led : Led
  pub set : Set

abbrev pub keeping : Set → Led → Reaction
keeping set led = record { led = led; set = set }

abbrev pub set_reaction : Setting → Reaction
set_reaction s = record { led = quietly s.after (payload.Breakpoints s.lines); set = s.set }

-- the table of commands
abbrev pub led_by : Reader → World → List (List ℕ) → Machine → EditorCmd → Led
led_by read w names m asks.Initialize = record { after = m; told = payload.Abilities; happened = Some happening.Initialized }
led_by read w names m asks.Launch = quietly m payload.Empty
led_by read w names m (asks.SetBreakpoints path lines) = quietly m payload.Empty
led_by read w names m asks.ConfigurationDone = run_by w Breakpoint (run_payload false) (asked_so read w m cmd.Continue)
led_by read w names m asks.Continue = run_by w Breakpoint (run_payload true) (asked_so read w m cmd.Continue)
led_by read w names m asks.ReverseContinue = run_by w Breakpoint (run_payload false) (asked_so read w m cmd.Reverse)
led_by read w names m asks.Step = run_by w Step (run_payload false) (asked_so read w m (cmd.Step None))
led_by read w names m asks.StepBack = run_by w Step (run_payload false) (asked_so read w m (cmd.Back None))
led_by read w names m asks.Pause = granted_by payload.Empty (asked_so read w m cmd.Pause)
led_by read w names m asks.Threads = threads_by w (asked_so read w m cmd.Threads)
led_by read w names m (asks.StackTrace thread) = stack_by w names thread (asked_so read w m cmd.Threads)
led_by read w names m (asks.Scopes frame) = quietly m (scopes_told w.paths frame)
led_by read w names m (asks.Variables reference) = variables_of read w m reference
led_by read w names m (asks.Evaluate expression frame) = evaluated read w m expression frame
led_by read w names m asks.Disconnect = granted_by payload.Empty (asked_so read w m cmd.Bye)
led_by read w names m asks.BadShape = quietly m (payload.Failed (codes "BadShape"))
led_by read w names m asks.UnknownCmd = quietly m (payload.Failed (codes "UnknownCmd"))

abbrev pub reaction_to : Reader → World → List (List ℕ) → Conversation → EditorCmd → Reaction
reaction_to read w names c (asks.SetBreakpoints path lines) = set_reaction (set_in read w c.machine c.set (file_named names path) lines)
reaction_to read w names c asked = keeping c.set (led_by read w names c.machine asked)

-- ---- messages: numbers rise by one, to the last number at most; a response stands before its event

abbrev pub next_written : ℕ → ℕ
next_written n = min (n + 1) (2 ^ 64 - 1)

-- the texts of what happened, and how many messages were written then
abbrev pub happened_texts : ℕ → Option Happening → List (List ℕ)
happened_texts n None = []
happened_texts n (Some h) = event_text (next_written n) h ∷ []

abbrev pub written_then : ℕ → Option Happening → ℕ
written_then n None = n
written_then n (Some h) = next_written n

-- what a message leads to: its lines, the conversation that it leaves, and whether it was the last
pub record Spoken : Type 0 where
  pub lines : List (List ℕ)
  pub after : Conversation
  pub ended : Bool

abbrev pub is_last : EditorCmd → Bool
is_last asks.Disconnect = true
is_last other = false

abbrev pub spoken_by : Conversation → Message → Reaction → Spoken
spoken_by c message r = record {
  lines = response_text (next_written c.written) message.seq message.command r.led.told ∷ happened_texts (next_written c.written) r.led.happened;
  after = record { machine = r.led.after; set = r.set; written = written_then (next_written c.written) r.led.happened };
  ended = is_last message.cmd;
}

abbrev pub spoken_of : Reader → World → List (List ℕ) → Conversation → Option Message → Spoken
spoken_of read w names c None = record { lines = []; after = c; ended = false }
spoken_of read w names c (Some message) = spoken_by c message (reaction_to read w names c message.cmd)

-- what the bytes of a body lead to; bytes that are no message lead to nothing
abbrev pub spoken : Reader → World → List (List ℕ) → Conversation → List ℕ → Spoken
spoken read w names c body = spoken_of read w names c (told_message body)
