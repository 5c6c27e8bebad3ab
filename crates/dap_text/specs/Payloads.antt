-- What the response to an editor's message tells, and what an event tells: each is a JSON object.
use Rattle.std.specs.Prelude.{ℕ, ℤ, List, true, false, codes, Option, Some, None}
use Rattle.exec_core.specs.Block.{Name}
use Rattle.serde_json.specs.Data.{Data, Members, boolean, item, no_items, array, number, object, string}
use Rattle.serde_json.specs.Find.{of_integer}
use Rattle.serde_json.specs.Written.{compact_text}
use Rattle.machine_core.specs.declared.reply.Shown.{Shown}
use Rattle.symtab_json.specs.Files.{count_json, list_json, pair_json}
use Rattle.req_json.specs.Objects.{one_member, two_members, with_member}
use Rattle.req_json.specs.Values.{sample_json, shown_json}
use Rattle.dap_text.specs.declared.payload.LineSet.{LineSet}
use Rattle.dap_text.specs.declared.payload.LineSet.TheVariants as set
use Rattle.dap_text.specs.declared.payload.Payload.{Payload}
use Rattle.dap_text.specs.declared.payload.Payload.TheVariants as payload
use Rattle.dap_text.specs.declared.payload.Reason.{Reason}
use Rattle.dap_text.specs.declared.payload.Reason.TheVariants as reason
use Rattle.dap_text.specs.declared.payload.Happening.{Happening}
use Rattle.dap_text.specs.declared.payload.Happening.TheVariants as happening

-- ---- entries of lists

-- a breakpoint that was asked for: its number, or why there is none
abbrev pub line_set_members : LineSet → Members
line_set_members (set.Verified id line) =
    with_member (codes "verified") (boolean true) (two_members (codes "id") (count_json id) (codes "line") (count_json line))
line_set_members (set.Unverified line name) =
    with_member (codes "verified") (boolean false) (two_members (codes "line") (count_json line) (codes "message") (string name))

abbrev pub line_set_json : LineSet → Data
line_set_json s = object (line_set_members s)

-- an instance as a thread: its number and its path
abbrev pub thread_members : ℕ × Name → Members
thread_members thread = two_members (codes "id") (count_json thread.0) (codes "name") (string thread.1)

abbrev pub thread_json : ℕ × Name → Data
thread_json thread = object (thread_members thread)

-- a name with the text of its value; no value has parts
abbrev pub named_members : Name → Data → Members
named_members name value =
    with_member (codes "variablesReference") (count_json 0) (two_members (codes "name") (string name) (codes "value") value)

abbrev pub signal_json : Name × Shown → Data
signal_json v = object (named_members v.0 (shown_json v.1))

-- a number in decimal digits, as a text
abbrev pub digits_json : ℤ → Data
digits_json n = string (compact_text (number (of_integer n)))

abbrev pub gen_variable_json : Name × ℤ → Data
gen_variable_json v = object (named_members v.0 (digits_json v.1))

-- ---- what stands once

abbrev pub source_members : List ℕ → Members
source_members file = one_member (codes "name") (string file)

-- where a thread stands: a line, of a file
abbrev pub line_members : (id line : ℕ) → Name → Members
line_members id line name =
    with_member (codes "name") (string name) (with_member (codes "line") (count_json line) (two_members (codes "column") (count_json 1) (codes "id") (count_json id)))

abbrev pub frame_members : (id line : ℕ) → Name → List ℕ → Members
frame_members id line name file = with_member (codes "source") (object (source_members file)) (line_members id line name)

-- a list of one
abbrev pub single_json : Data → Data
single_json d = array (item d no_items)

-- what a thread has to look into, and under which reference
abbrev pub scope_members : List ℕ → ℕ → Members
scope_members name reference =
    with_member (codes "variablesReference") (count_json reference) (two_members (codes "expensive") (boolean false) (codes "name") (string name))

abbrev pub scopes_json : (signals gens : ℕ) → Data
scopes_json signals gens = pair_json (object (scope_members (codes "Signals") signals)) (object (scope_members (codes "Generator") gens))

-- ---- the body of a response; one that failed has none, and so has one that tells nothing

abbrev pub payload_body : Payload → Option Members
payload_body payload.Empty = None
payload_body payload.Abilities = Some (
    with_member (codes "supportsStepBack") (boolean true) (
    two_members (codes "supportsConditionalBreakpoints") (boolean true) (codes "supportsConfigurationDoneRequest") (boolean true)))
payload_body (payload.Breakpoints lines) = Some (one_member (codes "breakpoints") (list_json line_set_json lines))
payload_body payload.Continued = Some (one_member (codes "allThreadsContinued") (boolean true))
payload_body (payload.Threads threads) = Some (one_member (codes "threads") (list_json thread_json threads))
payload_body (payload.StackFrame id line name file) =
    Some (two_members (codes "stackFrames") (single_json (object (frame_members id line name file))) (codes "totalFrames") (count_json 1))
payload_body (payload.Scopes signals gens) = Some (one_member (codes "scopes") (scopes_json signals gens))
payload_body (payload.Signals shown) = Some (one_member (codes "variables") (list_json signal_json shown))
payload_body (payload.GenVariables gens) = Some (one_member (codes "variables") (list_json gen_variable_json gens))
payload_body (payload.Result value) = Some (two_members (codes "result") (sample_json value) (codes "variablesReference") (count_json 0))
payload_body (payload.Failed name) = None

-- the name of the refusal of one that failed
abbrev pub failure_in : Payload → Option (List ℕ)
failure_in payload.Empty = None
failure_in payload.Abilities = None
failure_in (payload.Breakpoints lines) = None
failure_in payload.Continued = None
failure_in (payload.Threads threads) = None
failure_in (payload.StackFrame id line name file) = None
failure_in (payload.Scopes signals gens) = None
failure_in (payload.Signals shown) = None
failure_in (payload.GenVariables gens) = None
failure_in (payload.Result value) = None
failure_in (payload.Failed name) = Some name

-- ---- events

abbrev pub reason_word : Reason → List ℕ
reason_word reason.Breakpoint = codes "breakpoint"
reason_word reason.Step = codes "step"

-- all threads stand: at a stop, whose first thread is told, or at the end of the run or its start
abbrev pub stop_members : List ℕ → ℕ → Members
stop_members why thread =
    with_member (codes "threadId") (count_json thread) (two_members (codes "allThreadsStopped") (boolean true) (codes "reason") (string why))

abbrev pub edge_members : List ℕ → Members
edge_members where_to =
    with_member (codes "reason") (string (codes "pause")) (two_members (codes "allThreadsStopped") (boolean true) (codes "description") (string where_to))

-- its body, where it has one
abbrev pub happening_body : Happening → Option Members
happening_body happening.Initialized = None
happening_body (happening.Stopped why thread) = Some (stop_members (reason_word why) thread)
happening_body happening.Ended = Some (edge_members (codes "end of run"))
happening_body happening.Started = Some (edge_members (codes "start of run"))

abbrev pub happening_word : Happening → List ℕ
happening_word happening.Initialized = codes "initialized"
happening_word (happening.Stopped why thread) = codes "stopped"
happening_word happening.Ended = codes "stopped"
happening_word happening.Started = codes "stopped"
