-- What an editor's message asks: which commands there are, which arguments each has, and of which kind each must be.
use Rattle.std.specs.Prelude.{ℕ, ◌^◌, Bool, true, false, List, nat_lt, is_some, codes, bytes_eq, Option, Some, None, option_and_then, if◌then◌else◌}
use Rattle.serde_json.specs.Data.{Data}
use Rattle.serde_json.specs.Find.{as_bool, as_object, as_str, get}
use Rattle.symtab_json.specs.Entries.{kept_if, told_count, told_list, told_member}
use Rattle.symtab_json.specs.Told.{json_of}
use Rattle.req_json.specs.Fields.{optional}
use Rattle.dap_text.specs.declared.message.Message.{Message}
use Rattle.dap_text.specs.declared.message.EditorCmd.{EditorCmd}
use Rattle.dap_text.specs.declared.message.EditorCmd.TheVariants as cmd
use Rattle.dap_text.specs.declared.message.LineAsked.{LineAsked}

-- ---- arguments: an object under the key `arguments`, whose further members are passed over

abbrev pub arguments : Data → Option Data
arguments d = get (codes "arguments") d

-- a whole number, and a text, that must be there
abbrev pub count_argument : List ℕ → Data → Option ℕ
count_argument key d = option_and_then (told_member told_count key) (arguments d)

abbrev pub text_argument : List ℕ → Data → Option (List ℕ)
text_argument key d = option_and_then (told_member as_str key) (arguments d)

-- ---- `initialize`: lines count from 1, unless its arguments say otherwise; they may be left out

abbrev pub is_false : Option Bool → Bool
is_false None = false
is_false (Some true) = false
is_false (Some false) = true

abbrev pub initialize_by : Option Data → EditorCmd
initialize_by None = cmd.Initialize
initialize_by (Some args) =
    if is_some (as_object args) then (if is_false (told_member as_bool (codes "linesStartAt1") args) then cmd.BadShape else cmd.Initialize) else cmd.BadShape

-- ---- `setBreakpoints`: lines below 2^24, each with a condition that may be left out, in the file of a path

abbrev pub is_line : ℕ → Bool
is_line n = nat_lt n (2 ^ 24)

abbrev pub line_by : Option ℕ → Option (Option (List ℕ)) → Option LineAsked
line_by None condition = None
line_by (Some line) None = None
line_by (Some line) (Some condition) = Some (record { line = line; condition = condition })

abbrev pub line_asked : Data → Option LineAsked
line_asked d = line_by (kept_if is_line (told_member told_count (codes "line") d)) (optional as_str (get (codes "condition") d))

abbrev pub lines_asked : Data → Option (List LineAsked)
lines_asked d = option_and_then (told_list line_asked) (option_and_then (get (codes "breakpoints")) (arguments d))

abbrev pub path_asked : Data → Option (List ℕ)
path_asked d = option_and_then (told_member as_str (codes "path")) (option_and_then (get (codes "source")) (arguments d))

abbrev pub set_by : Option (List ℕ) → Option (List LineAsked) → EditorCmd
set_by None lines = cmd.BadShape
set_by (Some path) None = cmd.BadShape
set_by (Some path) (Some lines) = cmd.SetBreakpoints path lines

-- ---- commands with numbers

abbrev pub frame_by : (ℕ → EditorCmd) → Option ℕ → EditorCmd
frame_by asks None = cmd.BadShape
frame_by asks (Some n) = asks n

abbrev pub evaluate_by : Option (List ℕ) → Option ℕ → EditorCmd
evaluate_by None frame = cmd.BadShape
evaluate_by (Some expression) None = cmd.BadShape
evaluate_by (Some expression) (Some frame) = cmd.Evaluate expression frame

-- ---- the table of commands: no command has another name

-- those without arguments
abbrev pub plain_cmd : List ℕ → EditorCmd
plain_cmd name =
    if bytes_eq name (codes "launch") then cmd.Launch else
    if bytes_eq name (codes "attach") then cmd.Launch else
    if bytes_eq name (codes "configurationDone") then cmd.ConfigurationDone else
    if bytes_eq name (codes "continue") then cmd.Continue else
    if bytes_eq name (codes "reverseContinue") then cmd.ReverseContinue else
    if bytes_eq name (codes "next") then cmd.Step else
    if bytes_eq name (codes "stepIn") then cmd.Step else
    if bytes_eq name (codes "stepOut") then cmd.Step else
    if bytes_eq name (codes "stepBack") then cmd.StepBack else
    if bytes_eq name (codes "pause") then cmd.Pause else
    if bytes_eq name (codes "threads") then cmd.Threads else
    if bytes_eq name (codes "disconnect") then cmd.Disconnect else cmd.UnknownCmd

-- all of them
abbrev pub cmd_in : List ℕ → Data → EditorCmd
cmd_in name d =
    if bytes_eq name (codes "initialize") then initialize_by (arguments d) else
    if bytes_eq name (codes "setBreakpoints") then set_by (path_asked d) (lines_asked d) else
    if bytes_eq name (codes "stackTrace") then frame_by cmd.StackTrace (count_argument (codes "threadId") d) else
    if bytes_eq name (codes "scopes") then frame_by cmd.Scopes (count_argument (codes "frameId") d) else
    if bytes_eq name (codes "variables") then frame_by cmd.Variables (count_argument (codes "variablesReference") d) else
    if bytes_eq name (codes "evaluate") then evaluate_by (text_argument (codes "expression") d) (count_argument (codes "frameId") d) else plain_cmd name

-- ---- messages: a whole number `seq` from 0 to 2^63-1 and a text `command`. What has none of both is no message

abbrev pub is_seq : ℕ → Bool
is_seq n = nat_lt n (2 ^ 63)

abbrev pub message_by : Data → Option ℕ → Option (List ℕ) → Option Message
message_by d None command = None
message_by d (Some seq) None = None
message_by d (Some seq) (Some command) = Some (record { seq = seq; command = command; cmd = cmd_in command d })

abbrev pub message_of : Data → Option Message
message_of d = message_by d (kept_if is_seq (told_member told_count (codes "seq") d)) (told_member as_str (codes "command") d)

-- what the bytes of a body ask
abbrev pub told_message : List ℕ → Option Message
told_message body = option_and_then message_of (json_of body)
