-- Requests as a client writes them.
use Rattle.std.specs.Prelude.{◌≡◌, ℕ, ◌≤◌, ◌<◌, ◌^◌, List, length, codes, Option, Some, None, IfSome, IsUtf8, ⊤}
use Rattle.machine_core.specs.declared.request.Asked.TheVariants.{Good}
use Rattle.machine_core.specs.declared.request.Cmd.{Cmd}
use Rattle.machine_core.specs.declared.request.Cmd.TheVariants as cmd
use Rattle.machine_core.specs.declared.request.Request.{Request}
use Rattle.serde_json.specs.Data.{Data, Members, no_members, object, string}
use Rattle.serde_json.specs.Written.{compact_text}
use Rattle.symtab_json.specs.Files.{count_json}
use Rattle.req_json.specs.Asked.{asked, most_bytes}
use Rattle.req_json.specs.Objects.{one_member, two_members, with_member}
use Rattle.req_json.specs.ReadBack.{IsCount}
use Rattle.req_json.specs.Replies.{with_id}
use Rattle.req_json.specs.Values.{with_place}

-- a text that may be left out
abbrev pub with_optional : List ℕ → Option (List ℕ) → Members → Members
with_optional key None ms = ms
with_optional key (Some text) ms = with_member key (string text) ms

-- the fields of a command
abbrev pub cmd_fields : Cmd → Members
cmd_fields (cmd.Break line instance condition) = with_optional (codes "cond") condition (with_optional (codes "instance") instance (with_place line no_members))
cmd_fields (cmd.Delete bp) = one_member (codes "bp") (count_json bp)
cmd_fields (cmd.Watch line instance expr) = with_member (codes "expr") (string expr) (with_member (codes "instance") (string instance) (with_place line no_members))
cmd_fields (cmd.Unwatch wp) = one_member (codes "wp") (count_json wp)
cmd_fields cmd.Continue = no_members
cmd_fields cmd.Reverse = no_members
cmd_fields (cmd.Step instance) = with_optional (codes "instance") instance no_members
cmd_fields (cmd.Back instance) = with_optional (codes "instance") instance no_members
cmd_fields cmd.Pause = no_members
cmd_fields cmd.Threads = no_members
cmd_fields (cmd.Values instance) = one_member (codes "instance") (string instance)
cmd_fields (cmd.Eval instance expr) = two_members (codes "instance") (string instance) (codes "expr") (string expr)
cmd_fields (cmd.Drop k) = one_member (codes "k") (count_json k)
cmd_fields cmd.Status = no_members
cmd_fields cmd.Bye = no_members

abbrev pub cmd_word : Cmd → List ℕ
cmd_word (cmd.Break line instance condition) = codes "break"
cmd_word (cmd.Delete bp) = codes "delete"
cmd_word (cmd.Watch line instance expr) = codes "watch"
cmd_word (cmd.Unwatch wp) = codes "unwatch"
cmd_word cmd.Continue = codes "continue"
cmd_word cmd.Reverse = codes "reverse"
cmd_word (cmd.Step instance) = codes "step"
cmd_word (cmd.Back instance) = codes "back"
cmd_word cmd.Pause = codes "pause"
cmd_word cmd.Threads = codes "threads"
cmd_word (cmd.Values instance) = codes "values"
cmd_word (cmd.Eval instance expr) = codes "eval"
cmd_word (cmd.Drop k) = codes "drop"
cmd_word cmd.Status = codes "status"
cmd_word cmd.Bye = codes "bye"

abbrev pub request_members : Request → Members
request_members r = with_id r.id (with_member (codes "cmd") (string (cmd_word r.cmd)) (cmd_fields r.cmd))

-- the JSON value that a request is
abbrev pub request_json : Request → Data
request_json r = object (request_members r)

-- its bytes: the JSON library's compact text
abbrev pub request_text : Request → List ℕ
request_text r = compact_text (request_json r)

-- ---- its texts are UTF-8, as every `Utf8` is, its numbers fit 64 bits, and its places are those of 64 files

abbrev pub IsPlace : ℕ → Type 0
IsPlace at = at < 2 ^ 30

abbrev pub CmdIsText : Cmd → Type 0
CmdIsText (cmd.Break line instance condition) = IsPlace line × (IfSome instance IsUtf8 × IfSome condition IsUtf8)
CmdIsText (cmd.Delete bp) = IsCount bp
CmdIsText (cmd.Watch line instance expr) = IsPlace line × (IsUtf8 instance × IsUtf8 expr)
CmdIsText (cmd.Unwatch wp) = IsCount wp
CmdIsText cmd.Continue = ⊤
CmdIsText cmd.Reverse = ⊤
CmdIsText (cmd.Step instance) = IfSome instance IsUtf8
CmdIsText (cmd.Back instance) = IfSome instance IsUtf8
CmdIsText cmd.Pause = ⊤
CmdIsText cmd.Threads = ⊤
CmdIsText (cmd.Values instance) = IsUtf8 instance
CmdIsText (cmd.Eval instance expr) = IsUtf8 instance × IsUtf8 expr
CmdIsText (cmd.Drop k) = IsCount k
CmdIsText cmd.Status = ⊤
CmdIsText cmd.Bye = ⊤

pub record RequestIsText (r : Request) : Type 0 where
  pub id : IfSome r.id IsCount
  pub cmd : CmdIsText r.cmd

-- a request that is written so, and is short enough, is asked
abbrev pub RequestsAreAsked : Type 0
RequestsAreAsked = (r : Request) → RequestIsText r → length (request_text r) ≤ most_bytes → asked (request_text r) ≡ Good r
