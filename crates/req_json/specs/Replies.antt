-- The text of each reply: compact JSON, whose keys stand in the order of their bytes.
use Rattle.std.specs.Prelude.{ℕ, List, true, false, codes, Option, Some, None}
use Rattle.serde_json.specs.Data.{Data, Members, boolean, no_members, object, string}
use Rattle.serde_json.specs.Written.{compact_text}
use Rattle.machine_core.specs.declared.reply.Body.{Body}
use Rattle.machine_core.specs.declared.reply.Body.TheVariants as body
use Rattle.machine_core.specs.declared.reply.Reply.{Reply}
use Rattle.symtab_json.specs.Files.{count_json}
use Rattle.req_json.specs.Objects.{one_member, two_members, with_member}
use Rattle.req_json.specs.Values.{at_json, counts_json, gens_json, going_json, names_json, rows_json, sample_json, values_json, with_place}

-- ---- what each answer has of its own

abbrev pub own_members : Body → Members
own_members (body.Break bp slots) = two_members (codes "bp") (count_json bp) (codes "slots") (counts_json slots)
own_members body.Delete = no_members
own_members (body.Watch slots wp) = two_members (codes "slots") (counts_json slots) (codes "wp") (count_json wp)
own_members body.Unwatch = no_members
own_members body.Continue = no_members
own_members body.Reverse = no_members
own_members body.Step = no_members
own_members body.Back = no_members
own_members (body.Pause at) = one_member (codes "at") (at_json at)
own_members (body.Threads at gens line threads) =
    with_member (codes "threads") (names_json threads) (with_place line (two_members (codes "at") (at_json at) (codes "gens") (gens_json gens)))
own_members (body.Values values) = one_member (codes "values") (values_json values)
own_members (body.Eval value) = one_member (codes "value") (sample_json value)
own_members (body.Drop rows) = one_member (codes "rows") (rows_json rows)
own_members (body.Status at bps listeners mode) =
    with_member (codes "mode") (going_json mode) (with_member (codes "listeners") (counts_json listeners) (two_members (codes "at") (at_json at) (codes "bps") (counts_json bps)))
own_members body.Bye = no_members
own_members body.TooLong = no_members
own_members body.NotJson = no_members
own_members (body.BadShape field) = one_member (codes "field") (string field)
own_members body.UnknownCmd = no_members
own_members (body.NoSite line) = with_place line no_members
own_members (body.NoInstance instance) = one_member (codes "instance") (string instance)
own_members (body.BadCondAt offset) = one_member (codes "offset") (count_json offset)
own_members (body.BadCondName name) = one_member (codes "name") (string name)
own_members (body.CondRemoved name slot) = two_members (codes "name") (string name) (codes "slot") (count_json slot)
own_members (body.CondUnset name slot) = two_members (codes "name") (string name) (codes "slot") (count_json slot)
own_members (body.Busy mode) = one_member (codes "mode") (going_json mode)
own_members body.NotRunning = no_members
own_members (body.NoStop at) = one_member (codes "at") (at_json at)
own_members (body.TooMany limit) = one_member (codes "limit") (count_json limit)
own_members (body.NoBreakpoint bp) = one_member (codes "bp") (count_json bp)
own_members (body.NoListener k) = one_member (codes "k") (count_json k)
own_members (body.TooManyWatches limit) = one_member (codes "limit") (count_json limit)
own_members (body.NoWatch wp) = one_member (codes "wp") (count_json wp)

-- ---- the code and the name of each refusal; what was accepted has none

abbrev pub body_refusal : Body → Option (ℕ × List ℕ)
body_refusal (body.Break bp slots) = None
body_refusal body.Delete = None
body_refusal (body.Watch slots wp) = None
body_refusal body.Unwatch = None
body_refusal body.Continue = None
body_refusal body.Reverse = None
body_refusal body.Step = None
body_refusal body.Back = None
body_refusal (body.Pause at) = None
body_refusal (body.Threads at gens line threads) = None
body_refusal (body.Values values) = None
body_refusal (body.Eval value) = None
body_refusal (body.Drop rows) = None
body_refusal (body.Status at bps listeners mode) = None
body_refusal body.Bye = None
body_refusal body.TooLong = Some (1, codes "TooLong")
body_refusal body.NotJson = Some (2, codes "NotJson")
body_refusal (body.BadShape field) = Some (3, codes "BadShape")
body_refusal body.UnknownCmd = Some (4, codes "UnknownCmd")
body_refusal (body.NoSite line) = Some (5, codes "NoSite")
body_refusal (body.NoInstance instance) = Some (6, codes "NoInstance")
body_refusal (body.BadCondAt offset) = Some (7, codes "BadCond")
body_refusal (body.BadCondName name) = Some (7, codes "BadCond")
body_refusal (body.CondRemoved name slot) = Some (8, codes "CondRemoved")
body_refusal (body.CondUnset name slot) = Some (9, codes "CondUnset")
body_refusal (body.Busy mode) = Some (10, codes "Busy")
body_refusal body.NotRunning = Some (11, codes "NotRunning")
body_refusal (body.NoStop at) = Some (12, codes "NoStop")
body_refusal (body.TooMany limit) = Some (13, codes "TooMany")
body_refusal (body.NoBreakpoint bp) = Some (14, codes "NoBreakpoint")
body_refusal (body.NoListener k) = Some (15, codes "NoListener")
body_refusal (body.TooManyWatches limit) = Some (16, codes "TooManyWatches")
body_refusal (body.NoWatch wp) = Some (17, codes "NoWatch")

-- ---- what every reply has

-- whether it was accepted; of a refusal its code and its name
abbrev pub with_mark : Option (ℕ × List ℕ) → Members → Members
with_mark None ms = with_member (codes "ok") (boolean true) ms
with_mark (Some refusal) ms = with_member (codes "ok") (boolean false) (with_member (codes "error") (string refusal.1) (with_member (codes "code") (count_json refusal.0) ms))

abbrev pub body_members : Body → Members
body_members b = with_mark (body_refusal b) (own_members b)

abbrev pub with_id : Option ℕ → Members → Members
with_id None ms = ms
with_id (Some id) ms = with_member (codes "id") (count_json id) ms

abbrev pub reply_members : Reply → Members
reply_members r = with_member (codes "seq") (count_json r.seq) (with_id r.id (body_members r.body))

-- the JSON value that a reply is
abbrev pub reply_json : Reply → Data
reply_json r = object (reply_members r)

-- its bytes: the JSON library's compact text
abbrev pub reply_text : Reply → List ℕ
reply_text r = compact_text (reply_json r)
