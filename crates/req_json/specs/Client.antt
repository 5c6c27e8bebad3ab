-- What a client reads from a reply: from the text the JSON value, and from that what was answered. None is for a value that no reply is.
use Rattle.std.specs.Prelude.{◌≡◌, ℕ, ◌==◌, ℤ, List, is_some, codes, bytes_eq, Option, Some, None, option_map, option_and_then, unwrap_or, if◌then◌else◌}
use Rattle.std.specs.Option.{option_or}
use Rattle.places.specs.Places.{place}
use Rattle.bv_core.specs.declared.reference.Sample.{Sample}
use Rattle.bv_core.specs.declared.reference.Sample.TheVariants as sample
use Rattle.machine_core.specs.declared.reply.At.{At}
use Rattle.machine_core.specs.declared.reply.At.TheVariants as at
use Rattle.machine_core.specs.declared.reply.Going.{Going}
use Rattle.machine_core.specs.declared.reply.Going.TheVariants as going
use Rattle.machine_core.specs.declared.reply.Shown.{Shown}
use Rattle.machine_core.specs.declared.reply.Shown.TheVariants as shows
use Rattle.machine_core.specs.declared.reply.Body.{Body}
use Rattle.machine_core.specs.declared.reply.Body.TheVariants as body
use Rattle.machine_core.specs.declared.reply.Reply.{Reply}
use Rattle.serde_json.specs.Data.{Data}
use Rattle.serde_json.specs.Find.{as_i64, as_number, as_str, get}
use Rattle.symtab_json.specs.Entries.{told_count, told_list, told_member, told_two, two_found}
use Rattle.symtab_json.specs.Literals.{told_literal}
use Rattle.symtab_json.specs.Told.{json_of}
use Rattle.req_json.specs.Fields.{optional}
use Rattle.req_json.specs.Replies.{reply_text}
use Rattle.req_json.specs.ReadBack.{ReplyIsText}

-- ---- the values

-- a word, if it is this one
abbrev pub if_word : {A : Type 0} → List ℕ → A → List ℕ → Option A
if_word word x text = if bytes_eq text word then Some x else None

abbrev pub told_integer : Data → Option ℤ
told_integer d = option_and_then as_i64 (as_number d)

abbrev pub told_pair : {A B : Type 0} → (Data → Option A) → (Data → Option B) → Data → Option (A × B)
told_pair first second d = option_and_then (λ two. two_found (first two.0) (second two.1)) (told_two d)

abbrev pub made_place : Option ℕ → Option ℕ → Option At
made_place None slot = None
made_place (Some cycle) None = None
made_place (Some cycle) (Some slot) = Some (at.Position cycle slot)

abbrev pub place_word : List ℕ → Option At
place_word text = option_or (if_word (codes "start") at.Start text) (if_word (codes "end") at.End text)

abbrev pub told_place : Data → Option At
told_place d = option_or (option_and_then place_word (as_str d)) (made_place (told_member told_count (codes "cycle") d) (told_member told_count (codes "slot") d))

abbrev pub going_word : List ℕ → Option Going
going_word text = option_or (if_word (codes "idle") going.Idle text) (option_or (if_word (codes "forward") going.Forward text) (if_word (codes "backward") going.Backward text))

abbrev pub told_going : Data → Option Going
told_going d = option_and_then going_word (as_str d)

abbrev pub sample_word : List ℕ → Option Sample
sample_word text = option_or (option_map sample.Known (told_literal text)) (if_word (codes "x") sample.Unknown text)

abbrev pub told_sample : Data → Option Sample
told_sample d = option_and_then sample_word (as_str d)

abbrev pub shown_word : List ℕ → Option Shown
shown_word text =
    option_or (option_map shows.Value (told_literal text))
    (option_or (if_word (codes "x") shows.Unknown text) (option_or (if_word (codes "unset") shows.Unset text) (if_word (codes "removed") shows.Removed text)))

abbrev pub told_shown : Data → Option Shown
told_shown d = option_and_then shown_word (as_str d)

abbrev pub told_counts : Data → Option (List ℕ)
told_counts d = told_list told_count d

abbrev pub told_names : Data → Option (List (List ℕ))
told_names d = told_list as_str d

abbrev pub told_variables : Data → Option (List (List ℕ × ℤ))
told_variables d = told_list (told_pair as_str told_integer) d

abbrev pub told_values : Data → Option (List (List ℕ × Shown))
told_values d = told_list (told_pair as_str told_shown) d

abbrev pub told_rows : Data → Option (List (ℕ × ℕ))
told_rows d = told_list (told_pair told_count told_count) d

-- a place: the line, and the file unless it is file 0
abbrev pub made_site : Option (Option ℕ) → Option ℕ → Option ℕ
made_site None line = None
made_site (Some file) None = None
made_site (Some file) (Some line) = Some (place (unwrap_or file 0) line)

abbrev pub told_site : Data → Option ℕ
told_site d = made_site (optional told_count (get (codes "file") d)) (told_member told_count (codes "line") d)

-- ---- what was accepted, by the fields that are there

abbrev pub made_break : Option ℕ → Option (List ℕ) → Option Body
made_break None slots = None
made_break (Some bp) None = None
made_break (Some bp) (Some slots) = Some (body.Break bp slots)

abbrev pub made_watch : Option (List ℕ) → Option ℕ → Option Body
made_watch None wp = None
made_watch (Some slots) None = None
made_watch (Some slots) (Some wp) = Some (body.Watch slots wp)

abbrev pub made_threads : Option At → Option (List (List ℕ × ℤ)) → Option ℕ → Option (List (List ℕ)) → Option Body
made_threads None gens line threads = None
made_threads (Some at) None line threads = None
made_threads (Some at) (Some gens) None threads = None
made_threads (Some at) (Some gens) (Some line) None = None
made_threads (Some at) (Some gens) (Some line) (Some threads) = Some (body.Threads at gens line threads)

abbrev pub made_status : Option At → Option (List ℕ) → Option (List ℕ) → Option Going → Option Body
made_status None bps listeners mode = None
made_status (Some at) None listeners mode = None
made_status (Some at) (Some bps) None mode = None
made_status (Some at) (Some bps) (Some listeners) None = None
made_status (Some at) (Some bps) (Some listeners) (Some mode) = Some (body.Status at bps listeners mode)

-- nothing more is told of what has no field of its own
abbrev pub told_accepted : Data → Option Body
told_accepted d =
    if is_some (get (codes "wp") d) then made_watch (told_member told_counts (codes "slots") d) (told_member told_count (codes "wp") d) else
    (if is_some (get (codes "bp") d) then made_break (told_member told_count (codes "bp") d) (told_member told_counts (codes "slots") d) else
    (if is_some (get (codes "gens") d) then
    made_threads (told_member told_place (codes "at") d) (told_member told_variables (codes "gens") d) (told_site d) (told_member told_names (codes "threads") d) else
    (if is_some (get (codes "values") d) then option_map body.Values (told_member told_values (codes "values") d) else
    (if is_some (get (codes "value") d) then option_map body.Eval (told_member told_sample (codes "value") d) else
    (if is_some (get (codes "rows") d) then option_map body.Drop (told_member told_rows (codes "rows") d) else
    (if is_some (get (codes "mode") d) then
    made_status (told_member told_place (codes "at") d) (told_member told_counts (codes "bps") d) (told_member told_counts (codes "listeners") d) (told_member told_going (codes "mode") d) else
    (if is_some (get (codes "at") d) then option_map body.Pause (told_member told_place (codes "at") d) else Some body.Delete)))))))

-- ---- what was refused, by its code

abbrev pub made_removed : Option (List ℕ) → Option ℕ → Option Body
made_removed None slot = None
made_removed (Some name) None = None
made_removed (Some name) (Some slot) = Some (body.CondRemoved name slot)

abbrev pub made_unset : Option (List ℕ) → Option ℕ → Option Body
made_unset None slot = None
made_unset (Some name) None = None
made_unset (Some name) (Some slot) = Some (body.CondUnset name slot)

abbrev pub told_refused : ℕ → Data → Option Body
told_refused code d =
    if code == 1 then Some body.TooLong else
    (if code == 2 then Some body.NotJson else
    (if code == 3 then option_map body.BadShape (told_member as_str (codes "field") d) else
    (if code == 4 then Some body.UnknownCmd else
    (if code == 5 then option_map body.NoSite (told_site d) else
    (if code == 6 then option_map body.NoInstance (told_member as_str (codes "instance") d) else
    (if code == 7 then option_or (option_map body.BadCondAt (told_member told_count (codes "offset") d)) (option_map body.BadCondName (told_member as_str (codes "name") d)) else
    (if code == 8 then made_removed (told_member as_str (codes "name") d) (told_member told_count (codes "slot") d) else
    (if code == 9 then made_unset (told_member as_str (codes "name") d) (told_member told_count (codes "slot") d) else
    (if code == 10 then option_map body.Busy (told_member told_going (codes "mode") d) else
    (if code == 11 then Some body.NotRunning else
    (if code == 12 then option_map body.NoStop (told_member told_place (codes "at") d) else
    (if code == 13 then option_map body.TooMany (told_member told_count (codes "limit") d) else
    (if code == 14 then option_map body.NoBreakpoint (told_member told_count (codes "bp") d) else
    (if code == 15 then option_map body.NoListener (told_member told_count (codes "k") d) else
    (if code == 16 then option_map body.TooManyWatches (told_member told_count (codes "limit") d) else
    (if code == 17 then option_map body.NoWatch (told_member told_count (codes "wp") d) else None))))))))))))))))

-- ---- the whole

abbrev pub told_by_code : Data → Option ℕ → Option Body
told_by_code d None = told_accepted d
told_by_code d (Some code) = told_refused code d

abbrev pub told_body : Data → Option Body
told_body d = told_by_code d (told_member told_count (codes "code") d)

abbrev pub made_reply : Option ℕ → Option (Option ℕ) → Option Body → Option Reply
made_reply None id b = None
made_reply (Some seq) None b = None
made_reply (Some seq) (Some id) None = None
made_reply (Some seq) (Some id) (Some b) = Some (record { seq = seq; id = id; body = b })

abbrev pub told_reply : Data → Option Reply
told_reply d = made_reply (told_member told_count (codes "seq") d) (optional told_count (get (codes "id") d)) (told_body d)

-- what was answered, but for which command it was where nothing more is told: that is known to who asked
abbrev pub heard_body : Body → Body
heard_body body.Continue = body.Delete
heard_body body.Reverse = body.Delete
heard_body body.Step = body.Delete
heard_body body.Back = body.Delete
heard_body body.Bye = body.Delete
heard_body body.Delete = body.Delete
heard_body body.Unwatch = body.Delete
heard_body (body.Watch slots wp) = body.Watch slots wp
heard_body (body.Break bp slots) = body.Break bp slots
heard_body (body.Pause at) = body.Pause at
heard_body (body.Threads at gens line threads) = body.Threads at gens line threads
heard_body (body.Values values) = body.Values values
heard_body (body.Eval value) = body.Eval value
heard_body (body.Drop rows) = body.Drop rows
heard_body (body.Status at bps listeners mode) = body.Status at bps listeners mode
heard_body body.TooLong = body.TooLong
heard_body body.NotJson = body.NotJson
heard_body (body.BadShape field) = body.BadShape field
heard_body body.UnknownCmd = body.UnknownCmd
heard_body (body.NoSite line) = body.NoSite line
heard_body (body.NoInstance instance) = body.NoInstance instance
heard_body (body.BadCondAt offset) = body.BadCondAt offset
heard_body (body.BadCondName name) = body.BadCondName name
heard_body (body.CondRemoved name slot) = body.CondRemoved name slot
heard_body (body.CondUnset name slot) = body.CondUnset name slot
heard_body (body.Busy mode) = body.Busy mode
heard_body body.NotRunning = body.NotRunning
heard_body (body.NoStop at) = body.NoStop at
heard_body (body.TooMany limit) = body.TooMany limit
heard_body (body.NoBreakpoint bp) = body.NoBreakpoint bp
heard_body (body.NoListener k) = body.NoListener k
heard_body (body.TooManyWatches limit) = body.TooManyWatches limit
heard_body (body.NoWatch wp) = body.NoWatch wp

abbrev pub heard_reply : Reply → Reply
heard_reply r = record r { body = heard_body r.body }

-- a client reads from the text of a reply what was answered
abbrev pub RepliesAreTold : Type 0
RepliesAreTold = (r : Reply) → ReplyIsText r → option_and_then told_reply (json_of (reply_text r)) ≡ Some (heard_reply r)

-- so replies of one text are one answer
abbrev pub TextsTellApart : Type 0
TextsTellApart = (r s : Reply) → ReplyIsText r → ReplyIsText s → reply_text r ≡ reply_text s → heard_reply r ≡ heard_reply s
