-- A client reads from a reply what was answered.
use Rattle.std.proofs.Common.{◌≡◌, ℕ, ◌<◌, ◌^◌, ◌==◌, ℤ, pos, negsuc, Bool, true, false, cond, List, codes, Option, Some, None, option_map, option_and_then, refl, sym, ap, ◌∙◌, lt-ltb}
use Rattle.std.specs.Int.Signed.{mag}
use Rattle.std.proofs.lemmas.Bool.{eqb-true}
use Rattle.places.specs.Places.{place, file_of, line_in}
use Rattle.places.proofs.Places.{is_of}
use Rattle.std.specs.List.{AllByRecursion}
use Rattle.std.specs.Option.{option_or}
use Rattle.bv_core.specs.Text.{shown}
use Rattle.bv_core.specs.declared.reference.Sample.{Sample}
use Rattle.bv_core.specs.declared.reference.Sample.TheVariants as sample
use Rattle.machine_core.specs.declared.reply.At.{At}
use Rattle.machine_core.specs.declared.reply.At.TheVariants as at
use Rattle.machine_core.specs.declared.reply.Going.{Going}
use Rattle.machine_core.specs.declared.reply.Going.TheVariants as going
use Rattle.machine_core.specs.declared.reply.Shown.{Shown}
use Rattle.machine_core.specs.declared.reply.Shown.TheVariants as shows
use Rattle.machine_core.specs.declared.reply.Body.{Body}
use Rattle.machine_core.specs.declared.reply.Body.TheVariants as body
use Rattle.machine_core.specs.declared.reply.Reply.{Reply}
use Rattle.serde_json.specs.Data.{Data, no_members, object, string}
use Rattle.serde_json.specs.Find.{as_i64, as_str, get, of_integer}
use Rattle.serde_json.proofs.Views.{get_member-put, get_member-put_other}
use Rattle.symtab_json.specs.Entries.{told_count, told_member, two_found}
use Rattle.symtab_json.specs.Files.{count_json}
use Rattle.symtab_json.specs.Told.{json_of}
use Rattle.symtab_json.proofs.Backs.{each, every, list_same}
use Rattle.symtab_json.proofs.Shown.{literal_back}
use Rattle.req_json.specs.Objects.{two_members, with_member}
use Rattle.req_json.specs.Values.{at_json, counts_json, file_unless, with_place, gens_json, going_json, named_json, names_json, row_pair_json, rows_json, sample_json, shown_json, values_json, variable_json}
use Rattle.req_json.specs.Replies.{body_members, reply_json, with_id, with_mark}
use Rattle.req_json.specs.ReadBack.{VariablesFit, BodyIsText, IsNamedValue, IsSampleValue, IsShownValue, VariableFits, ReplyIsText}
use Rattle.req_json.specs.Fields.{optional}
use Rattle.req_json.specs.Client.{RepliesAreTold, TextsTellApart, heard_body, heard_reply, if_word, made_break, made_reply, made_watch, made_status, made_threads, told_body, told_counts, told_going, told_integer, told_names, told_pair, told_place, told_reply, told_rows, told_sample, told_shown, told_values, told_variables}
use Rattle.req_json.proofs.ReadBack.{replies_read_back, site_members, stop_members}

-- ---- values

pub counts_told : (ns : List ℕ) → told_counts (counts_json ns) ≡ Some ns
counts_told ns = list_same told_count count_json ns (each (λ n. told_count (count_json n) ≡ Some n) (λ n. refl) ns)

pub names_told : (names : List (List ℕ)) → told_names (names_json names) ≡ Some names
names_told names = list_same as_str string names (each (λ s. as_str (string s) ≡ Some s) (λ s. refl) names)

integer_told : (z : ℤ) → mag z < 2 ^ 63 → as_i64 (of_integer z) ≡ Some z
integer_told (pos n) h = ap (λ b. cond b (Some (pos n)) None) (lt-ltb n 9223372036854775808 h)
integer_told (negsuc n) h = refl

variable_told : (v : List ℕ × ℤ) → VariableFits v → told_pair as_str told_integer (variable_json v) ≡ Some v
variable_told v h = ap (two_found (Some v.0)) (integer_told v.1 h.1)

pub gens_told : (gens : List (List ℕ × ℤ)) → VariablesFit gens → told_variables (gens_json gens) ≡ Some gens
gens_told gens h = list_same (told_pair as_str told_integer) variable_json gens (every VariableFits (λ v. told_pair as_str told_integer (variable_json v) ≡ Some v) variable_told gens h)

pub rows_told : (rows : List (ℕ × ℕ)) → told_rows (rows_json rows) ≡ Some rows
rows_told rows = list_same (told_pair told_count told_count) row_pair_json rows (each (λ row. told_pair told_count told_count (row_pair_json row) ≡ Some row) (λ row. refl) rows)

sample_told : (s : Sample) → IsSampleValue s → told_sample (sample_json s) ≡ Some s
sample_told (sample.Known bits) h = ap (λ o. option_or (option_map sample.Known o) (if_word (codes "x") sample.Unknown (shown bits))) (literal_back bits h)
sample_told sample.Unknown h = refl

shown_told : (s : Shown) → IsShownValue s → told_shown (shown_json s) ≡ Some s
shown_told (shows.Value bits) h =
    ap (λ o. option_or (option_map shows.Value o)
    (option_or (if_word (codes "x") shows.Unknown (shown bits)) (option_or (if_word (codes "unset") shows.Unset (shown bits)) (if_word (codes "removed") shows.Removed (shown bits))))) (literal_back bits h)
shown_told shows.Unknown h = refl
shown_told shows.Unset h = refl
shown_told shows.Removed h = refl

named_told : (v : List ℕ × Shown) → IsNamedValue v → told_pair as_str told_shown (named_json v) ≡ Some v
named_told v h = ap (two_found (Some v.0)) (shown_told v.1 h.1)

values_told : (vs : List (List ℕ × Shown)) → AllByRecursion IsNamedValue vs → told_values (values_json vs) ≡ Some vs
values_told vs h = list_same (told_pair as_str told_shown) named_json vs (every IsNamedValue (λ v. told_pair as_str told_shown (named_json v) ≡ Some v) named_told vs h)

going_told : (g : Going) → told_going (going_json g) ≡ Some g
going_told going.Idle = refl
going_told going.Forward = refl
going_told going.Backward = refl

place_told : (a : At) → told_place (at_json a) ≡ Some a
unfolding with_member
place_told at.Start = refl
place_told at.End = refl
place_told (at.Position cycle slot) = refl

threads_told : (a : At) (gens : List (List ℕ × ℤ)) (line : ℕ) (threads : List (List ℕ)) → VariablesFit gens →
    made_threads (told_place (at_json a)) (told_variables (gens_json gens)) (Some line) (told_names (names_json threads)) ≡ Some (body.Threads a gens line threads)
threads_told a gens line threads h =
    ap (λ p. made_threads p (told_variables (gens_json gens)) (Some line) (told_names (names_json threads))) (place_told a)
    ∙ ap (λ g. made_threads (Some a) g (Some line) (told_names (names_json threads))) (gens_told gens h)
    ∙ ap (made_threads (Some a) (Some gens) (Some line)) (names_told threads)

status_told : (a : At) (bps listeners : List ℕ) (mode : Going) →
    made_status (told_place (at_json a)) (told_counts (counts_json bps)) (told_counts (counts_json listeners)) (told_going (going_json mode)) ≡ Some (body.Status a bps listeners mode)
status_told a bps listeners mode =
    ap (λ p. made_status p (told_counts (counts_json bps)) (told_counts (counts_json listeners)) (told_going (going_json mode))) (place_told a)
    ∙ ap (λ b. made_status (Some a) b (told_counts (counts_json listeners)) (told_going (going_json mode))) (counts_told bps)
    ∙ ap (λ l. made_status (Some a) (Some bps) l (told_going (going_json mode))) (counts_told listeners)
    ∙ ap (made_status (Some a) (Some bps) (Some listeners)) (going_told mode)

-- ---- places

pub first_site : (file : ℕ) (line : ℕ) → (file == 0) ≡ true → place 0 line ≡ place file line
first_site file line is = ap (λ n. place n line) (sym (eqb-true file 0 is))

site_at : (seq : ℕ) (id : Option ℕ) (first : Bool) (file line : ℕ) → (file == 0) ≡ first → told_body (object (site_members seq id first file line)) ≡ Some (body.NoSite (place file line))
unfolding with_member
site_at seq None true file line is = ap (λ n. Some (body.NoSite n)) (first_site file line is)
site_at seq None false file line is = refl
site_at seq (Some id) true file line is = ap (λ n. Some (body.NoSite n)) (first_site file line is)
site_at seq (Some id) false file line is = refl

stop_at : (seq : ℕ) (id : Option ℕ) (first : Bool) (file line : ℕ) (a : At) (gens : List (List ℕ × ℤ)) (threads : List (List ℕ)) → (file == 0) ≡ first → VariablesFit gens →
    told_body (object (stop_members seq id first file line (at_json a) (gens_json gens) (names_json threads))) ≡ Some (body.Threads a gens (place file line) threads)
unfolding with_member
stop_at seq None true file line a gens threads is h = threads_told a gens (place 0 line) threads h ∙ ap (λ n. Some (body.Threads a gens n threads)) (first_site file line is)
stop_at seq None false file line a gens threads is h = threads_told a gens (place file line) threads h
stop_at seq (Some id) true file line a gens threads is h = threads_told a gens (place 0 line) threads h ∙ ap (λ n. Some (body.Threads a gens n threads)) (first_site file line is)
stop_at seq (Some id) false file line a gens threads is h = threads_told a gens (place file line) threads h

-- ---- the whole

body_at : (seq : ℕ) (id : Option ℕ) (b : Body) → BodyIsText b → told_body (object (with_member (codes "seq") (count_json seq) (with_id id (body_members b)))) ≡ Some (heard_body b)
unfolding with_member with_place
body_at seq None body.Delete h = refl
body_at seq None body.Unwatch h = refl
body_at seq None body.Continue h = refl
body_at seq None body.Reverse h = refl
body_at seq None body.Step h = refl
body_at seq None body.Back h = refl
body_at seq None body.Bye h = refl
body_at seq None body.TooLong h = refl
body_at seq None body.NotJson h = refl
body_at seq None body.UnknownCmd h = refl
body_at seq None body.NotRunning h = refl
body_at seq None (body.BadShape field) h = refl
body_at seq None (body.NoSite line) h = site_at seq None (file_of line == 0) (file_of line) (line_in line) refl ∙ ap (λ n. Some (body.NoSite n)) (is_of line).0
body_at seq None (body.NoInstance instance) h = refl
body_at seq None (body.BadCondAt offset) h = refl
body_at seq None (body.BadCondName name) h = refl
body_at seq None (body.CondRemoved name slot) h = refl
body_at seq None (body.CondUnset name slot) h = refl
body_at seq None (body.TooMany limit) h = refl
body_at seq None (body.NoBreakpoint bp) h = refl
body_at seq None (body.NoListener k) h = refl
body_at seq None (body.TooManyWatches limit) h = refl
body_at seq None (body.NoWatch wp) h = refl
body_at seq None (body.Break bp slots) h = ap (made_break (Some bp)) (counts_told slots)
body_at seq None (body.Watch slots wp) h = ap (λ o. made_watch o (Some wp)) (counts_told slots)
body_at seq None (body.Pause at) h = ap (option_map body.Pause) (place_told at)
body_at seq None (body.NoStop at) h = ap (option_map body.NoStop) (place_told at)
body_at seq None (body.Busy mode) h = ap (option_map body.Busy) (going_told mode)
body_at seq None (body.Eval value) h = ap (option_map body.Eval) (sample_told value h)
body_at seq None (body.Values values) h = ap (option_map body.Values) (values_told values h)
body_at seq None (body.Drop rows) h = ap (option_map body.Drop) (rows_told rows)
body_at seq None (body.Threads at gens line threads) h =
    stop_at seq None (file_of line == 0) (file_of line) (line_in line) at gens threads refl h.0.1 ∙ ap (λ n. Some (body.Threads at gens n threads)) (is_of line).0
body_at seq None (body.Status at bps listeners mode) h = status_told at bps listeners mode
body_at seq (Some id) body.Delete h = refl
body_at seq (Some id) body.Unwatch h = refl
body_at seq (Some id) body.Continue h = refl
body_at seq (Some id) body.Reverse h = refl
body_at seq (Some id) body.Step h = refl
body_at seq (Some id) body.Back h = refl
body_at seq (Some id) body.Bye h = refl
body_at seq (Some id) body.TooLong h = refl
body_at seq (Some id) body.NotJson h = refl
body_at seq (Some id) body.UnknownCmd h = refl
body_at seq (Some id) body.NotRunning h = refl
body_at seq (Some id) (body.BadShape field) h = refl
body_at seq (Some id) (body.NoSite line) h = site_at seq (Some id) (file_of line == 0) (file_of line) (line_in line) refl ∙ ap (λ n. Some (body.NoSite n)) (is_of line).0
body_at seq (Some id) (body.NoInstance instance) h = refl
body_at seq (Some id) (body.BadCondAt offset) h = refl
body_at seq (Some id) (body.BadCondName name) h = refl
body_at seq (Some id) (body.CondRemoved name slot) h = refl
body_at seq (Some id) (body.CondUnset name slot) h = refl
body_at seq (Some id) (body.TooMany limit) h = refl
body_at seq (Some id) (body.NoBreakpoint bp) h = refl
body_at seq (Some id) (body.NoListener k) h = refl
body_at seq (Some id) (body.TooManyWatches limit) h = refl
body_at seq (Some id) (body.NoWatch wp) h = refl
body_at seq (Some id) (body.Break bp slots) h = ap (made_break (Some bp)) (counts_told slots)
body_at seq (Some id) (body.Watch slots wp) h = ap (λ o. made_watch o (Some wp)) (counts_told slots)
body_at seq (Some id) (body.Pause at) h = ap (option_map body.Pause) (place_told at)
body_at seq (Some id) (body.NoStop at) h = ap (option_map body.NoStop) (place_told at)
body_at seq (Some id) (body.Busy mode) h = ap (option_map body.Busy) (going_told mode)
body_at seq (Some id) (body.Eval value) h = ap (option_map body.Eval) (sample_told value h)
body_at seq (Some id) (body.Values values) h = ap (option_map body.Values) (values_told values h)
body_at seq (Some id) (body.Drop rows) h = ap (option_map body.Drop) (rows_told rows)
body_at seq (Some id) (body.Threads at gens line threads) h =
    stop_at seq (Some id) (file_of line == 0) (file_of line) (line_in line) at gens threads refl h.0.1 ∙ ap (λ n. Some (body.Threads at gens n threads)) (is_of line).0
body_at seq (Some id) (body.Status at bps listeners mode) h = status_told at bps listeners mode

no_site_id : (first : Bool) (file line : ℕ) → get (codes "id") (object (with_mark (Some (5, codes "NoSite")) (file_unless first file (with_member (codes "line") (count_json line) no_members)))) ≡ None
unfolding with_member
no_site_id true file line = refl
no_site_id false file line = refl

no_stop_id : (first : Bool) (file line : ℕ) (at gens threads : Data) →
    get (codes "id") (object (with_mark None (with_member (codes "threads") threads (file_unless first file (with_member (codes "line") (count_json line) (two_members (codes "at") at (codes "gens") gens)))))) ≡ None
unfolding with_member
no_stop_id true file line at gens threads = refl
no_stop_id false file line at gens threads = refl

no_id : (b : Body) → get (codes "id") (object (body_members b)) ≡ None
unfolding with_member with_place
no_id body.Delete = refl
no_id body.Unwatch = refl
no_id (body.Watch slots wp) = refl
no_id body.Continue = refl
no_id body.Reverse = refl
no_id body.Step = refl
no_id body.Back = refl
no_id body.Bye = refl
no_id body.TooLong = refl
no_id body.NotJson = refl
no_id body.UnknownCmd = refl
no_id body.NotRunning = refl
no_id (body.BadShape field) = refl
no_id (body.NoSite line) = no_site_id (file_of line == 0) (file_of line) (line_in line)
no_id (body.NoInstance instance) = refl
no_id (body.BadCondAt offset) = refl
no_id (body.BadCondName name) = refl
no_id (body.CondRemoved name slot) = refl
no_id (body.CondUnset name slot) = refl
no_id (body.TooMany limit) = refl
no_id (body.NoBreakpoint bp) = refl
no_id (body.NoListener k) = refl
no_id (body.TooManyWatches limit) = refl
no_id (body.NoWatch wp) = refl
no_id (body.Break bp slots) = refl
no_id (body.Pause at) = refl
no_id (body.NoStop at) = refl
no_id (body.Busy mode) = refl
no_id (body.Eval value) = refl
no_id (body.Values values) = refl
no_id (body.Drop rows) = refl
no_id (body.Threads at gens line threads) = no_stop_id (file_of line == 0) (file_of line) (line_in line) (at_json at) (gens_json gens) (names_json threads)
no_id (body.Status at bps listeners mode) = refl

seq_told : (r : Reply) → told_member told_count (codes "seq") (reply_json r) ≡ Some r.seq
unfolding with_member
seq_told r = ap (option_and_then told_count) (get_member-put (codes "seq") (count_json r.seq) (with_id r.id (body_members r.body)))

keys_differ : codes "id" ≡ codes "seq" → ⊥
keys_differ e = cc

id_at : (id : Option ℕ) (b : Body) → optional told_count (get (codes "id") (object (with_id id (body_members b)))) ≡ Some id
unfolding with_member
id_at None b = ap (optional told_count) (no_id b)
id_at (Some id) b = ap (optional told_count) (get_member-put (codes "id") (count_json id) (body_members b))

id_told : (r : Reply) → optional told_count (get (codes "id") (reply_json r)) ≡ Some r.id
unfolding with_member
id_told r = ap (optional told_count) (get_member-put_other (codes "id") (codes "seq") (count_json r.seq) (with_id r.id (body_members r.body)) keys_differ) ∙ id_at r.id r.body

tree_told : (r : Reply) → ReplyIsText r → told_reply (reply_json r) ≡ Some (heard_reply r)
tree_told r h =
    ap (λ seq. made_reply seq (optional told_count (get (codes "id") (reply_json r))) (told_body (reply_json r))) (seq_told r)
    ∙ ap (λ id. made_reply (Some r.seq) id (told_body (reply_json r))) (id_told r)
    ∙ ap (made_reply (Some r.seq) (Some r.id)) (body_at r.seq r.id r.body h.body)

pub replies_are_told : RepliesAreTold
replies_are_told r h = ap (option_and_then told_reply) (replies_read_back r h) ∙ tree_told r h

pub texts_tell_apart : TextsTellApart
texts_tell_apart r s hr hs same =
    let one : Some (heard_reply r) ≡ Some (heard_reply s) = sym (replies_are_told r hr) ∙ ap (λ text. option_and_then told_reply (json_of text)) same ∙ replies_are_told s hs in
    cc
