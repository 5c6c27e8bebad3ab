-- Replies and notices are read back.
use Rattle.std.proofs.Common.{◌≡◌, ℕ, ◌<◌, ◌^◌, ◌==◌, ℤ, Bool, true, false, List, [], ◌∷◌, codes, Option, Some, None, IfSome, IsUtf8, refl, arith}
use Rattle.json.proofs.Printed.Utf8.{IsUtf8-are_ascii, are_ascii}
use Rattle.bv_core.specs.declared.reference.Sample.{Sample}
use Rattle.bv_core.specs.declared.reference.Sample.TheVariants as sample
use Rattle.machine_core.specs.declared.reply.At.{At}
use Rattle.machine_core.specs.declared.reply.At.TheVariants as at
use Rattle.machine_core.specs.declared.reply.Going.{Going}
use Rattle.machine_core.specs.declared.reply.Going.TheVariants as going
use Rattle.machine_core.specs.declared.reply.Shown.{Shown}
use Rattle.machine_core.specs.declared.reply.Shown.TheVariants as shows
use Rattle.machine_core.specs.declared.reply.Body.{Body}
use Rattle.machine_core.specs.declared.reply.Body.TheVariants as body
use Rattle.machine_core.specs.declared.reply.Reply.{Reply}
use Rattle.machine_core.specs.declared.turn.Notice.{Notice}
use Rattle.machine_core.specs.declared.turn.Notice.TheVariants as notice
use Rattle.places.specs.Places.{file_of, line_in}
use Rattle.serde_json.specs.Data.{Data, Members, boolean, no_members, string}
use Rattle.symtab_json.specs.Files.{count_json}
use Rattle.symtab_json.proofs.Rounds.{Round, round_count, round_integer, round_pair, round_string}
use Rattle.req_json.specs.Objects.{two_members, with_member}
use Rattle.req_json.specs.Values.{at_json, counts_json, file_unless, with_place, gens_json, going_json, named_json, names_json, position_members, row_pair_json, rows_json, sample_json, shown_json, values_json, variable_json}
use Rattle.req_json.specs.Replies.{body_members, with_mark, own_members, body_refusal, reply_members, with_id}
use Rattle.req_json.specs.Notices.{notice_members, notice_word, told_members, with_watches}
use Rattle.req_json.specs.ReadBack.{AreCounts, AreNames, RowPairsFit, VariablesFit, BodyIsText, IsCount, IsNamedValue, AtFits, RowPairFits, IsSampleValue, IsShownValue, VariableFits, NoticeIsText, NoticesReadBack, RepliesReadBack, ReplyIsText}
use Rattle.req_json.proofs.Round.{AllRound, all_one, all_two, all_with, bits_round, each_round, object_round, put_all, text_back, word_round}

-- ---- values

counts_round : (ns : List ℕ) → AreCounts ns → Round 3 (counts_json ns)
counts_round ns h = each_round 2 IsCount count_json (round_count 2) ns h

names_round : (names : List (List ℕ)) → AreNames names → Round 3 (names_json names)
names_round names h = each_round 2 IsUtf8 string (round_string 2) names h

variable_round : (v : List ℕ × ℤ) → VariableFits v → Round 2 (variable_json v)
variable_round v h = round_pair 1 (string v.0) _ (round_string 1 v.0 h.0) (round_integer 1 v.1 h.1)

gens_round : (gens : List (List ℕ × ℤ)) → VariablesFit gens → Round 3 (gens_json gens)
gens_round gens h = each_round 2 VariableFits variable_json variable_round gens h

row_round : (row : ℕ × ℕ) → RowPairFits row → Round 2 (row_pair_json row)
row_round row h = round_pair 1 (count_json row.0) (count_json row.1) (round_count 1 row.0 h.0) (round_count 1 row.1 h.1)

rows_round : (rows : List (ℕ × ℕ)) → RowPairsFit rows → Round 3 (rows_json rows)
rows_round rows h = each_round 2 RowPairFits row_pair_json row_round rows h

shown_round : (n : ℕ) (s : Shown) → IsShownValue s → Round n (shown_json s)
shown_round n (shows.Value bits) h = bits_round n bits h
shown_round n shows.Unknown h = word_round n (codes "x") refl
shown_round n shows.Unset h = word_round n (codes "unset") refl
shown_round n shows.Removed h = word_round n (codes "removed") refl

named_round : (v : List ℕ × Shown) → IsNamedValue v → Round 2 (named_json v)
named_round v h = round_pair 1 (string v.0) (shown_json v.1) (round_string 1 v.0 h.0) (shown_round 1 v.1 h.1)

sample_round : (s : Sample) → IsSampleValue s → Round 3 (sample_json s)
sample_round (sample.Known bits) h = bits_round 3 bits h
sample_round sample.Unknown h = word_round 3 (codes "x") refl

going_round : (g : Going) → Round 3 (going_json g)
going_round going.Idle = word_round 3 (codes "idle") refl
going_round going.Forward = word_round 3 (codes "forward") refl
going_round going.Backward = word_round 3 (codes "backward") refl

position_again : (cycle slot : ℕ) → put_all (position_members cycle slot) no_members ≡ position_members cycle slot
unfolding with_member
position_again cycle slot = refl

at_round : (a : At) → AtFits a → Round 3 (at_json a)
at_round at.Start h = word_round 3 (codes "start") refl
at_round at.End h = word_round 3 (codes "end") refl
at_round (at.Position cycle slot) h =
    object_round 2 (position_members cycle slot) (position_again cycle slot)
    (all_two 2 (codes "cycle") (count_json cycle) (codes "slot") (count_json slot) refl (round_count 2 cycle h.0) refl (round_count 2 slot h.1))

boolean_round : (b : Bool) → Round 3 (boolean b)
boolean_round true = record { back = refl; numbers = tt; utf8 = IsUtf8-are_ascii _ refl; deep = omega arith }
boolean_round false = record { back = refl; numbers = tt; utf8 = IsUtf8-are_ascii _ refl; deep = omega arith }

-- ---- places

file_round : (first : Bool) (file : ℕ) (ms : Members) → IsCount file → AllRound 3 ms → AllRound 3 (file_unless first file ms)
file_round true file ms f h = h
file_round false file ms f h = all_with 3 (codes "file") (count_json file) ms refl (round_count 3 file f) h

pub place_round : (at : ℕ) (ms : Members) → IsCount at → AllRound 3 ms → AllRound 3 (with_place at ms)
unfolding with_place
place_round at ms f h =
    let whole : (file_of at < 2 ^ 64) × (line_in at < 2 ^ 64) = (omega (arith, f), omega (arith, f)) in
    file_round (file_of at == 0) (file_of at) (with_member (codes "line") (count_json (line_in at)) ms) whole.0
    (all_with 3 (codes "line") (count_json (line_in at)) ms refl (round_count 3 (line_in at) whole.1) h)

-- ---- what a reply has

own_round : (b : Body) → BodyIsText b → AllRound 3 (own_members b)
own_round (body.Break bp slots) h = all_two 3 (codes "bp") (count_json bp) (codes "slots") (counts_json slots) refl (round_count 3 bp h.0) refl (counts_round slots h.1)
own_round body.Delete h = tt
own_round (body.Watch slots wp) h = all_two 3 (codes "slots") (counts_json slots) (codes "wp") (count_json wp) refl (counts_round slots h.0) refl (round_count 3 wp h.1)
own_round body.Unwatch h = tt
own_round body.Continue h = tt
own_round body.Reverse h = tt
own_round body.Step h = tt
own_round body.Back h = tt
own_round (body.Pause at) h = all_one 3 (codes "at") (at_json at) refl (at_round at h)
own_round (body.Threads at gens line threads) h =
    let first = two_members (codes "at") (at_json at) (codes "gens") (gens_json gens) in
    all_with 3 (codes "threads") (names_json threads) (with_place line first) refl (names_round threads h.1.1)
    (place_round line first h.1.0
    (all_two 3 (codes "at") (at_json at) (codes "gens") (gens_json gens) refl (at_round at h.0.0) refl (gens_round gens h.0.1)))
own_round (body.Values values) h = all_one 3 (codes "values") (values_json values) refl (each_round 2 IsNamedValue named_json named_round values h)
own_round (body.Eval value) h = all_one 3 (codes "value") (sample_json value) refl (sample_round value h)
own_round (body.Drop rows) h = all_one 3 (codes "rows") (rows_json rows) refl (rows_round rows h)
own_round (body.Status at bps listeners mode) h =
    let first = two_members (codes "at") (at_json at) (codes "bps") (counts_json bps) in
    all_with 3 (codes "mode") (going_json mode) (with_member (codes "listeners") (counts_json listeners) first) refl (going_round mode)
    (all_with 3 (codes "listeners") (counts_json listeners) first refl (counts_round listeners h.1)
    (all_two 3 (codes "at") (at_json at) (codes "bps") (counts_json bps) refl (at_round at h.0.0) refl (counts_round bps h.0.1)))
own_round body.Bye h = tt
own_round body.TooLong h = tt
own_round body.NotJson h = tt
own_round (body.BadShape field) h = all_one 3 (codes "field") (string field) refl (round_string 3 field h)
own_round body.UnknownCmd h = tt
own_round (body.NoSite line) h = place_round line no_members h tt
own_round (body.NoInstance instance) h = all_one 3 (codes "instance") (string instance) refl (round_string 3 instance h)
own_round (body.BadCondAt offset) h = all_one 3 (codes "offset") (count_json offset) refl (round_count 3 offset h)
own_round (body.BadCondName name) h = all_one 3 (codes "name") (string name) refl (round_string 3 name h)
own_round (body.CondRemoved name slot) h = all_two 3 (codes "name") (string name) (codes "slot") (count_json slot) refl (round_string 3 name h.0) refl (round_count 3 slot h.1)
own_round (body.CondUnset name slot) h = all_two 3 (codes "name") (string name) (codes "slot") (count_json slot) refl (round_string 3 name h.0) refl (round_count 3 slot h.1)
own_round (body.Busy mode) h = all_one 3 (codes "mode") (going_json mode) refl (going_round mode)
own_round body.NotRunning h = tt
own_round (body.NoStop at) h = all_one 3 (codes "at") (at_json at) refl (at_round at h)
own_round (body.TooMany limit) h = all_one 3 (codes "limit") (count_json limit) refl (round_count 3 limit h)
own_round (body.NoBreakpoint bp) h = all_one 3 (codes "bp") (count_json bp) refl (round_count 3 bp h)
own_round (body.NoListener k) h = all_one 3 (codes "k") (count_json k) refl (round_count 3 k h)
own_round (body.TooManyWatches limit) h = all_one 3 (codes "limit") (count_json limit) refl (round_count 3 limit h)
own_round (body.NoWatch wp) h = all_one 3 (codes "wp") (count_json wp) refl (round_count 3 wp h)

-- the code and the name of a refusal
abbrev RefusalIsText : Option (ℕ × List ℕ) → Type 0
RefusalIsText refusal = IfSome refusal (λ r. (r.0 < 18) × (are_ascii r.1 ≡ true))

refusal_text : (b : Body) → RefusalIsText (body_refusal b)
refusal_text (body.Break bp slots) = tt
refusal_text body.Delete = tt
refusal_text (body.Watch slots wp) = tt
refusal_text body.Unwatch = tt
refusal_text body.Continue = tt
refusal_text body.Reverse = tt
refusal_text body.Step = tt
refusal_text body.Back = tt
refusal_text (body.Pause at) = tt
refusal_text (body.Threads at gens line threads) = tt
refusal_text (body.Values values) = tt
refusal_text (body.Eval value) = tt
refusal_text (body.Drop rows) = tt
refusal_text (body.Status at bps listeners mode) = tt
refusal_text body.Bye = tt
refusal_text body.TooLong = (omega arith, refl)
refusal_text body.NotJson = (omega arith, refl)
refusal_text (body.BadShape field) = (omega arith, refl)
refusal_text body.UnknownCmd = (omega arith, refl)
refusal_text (body.NoSite line) = (omega arith, refl)
refusal_text (body.NoInstance instance) = (omega arith, refl)
refusal_text (body.BadCondAt offset) = (omega arith, refl)
refusal_text (body.BadCondName name) = (omega arith, refl)
refusal_text (body.CondRemoved name slot) = (omega arith, refl)
refusal_text (body.CondUnset name slot) = (omega arith, refl)
refusal_text (body.Busy mode) = (omega arith, refl)
refusal_text body.NotRunning = (omega arith, refl)
refusal_text (body.NoStop at) = (omega arith, refl)
refusal_text (body.TooMany limit) = (omega arith, refl)
refusal_text (body.NoBreakpoint bp) = (omega arith, refl)
refusal_text (body.NoListener k) = (omega arith, refl)
refusal_text (body.TooManyWatches limit) = (omega arith, refl)
refusal_text (body.NoWatch wp) = (omega arith, refl)

marked_round : (refusal : Option (ℕ × List ℕ)) (ms : Members) → RefusalIsText refusal → AllRound 3 ms → AllRound 3 (with_mark refusal ms)
marked_round None ms r h = all_with 3 (codes "ok") (boolean true) ms refl (boolean_round true) h
marked_round (Some refusal) ms r h =
    let coded = with_member (codes "code") (count_json refusal.0) ms in
    let fits : refusal.0 < 2 ^ 64 = omega (arith, r.0) in
    all_with 3 (codes "ok") (boolean false) (with_member (codes "error") (string refusal.1) coded) refl (boolean_round false)
    (all_with 3 (codes "error") (string refusal.1) coded refl (word_round 3 refusal.1 r.1)
    (all_with 3 (codes "code") (count_json refusal.0) ms refl (round_count 3 refusal.0 fits) h))

pub id_round : (id : Option ℕ) (ms : Members) → IfSome id IsCount → AllRound 3 ms → AllRound 3 (with_id id ms)
id_round None ms i h = h
id_round (Some id) ms i h = all_with 3 (codes "id") (count_json id) ms refl (round_count 3 id i) h

reply_round : (r : Reply) → ReplyIsText r → AllRound 3 (reply_members r)
reply_round r h =
    all_with 3 (codes "seq") (count_json r.seq) (with_id r.id (body_members r.body)) refl (round_count 3 r.seq h.seq)
    (id_round r.id (body_members r.body) h.id (marked_round (body_refusal r.body) (own_members r.body) (refusal_text r.body) (own_round r.body h.body)))

-- ---- the keys of a reply stand in order already

abbrev AreInOrder : Members → Type 0
AreInOrder ms = put_all ms no_members ≡ ms

-- the members of a refusal that tells a place, and those of a reply and a notice that tell the place of a stop
abbrev pub site_members : (seq : ℕ) (id : Option ℕ) (first : Bool) (file line : ℕ) → Members
site_members seq id first file line =
    with_member (codes "seq") (count_json seq) (with_id id (with_mark (Some (5, codes "NoSite")) (file_unless first file (with_member (codes "line") (count_json line) no_members))))

abbrev pub stop_members : (seq : ℕ) (id : Option ℕ) (first : Bool) (file line : ℕ) (at gens threads : Data) → Members
stop_members seq id first file line at gens threads =
    with_member (codes "seq") (count_json seq) (with_id id (with_mark None (with_member (codes "threads") threads
    (file_unless first file (with_member (codes "line") (count_json line) (two_members (codes "at") at (codes "gens") gens))))))

abbrev pub stopped_members : (first : Bool) (file line : ℕ) (cycle slot gens paths : Data) (watches : List ℕ) → Members
stopped_members first file line cycle slot gens paths watches =
    with_member (codes "notice") (string (codes "stopped")) (with_watches watches (with_member (codes "threads") paths (with_member (codes "gens") gens
    (file_unless first file (with_member (codes "line") (count_json line) (two_members (codes "cycle") cycle (codes "slot") slot))))))

site_again : (seq : ℕ) (id : Option ℕ) (first : Bool) (file line : ℕ) → AreInOrder (site_members seq id first file line)
unfolding with_member
site_again seq None true file line = refl
site_again seq None false file line = refl
site_again seq (Some id) true file line = refl
site_again seq (Some id) false file line = refl

threads_again : (seq : ℕ) (id : Option ℕ) (first : Bool) (file line : ℕ) (at gens threads : Data) → AreInOrder (stop_members seq id first file line at gens threads)
unfolding with_member
threads_again seq None true file line at gens threads = refl
threads_again seq None false file line at gens threads = refl
threads_again seq (Some id) true file line at gens threads = refl
threads_again seq (Some id) false file line at gens threads = refl

again_at : (seq : ℕ) (id : Option ℕ) (b : Body) →
    put_all (with_member (codes "seq") (count_json seq) (with_id id (body_members b))) no_members ≡ with_member (codes "seq") (count_json seq) (with_id id (body_members b))
unfolding with_member with_place
again_at seq None (body.Break bp slots) = refl
again_at seq None body.Delete = refl
again_at seq None (body.Watch slots wp) = refl
again_at seq None body.Unwatch = refl
again_at seq None body.Continue = refl
again_at seq None body.Reverse = refl
again_at seq None body.Step = refl
again_at seq None body.Back = refl
again_at seq None (body.Pause at) = refl
again_at seq None (body.Threads at gens line threads) = threads_again seq None (file_of line == 0) (file_of line) (line_in line) (at_json at) (gens_json gens) (names_json threads)
again_at seq None (body.Values values) = refl
again_at seq None (body.Eval value) = refl
again_at seq None (body.Drop rows) = refl
again_at seq None (body.Status at bps listeners mode) = refl
again_at seq None body.Bye = refl
again_at seq None body.TooLong = refl
again_at seq None body.NotJson = refl
again_at seq None (body.BadShape field) = refl
again_at seq None body.UnknownCmd = refl
again_at seq None (body.NoSite line) = site_again seq None (file_of line == 0) (file_of line) (line_in line)
again_at seq None (body.NoInstance instance) = refl
again_at seq None (body.BadCondAt offset) = refl
again_at seq None (body.BadCondName name) = refl
again_at seq None (body.CondRemoved name slot) = refl
again_at seq None (body.CondUnset name slot) = refl
again_at seq None (body.Busy mode) = refl
again_at seq None body.NotRunning = refl
again_at seq None (body.NoStop at) = refl
again_at seq None (body.TooMany limit) = refl
again_at seq None (body.NoBreakpoint bp) = refl
again_at seq None (body.NoListener k) = refl
again_at seq None (body.TooManyWatches limit) = refl
again_at seq None (body.NoWatch wp) = refl
again_at seq (Some id) (body.Break bp slots) = refl
again_at seq (Some id) body.Delete = refl
again_at seq (Some id) (body.Watch slots wp) = refl
again_at seq (Some id) body.Unwatch = refl
again_at seq (Some id) body.Continue = refl
again_at seq (Some id) body.Reverse = refl
again_at seq (Some id) body.Step = refl
again_at seq (Some id) body.Back = refl
again_at seq (Some id) (body.Pause at) = refl
again_at seq (Some id) (body.Threads at gens line threads) = threads_again seq (Some id) (file_of line == 0) (file_of line) (line_in line) (at_json at) (gens_json gens) (names_json threads)
again_at seq (Some id) (body.Values values) = refl
again_at seq (Some id) (body.Eval value) = refl
again_at seq (Some id) (body.Drop rows) = refl
again_at seq (Some id) (body.Status at bps listeners mode) = refl
again_at seq (Some id) body.Bye = refl
again_at seq (Some id) body.TooLong = refl
again_at seq (Some id) body.NotJson = refl
again_at seq (Some id) (body.BadShape field) = refl
again_at seq (Some id) body.UnknownCmd = refl
again_at seq (Some id) (body.NoSite line) = site_again seq (Some id) (file_of line == 0) (file_of line) (line_in line)
again_at seq (Some id) (body.NoInstance instance) = refl
again_at seq (Some id) (body.BadCondAt offset) = refl
again_at seq (Some id) (body.BadCondName name) = refl
again_at seq (Some id) (body.CondRemoved name slot) = refl
again_at seq (Some id) (body.CondUnset name slot) = refl
again_at seq (Some id) (body.Busy mode) = refl
again_at seq (Some id) body.NotRunning = refl
again_at seq (Some id) (body.NoStop at) = refl
again_at seq (Some id) (body.TooMany limit) = refl
again_at seq (Some id) (body.NoBreakpoint bp) = refl
again_at seq (Some id) (body.NoListener k) = refl
again_at seq (Some id) (body.TooManyWatches limit) = refl
again_at seq (Some id) (body.NoWatch wp) = refl

pub replies_read_back : RepliesReadBack
replies_read_back r h = text_back (reply_members r) (again_at r.seq r.id r.body) (reply_round r h)

-- ---- notices

watched_round : (watches : List ℕ) (ms : Members) → AreCounts watches → AllRound 3 ms → AllRound 3 (with_watches watches ms)
watched_round [] ms w h = h
watched_round (wp ∷ watches) ms w h = all_with 3 (codes "watches") (counts_json (wp ∷ watches)) ms refl (counts_round (wp ∷ watches) w) h

told_round : (n : Notice) → NoticeIsText n → AllRound 3 (told_members n)
told_round (notice.Stopped note gens paths watches) h =
    let first = two_members (codes "cycle") (count_json note.cycle) (codes "slot") (count_json note.slot) in
    let lined = with_place note.line first in
    watched_round watches _ h.1.1
    (all_with 3 (codes "threads") (names_json paths) (with_member (codes "gens") (gens_json gens) lined) refl (names_round paths h.1.0.1)
    (all_with 3 (codes "gens") (gens_json gens) lined refl (gens_round gens h.1.0.0)
    (place_round note.line first h.0.1
    (all_two 3 (codes "cycle") (count_json note.cycle) (codes "slot") (count_json note.slot) refl (round_count 3 note.cycle h.0.0.0) refl (round_count 3 note.slot h.0.0.1)))))
told_round notice.Ended h = tt
told_round notice.Start h = tt
told_round (notice.Rows k rows) h = all_two 3 (codes "k") (count_json k) (codes "rows") (rows_json rows) refl (round_count 3 k h.0) refl (rows_round rows h.1)

word_ascii : (n : Notice) → are_ascii (notice_word n) ≡ true
word_ascii (notice.Stopped note gens paths watches) = refl
word_ascii notice.Ended = refl
word_ascii notice.Start = refl
word_ascii (notice.Rows k rows) = refl

notice_round : (n : Notice) → NoticeIsText n → AllRound 3 (notice_members n)
notice_round n h = all_with 3 (codes "notice") (string (notice_word n)) (told_members n) refl (word_round 3 (notice_word n) (word_ascii n)) (told_round n h)

stop_again : (first : Bool) (file line : ℕ) (cycle slot gens paths : Data) (watches : List ℕ) → AreInOrder (stopped_members first file line cycle slot gens paths watches)
unfolding with_member
stop_again true file line cycle slot gens paths [] = refl
stop_again false file line cycle slot gens paths [] = refl
stop_again true file line cycle slot gens paths (wp ∷ watches) = refl
stop_again false file line cycle slot gens paths (wp ∷ watches) = refl

notice_again : (n : Notice) → put_all (notice_members n) no_members ≡ notice_members n
unfolding with_member with_place
notice_again (notice.Stopped note gens paths watches) =
    stop_again (file_of note.line == 0) (file_of note.line) (line_in note.line) (count_json note.cycle) (count_json note.slot) (gens_json gens) (names_json paths) watches
notice_again notice.Ended = refl
notice_again notice.Start = refl
notice_again (notice.Rows k rows) = refl

pub notices_read_back : NoticesReadBack
notices_read_back n h = text_back (notice_members n) (notice_again n) (notice_round n h)
