-- What is written of a reply or a notice is read back by any reader of JSON.
use Rattle.std.specs.Prelude.{◌≡◌, ℕ, ℤ, ◌<◌, ◌^◌, List, Some, IfSome, IsUtf8, ⊤}
use Rattle.std.specs.Int.Signed.{mag}
use Rattle.std.specs.List.{AllByRecursion}
use Rattle.bv_core.specs.Value.{IsBits}
use Rattle.bv_core.specs.declared.reference.Sample.{Sample}
use Rattle.bv_core.specs.declared.reference.Sample.TheVariants as sample
use Rattle.machine_core.specs.declared.reply.At.{At}
use Rattle.machine_core.specs.declared.reply.At.TheVariants as at
use Rattle.machine_core.specs.declared.reply.Shown.{Shown}
use Rattle.machine_core.specs.declared.reply.Shown.TheVariants as shows
use Rattle.machine_core.specs.declared.reply.Body.{Body}
use Rattle.machine_core.specs.declared.reply.Body.TheVariants as body
use Rattle.machine_core.specs.declared.reply.Reply.{Reply}
use Rattle.machine_core.specs.declared.turn.Notice.{Notice}
use Rattle.machine_core.specs.declared.turn.Notice.TheVariants as notice
use Rattle.symtab_json.specs.Told.{json_of}
use Rattle.req_json.specs.Replies.{reply_json, reply_text}
use Rattle.req_json.specs.Notices.{notice_json, notice_text}

-- ---- names that are UTF-8, numbers that fit 64 bits, and values, as every `Bv` is one

abbrev pub IsCount : ℕ → Type 0
IsCount n = n < 2 ^ 64

abbrev pub AreCounts : List ℕ → Type 0
AreCounts ns = AllByRecursion IsCount ns

abbrev pub AreNames : List (List ℕ) → Type 0
AreNames names = AllByRecursion IsUtf8 names

-- a name and a number that fits 64 bits with its sign: `mag` is n of n and of -1 - n
abbrev pub VariableFits : List ℕ × ℤ → Type 0
VariableFits v = IsUtf8 v.0 × (mag v.1 < 2 ^ 63)

abbrev pub VariablesFit : List (List ℕ × ℤ) → Type 0
VariablesFit gens = AllByRecursion VariableFits gens

abbrev pub RowPairFits : ℕ × ℕ → Type 0
RowPairFits row = IsCount row.0 × IsCount row.1

abbrev pub RowPairsFit : List (ℕ × ℕ) → Type 0
RowPairsFit rows = AllByRecursion RowPairFits rows

abbrev pub AtFits : At → Type 0
AtFits at.Start = ⊤
AtFits at.End = ⊤
AtFits (at.Position cycle slot) = IsCount cycle × IsCount slot

abbrev pub IsSampleValue : Sample → Type 0
IsSampleValue (sample.Known bits) = IsBits bits
IsSampleValue sample.Unknown = ⊤

abbrev pub IsShownValue : Shown → Type 0
IsShownValue (shows.Value bits) = IsBits bits
IsShownValue shows.Unknown = ⊤
IsShownValue shows.Unset = ⊤
IsShownValue shows.Removed = ⊤

abbrev pub IsNamedValue : List ℕ × Shown → Type 0
IsNamedValue v = IsUtf8 v.0 × IsShownValue v.1

-- ---- replies and notices of such

abbrev pub BodyIsText : Body → Type 0
BodyIsText (body.Break bp slots) = IsCount bp × AreCounts slots
BodyIsText body.Delete = ⊤
BodyIsText (body.Watch slots wp) = AreCounts slots × IsCount wp
BodyIsText body.Unwatch = ⊤
BodyIsText body.Continue = ⊤
BodyIsText body.Reverse = ⊤
BodyIsText body.Step = ⊤
BodyIsText body.Back = ⊤
BodyIsText (body.Pause at) = AtFits at
BodyIsText (body.Threads at gens line threads) = (AtFits at × VariablesFit gens) × (IsCount line × AreNames threads)
BodyIsText (body.Values values) = AllByRecursion IsNamedValue values
BodyIsText (body.Eval value) = IsSampleValue value
BodyIsText (body.Drop rows) = RowPairsFit rows
BodyIsText (body.Status at bps listeners mode) = (AtFits at × AreCounts bps) × AreCounts listeners
BodyIsText body.Bye = ⊤
BodyIsText body.TooLong = ⊤
BodyIsText body.NotJson = ⊤
BodyIsText (body.BadShape field) = IsUtf8 field
BodyIsText body.UnknownCmd = ⊤
BodyIsText (body.NoSite line) = IsCount line
BodyIsText (body.NoInstance instance) = IsUtf8 instance
BodyIsText (body.BadCondAt offset) = IsCount offset
BodyIsText (body.BadCondName name) = IsUtf8 name
BodyIsText (body.CondRemoved name slot) = IsUtf8 name × IsCount slot
BodyIsText (body.CondUnset name slot) = IsUtf8 name × IsCount slot
BodyIsText (body.Busy mode) = ⊤
BodyIsText body.NotRunning = ⊤
BodyIsText (body.NoStop at) = AtFits at
BodyIsText (body.TooMany limit) = IsCount limit
BodyIsText (body.NoBreakpoint bp) = IsCount bp
BodyIsText (body.NoListener k) = IsCount k
BodyIsText (body.TooManyWatches limit) = IsCount limit
BodyIsText (body.NoWatch wp) = IsCount wp

pub record ReplyIsText (r : Reply) : Type 0 where
  pub seq : IsCount r.seq
  pub id : IfSome r.id IsCount
  pub body : BodyIsText r.body

abbrev pub NoticeIsText : Notice → Type 0
NoticeIsText (notice.Stopped note gens paths watches) = ((IsCount note.cycle × IsCount note.slot) × IsCount note.line) × ((VariablesFit gens × AreNames paths) × AreCounts watches)
NoticeIsText notice.Ended = ⊤
NoticeIsText notice.Start = ⊤
NoticeIsText (notice.Rows k rows) = IsCount k × RowPairsFit rows

-- ---- what is read back

-- the text of a reply is read as the value that the reply is, key for key
abbrev pub RepliesReadBack : Type 0
RepliesReadBack = (r : Reply) → ReplyIsText r → json_of (reply_text r) ≡ Some (reply_json r)

abbrev pub NoticesReadBack : Type 0
NoticesReadBack = (n : Notice) → NoticeIsText n → json_of (notice_text n) ≡ Some (notice_json n)
