-- What stands in replies and notices under each kind of key.
use Rattle.std.specs.Prelude.{ℕ, ◌==◌, ℤ, List, Bool, true, false, codes}
use Rattle.places.specs.Places.{file_of, line_in}
use Rattle.bv_core.specs.Text.{shown}
use Rattle.bv_core.specs.declared.reference.Sample.{Sample}
use Rattle.bv_core.specs.declared.reference.Sample.TheVariants as sample
use Rattle.serde_json.specs.Data.{Data, Members, number, object, string}
use Rattle.serde_json.specs.Find.{of_integer}
use Rattle.serde_json.specs.Written.{compact_text}
use Rattle.machine_core.specs.declared.reply.At.{At}
use Rattle.machine_core.specs.declared.reply.At.TheVariants as at
use Rattle.machine_core.specs.declared.reply.Going.{Going}
use Rattle.machine_core.specs.declared.reply.Going.TheVariants as going
use Rattle.machine_core.specs.declared.reply.Shown.{Shown}
use Rattle.machine_core.specs.declared.reply.Shown.TheVariants as shows
use Rattle.symtab_json.specs.Files.{count_json, list_json, pair_json}
use Rattle.req_json.specs.Objects.{MemberTexts, put_text, two_members, with_member}

-- ---- places in the source: the line in its file, and the number of the file unless it is file 0

abbrev pub file_unless : Bool → ℕ → Members → Members
file_unless true file ms = ms
file_unless false file ms = with_member (codes "file") (count_json file) ms

unfoldable pub with_place : ℕ → Members → Members
with_place at ms = file_unless (file_of at == 0) (file_of at) (with_member (codes "line") (count_json (line_in at)) ms)

-- the same of members that are kept as texts
abbrev pub file_texts_unless : Bool → ℕ → MemberTexts → MemberTexts
file_texts_unless true file ms = ms
file_texts_unless false file ms = put_text (codes "file") (compact_text (count_json file)) ms

unfoldable pub place_texts : ℕ → MemberTexts → MemberTexts
place_texts at ms = file_texts_unless (file_of at == 0) (file_of at) (put_text (codes "line") (compact_text (count_json (line_in at))) ms)

-- ---- positions, values

-- a position
abbrev pub position_members : (cycle slot : ℕ) → Members
position_members cycle slot = two_members (codes "cycle") (count_json cycle) (codes "slot") (count_json slot)

-- where a session stands
abbrev pub at_json : At → Data
at_json at.Start = string (codes "start")
at_json at.End = string (codes "end")
at_json (at.Position cycle slot) = object (position_members cycle slot)

-- whether it runs
abbrev pub going_json : Going → Data
going_json going.Idle = string (codes "idle")
going_json going.Forward = string (codes "forward")
going_json going.Backward = string (codes "backward")

-- a value, as a literal; or that it is not known
abbrev pub sample_json : Sample → Data
sample_json (sample.Known bits) = string (shown bits)
sample_json sample.Unknown = string (codes "x")

-- what is shown of a name
abbrev pub shown_json : Shown → Data
shown_json (shows.Value bits) = string (shown bits)
shown_json shows.Unknown = string (codes "x")
shown_json shows.Unset = string (codes "unset")
shown_json shows.Removed = string (codes "removed")

-- ---- lists

abbrev pub counts_json : List ℕ → Data
counts_json ns = list_json count_json ns

abbrev pub names_json : List (List ℕ) → Data
names_json names = list_json string names

-- a name with what is shown of it
abbrev pub named_json : List ℕ × Shown → Data
named_json v = pair_json (string v.0) (shown_json v.1)

abbrev pub values_json : List (List ℕ × Shown) → Data
values_json vs = list_json named_json vs

-- a generator variable with its number
abbrev pub variable_json : List ℕ × ℤ → Data
variable_json v = pair_json (string v.0) (number (of_integer v.1))

abbrev pub gens_json : List (List ℕ × ℤ) → Data
gens_json gens = list_json variable_json gens

-- a pair of a listener
abbrev pub row_pair_json : ℕ × ℕ → Data
row_pair_json row = pair_json (count_json row.0) (count_json row.1)

abbrev pub rows_json : List (ℕ × ℕ) → Data
rows_json rows = list_json row_pair_json rows
