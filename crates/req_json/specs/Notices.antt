-- The text of each notice: compact JSON, whose keys stand in the order of their bytes.
use Rattle.std.specs.Prelude.{ℕ, List, [], ◌∷◌, codes}
use Rattle.serde_json.specs.Data.{Data, Members, no_members, object, string}
use Rattle.serde_json.specs.Written.{compact_text}
use Rattle.machine_core.specs.declared.turn.Notice.{Notice}
use Rattle.machine_core.specs.declared.turn.Notice.TheVariants as notice
use Rattle.symtab_json.specs.Files.{count_json}
use Rattle.req_json.specs.Objects.{two_members, with_member}
use Rattle.req_json.specs.Values.{counts_json, gens_json, names_json, rows_json, with_place}

-- the numbers of the watches that match, where there are some
abbrev pub with_watches : List ℕ → Members → Members
with_watches [] ms = ms
with_watches (wp ∷ watches) ms = with_member (codes "watches") (counts_json (wp ∷ watches)) ms

-- what each notice has of its own
abbrev pub told_members : Notice → Members
told_members (notice.Stopped note gens paths watches) =
    with_watches watches (with_member (codes "threads") (names_json paths) (with_member (codes "gens") (gens_json gens)
    (with_place note.line (two_members (codes "cycle") (count_json note.cycle) (codes "slot") (count_json note.slot)))))
told_members notice.Ended = no_members
told_members notice.Start = no_members
told_members (notice.Rows k rows) = two_members (codes "k") (count_json k) (codes "rows") (rows_json rows)

-- what a notice is called
abbrev pub notice_word : Notice → List ℕ
notice_word (notice.Stopped note gens paths watches) = codes "stopped"
notice_word notice.Ended = codes "ended"
notice_word notice.Start = codes "start"
notice_word (notice.Rows k rows) = codes "rows"

abbrev pub notice_members : Notice → Members
notice_members n = with_member (codes "notice") (string (notice_word n)) (told_members n)

-- the JSON value that a notice is
abbrev pub notice_json : Notice → Data
notice_json n = object (notice_members n)

-- its bytes
abbrev pub notice_text : Notice → List ℕ
notice_text n = compact_text (notice_json n)
