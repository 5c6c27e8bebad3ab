-- What a client reads from a notice: from the text the JSON value, and from that what was told. None is for a value that no notice is.
use Rattle.std.specs.Prelude.{◌≡◌, ℕ, ℤ, List, [], length, codes, bytes_eq, Option, Some, None, option_map, option_and_then, if◌then◌else◌}
use Rattle.machine_core.specs.declared.turn.Notice.{Notice}
use Rattle.machine_core.specs.declared.turn.Notice.TheVariants as notice
use Rattle.serde_json.specs.Data.{Data}
use Rattle.serde_json.specs.Find.{as_str, get}
use Rattle.symtab_json.specs.Entries.{told_count, told_member}
use Rattle.symtab_json.specs.Told.{json_of}
use Rattle.req_json.specs.Client.{told_counts, told_names, told_rows, told_site, told_variables}
use Rattle.req_json.specs.Notices.{notice_text}
use Rattle.req_json.specs.ReadBack.{NoticeIsText}

-- the numbers of watches, which are left out where there are none
abbrev pub told_watches : Option Data → Option (List ℕ)
told_watches None = Some []
told_watches (Some d) = told_counts d

-- a stop. How many threads and watches there are is told by their lists
abbrev pub made_stop : (cycle slot line : ℕ) → Option (List (List ℕ × ℤ)) → Option (List (List ℕ)) → Option (List ℕ) → Option Notice
made_stop cycle slot line None paths watches = None
made_stop cycle slot line (Some gens) None watches = None
made_stop cycle slot line (Some gens) (Some paths) None = None
made_stop cycle slot line (Some gens) (Some paths) (Some watches) =
    Some (notice.Stopped (record { cycle = cycle; slot = slot; line = line; threads = length paths; watches = length watches }) gens paths watches)

abbrev pub told_stop : Data → Option Notice
told_stop d =
    option_and_then (λ cycle. option_and_then (λ slot. option_and_then (λ line.
    made_stop cycle slot line (told_member told_variables (codes "gens") d) (told_member told_names (codes "threads") d) (told_watches (get (codes "watches") d)))
    (told_site d)) (told_member told_count (codes "slot") d)) (told_member told_count (codes "cycle") d)

-- what a listener counted
abbrev pub told_counted : Data → Option Notice
told_counted d = option_and_then (λ k. option_map (notice.Rows k) (told_member told_rows (codes "rows") d)) (told_member told_count (codes "k") d)

-- each by what it is called
abbrev pub told_called : Data → List ℕ → Option Notice
told_called d word =
    if bytes_eq word (codes "stopped") then told_stop d else
    (if bytes_eq word (codes "ended") then Some notice.Ended else
    (if bytes_eq word (codes "start") then Some notice.Start else
    (if bytes_eq word (codes "rows") then told_counted d else None)))

abbrev pub told_notice : Data → Option Notice
told_notice d = option_and_then (told_called d) (told_member as_str (codes "notice") d)

-- what was told, with the counts that the lists tell
abbrev pub heard_notice : Notice → Notice
heard_notice (notice.Stopped note gens paths watches) = notice.Stopped (record note { threads = length paths; watches = length watches }) gens paths watches
heard_notice notice.Ended = notice.Ended
heard_notice notice.Start = notice.Start
heard_notice (notice.Rows k rows) = notice.Rows k rows

-- a client reads from the text of a notice what was told
abbrev pub NoticesAreTold : Type 0
NoticesAreTold = (n : Notice) → NoticeIsText n → option_and_then told_notice (json_of (notice_text n)) ≡ Some (heard_notice n)
