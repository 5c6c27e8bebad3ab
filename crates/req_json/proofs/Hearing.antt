-- A client reads from a notice what was told.
use Rattle.std.proofs.Common.{◌≡◌, ℕ, ◌==◌, ℤ, Bool, true, false, List, [], ◌∷◌, length, Option, Some, option_map, option_and_then, refl, ap, ◌∙◌}
use Rattle.places.specs.Places.{place, file_of, line_in}
use Rattle.places.proofs.Places.{is_of}
use Rattle.machine_core.specs.declared.turn.Notice.{Notice}
use Rattle.machine_core.specs.declared.turn.Notice.TheVariants as notice
use Rattle.serde_json.specs.Data.{object}
use Rattle.symtab_json.specs.Files.{count_json}
use Rattle.req_json.specs.Objects.{with_member}
use Rattle.req_json.specs.Values.{counts_json, gens_json, names_json, with_place}
use Rattle.req_json.specs.Notices.{notice_json}
use Rattle.req_json.specs.ReadBack.{NoticeIsText, VariablesFit}
use Rattle.req_json.specs.Client.{told_counts, told_names, told_variables}
use Rattle.req_json.specs.Hearing.{NoticesAreTold, heard_notice, made_stop, told_notice}
use Rattle.req_json.proofs.Client.{counts_told, first_site, gens_told, names_told, rows_told}
use Rattle.req_json.proofs.ReadBack.{notices_read_back, stopped_members}

-- a stop at this place
abbrev stop : (cycle slot line : ℕ) → List (List ℕ × ℤ) → List (List ℕ) → List ℕ → Notice
stop cycle slot line gens paths watches = notice.Stopped (record { cycle = cycle; slot = slot; line = line; threads = length paths; watches = length watches }) gens paths watches

lists_told : (cycle slot line : ℕ) (gens : List (List ℕ × ℤ)) (paths : List (List ℕ)) (watches : List ℕ) (told : Option (List ℕ)) → VariablesFit gens → told ≡ Some watches →
    made_stop cycle slot line (told_variables (gens_json gens)) (told_names (names_json paths)) told ≡ Some (stop cycle slot line gens paths watches)
lists_told cycle slot line gens paths watches told h is =
    ap (λ g. made_stop cycle slot line g (told_names (names_json paths)) told) (gens_told gens h)
    ∙ ap (λ p. made_stop cycle slot line (Some gens) p told) (names_told paths)
    ∙ ap (made_stop cycle slot line (Some gens) (Some paths)) is

stop_told : (first : Bool) (file line cycle slot : ℕ) (gens : List (List ℕ × ℤ)) (paths : List (List ℕ)) (watches : List ℕ) → (file == 0) ≡ first → VariablesFit gens →
    told_notice (object (stopped_members first file line (count_json cycle) (count_json slot) (gens_json gens) (names_json paths) watches)) ≡ Some (stop cycle slot (place file line) gens paths watches)
unfolding with_member
stop_told true file line cycle slot gens paths [] is h =
    lists_told cycle slot (place 0 line) gens paths [] (Some []) h refl ∙ ap (λ n. Some (stop cycle slot n gens paths [])) (first_site file line is)
stop_told false file line cycle slot gens paths [] is h = lists_told cycle slot (place file line) gens paths [] (Some []) h refl
stop_told true file line cycle slot gens paths (wp ∷ watches) is h =
    lists_told cycle slot (place 0 line) gens paths (wp ∷ watches) (told_counts (counts_json (wp ∷ watches))) h (counts_told (wp ∷ watches))
    ∙ ap (λ n. Some (stop cycle slot n gens paths (wp ∷ watches))) (first_site file line is)
stop_told false file line cycle slot gens paths (wp ∷ watches) is h =
    lists_told cycle slot (place file line) gens paths (wp ∷ watches) (told_counts (counts_json (wp ∷ watches))) h (counts_told (wp ∷ watches))

tree_told : (n : Notice) → NoticeIsText n → told_notice (notice_json n) ≡ Some (heard_notice n)
unfolding with_member with_place
tree_told (notice.Stopped note gens paths watches) h =
    stop_told (file_of note.line == 0) (file_of note.line) (line_in note.line) note.cycle note.slot gens paths watches refl h.1.0.0
    ∙ ap (λ n. Some (stop note.cycle note.slot n gens paths watches)) (is_of note.line).0
tree_told notice.Ended h = refl
tree_told notice.Start h = refl
tree_told (notice.Rows k rows) h = ap (option_map (notice.Rows k)) (rows_told rows)

pub notices_are_told : NoticesAreTold
notices_are_told n h = ap (option_and_then told_notice) (notices_read_back n h) ∙ tree_told n h
