-- A request that a client writes is asked.
use Rattle.std.proofs.Common.{◌≡◌, ℕ, ◌<◌, ◌^◌, ◌==◌, Bool, true, false, cond, List, length, nat_lt, codes, Option, Some, None, Ok, Err, IfSome, IsUtf8, refl, sym, ap, ◌∙◌, arith, lt-ltb}
use Rattle.std.proofs.lemmas.Bool.{eqb-true}
use Rattle.std.proofs.lemmas.Bool.Decides.{nat_tests}
use Rattle.json.proofs.Printed.Utf8.{are_ascii}
use Rattle.places.specs.Places.{place, file_of, line_in}
use Rattle.places.proofs.Places.{is_of}
use Rattle.machine_core.specs.declared.request.Asked.TheVariants.{Good}
use Rattle.machine_core.specs.declared.request.Cmd.{Cmd}
use Rattle.machine_core.specs.declared.request.Cmd.TheVariants as cmd
use Rattle.machine_core.specs.declared.request.Request.{Request}
use Rattle.serde_json.specs.Data.{Members, no_members, object, string}
use Rattle.symtab_json.specs.Files.{count_json}
use Rattle.symtab_json.specs.Told.{json_of}
use Rattle.symtab_json.proofs.Rounds.{round_count, round_string}
use Rattle.req_json.specs.declared.field.FieldName.TheVariants as field
use Rattle.req_json.specs.Fields.{unless_wrong, with_field}
use Rattle.req_json.specs.Values.{file_unless, with_place}
use Rattle.req_json.specs.Asked.{asked_cmd, asked_json, asked_tree, too_long}
use Rattle.req_json.specs.Objects.{with_member}
use Rattle.req_json.specs.Replies.{with_id}
use Rattle.req_json.specs.Requests.{CmdIsText, RequestIsText, RequestsAreAsked, cmd_fields, cmd_word, request_members, request_text, with_optional}
use Rattle.req_json.proofs.ReadBack.{id_round, place_round}
use Rattle.req_json.proofs.Round.{AllRound, all_one, all_two, all_with, put_all, text_back, word_round}

optional_round : (key : List ℕ) (text : Option (List ℕ)) (ms : Members) → are_ascii key ≡ true → IfSome text IsUtf8 → AllRound 3 ms → AllRound 3 (with_optional key text ms)
optional_round key None ms named u h = h
optional_round key (Some text) ms named u h = all_with 3 key (string text) ms named (round_string 3 text u) h

placed : (line : ℕ) → line < 2 ^ 30 → AllRound 3 (with_place line no_members)
placed line h = let whole : line < 2 ^ 64 = omega (arith, h) in place_round line no_members whole tt

fields_round : (c : Cmd) → CmdIsText c → AllRound 3 (cmd_fields c)
fields_round (cmd.Break line instance condition) h =
    let first = with_place line no_members in
    optional_round (codes "cond") condition (with_optional (codes "instance") instance first) refl h.1.1
    (optional_round (codes "instance") instance first refl h.1.0 (placed line h.0))
fields_round (cmd.Delete bp) h = all_one 3 (codes "bp") (count_json bp) refl (round_count 3 bp h)
fields_round (cmd.Watch line instance expr) h =
    all_with 3 (codes "expr") (string expr) (with_member (codes "instance") (string instance) (with_place line no_members)) refl (round_string 3 expr h.1.1)
    (all_with 3 (codes "instance") (string instance) (with_place line no_members) refl (round_string 3 instance h.1.0) (placed line h.0))
fields_round (cmd.Unwatch wp) h = all_one 3 (codes "wp") (count_json wp) refl (round_count 3 wp h)
fields_round cmd.Continue h = tt
fields_round cmd.Reverse h = tt
fields_round (cmd.Step instance) h = optional_round (codes "instance") instance no_members refl h tt
fields_round (cmd.Back instance) h = optional_round (codes "instance") instance no_members refl h tt
fields_round cmd.Pause h = tt
fields_round cmd.Threads h = tt
fields_round (cmd.Values instance) h = all_one 3 (codes "instance") (string instance) refl (round_string 3 instance h)
fields_round (cmd.Eval instance expr) h = all_two 3 (codes "instance") (string instance) (codes "expr") (string expr) refl (round_string 3 instance h.0) refl (round_string 3 expr h.1)
fields_round (cmd.Drop k) h = all_one 3 (codes "k") (count_json k) refl (round_count 3 k h)
fields_round cmd.Status h = tt
fields_round cmd.Bye h = tt

word_ascii : (c : Cmd) → are_ascii (cmd_word c) ≡ true
word_ascii (cmd.Break line instance condition) = refl
word_ascii (cmd.Delete bp) = refl
word_ascii (cmd.Watch line instance expr) = refl
word_ascii (cmd.Unwatch wp) = refl
word_ascii cmd.Continue = refl
word_ascii cmd.Reverse = refl
word_ascii (cmd.Step instance) = refl
word_ascii (cmd.Back instance) = refl
word_ascii cmd.Pause = refl
word_ascii cmd.Threads = refl
word_ascii (cmd.Values instance) = refl
word_ascii (cmd.Eval instance expr) = refl
word_ascii (cmd.Drop k) = refl
word_ascii cmd.Status = refl
word_ascii cmd.Bye = refl

request_round : (r : Request) → RequestIsText r → AllRound 3 (request_members r)
request_round r h =
    id_round r.id (with_member (codes "cmd") (string (cmd_word r.cmd)) (cmd_fields r.cmd)) h.id
    (all_with 3 (codes "cmd") (string (cmd_word r.cmd)) (cmd_fields r.cmd) refl (word_round 3 (cmd_word r.cmd) (word_ascii r.cmd)) (fields_round r.cmd h.cmd))

-- ---- requests that tell a place, by the file and the line of it

abbrev break_members : (id : Option ℕ) (first : Bool) (file line : ℕ) (instance condition : Option (List ℕ)) → Members
break_members id first file line instance condition =
    with_id id (with_member (codes "cmd") (string (codes "break"))
    (with_optional (codes "cond") condition (with_optional (codes "instance") instance (file_unless first file (with_member (codes "line") (count_json line) no_members)))))

abbrev watch_members : (id : Option ℕ) (first : Bool) (file line : ℕ) (instance expr : List ℕ) → Members
watch_members id first file line instance expr =
    with_id id (with_member (codes "cmd") (string (codes "watch"))
    (with_member (codes "expr") (string expr) (with_member (codes "instance") (string instance) (file_unless first file (with_member (codes "line") (count_json line) no_members)))))

break_again : (id : Option ℕ) (first : Bool) (file line : ℕ) (instance condition : Option (List ℕ)) →
    put_all (break_members id first file line instance condition) no_members ≡ break_members id first file line instance condition
unfolding with_member
break_again None true file line None None = refl
break_again None true file line None (Some condition) = refl
break_again None true file line (Some instance) None = refl
break_again None true file line (Some instance) (Some condition) = refl
break_again None false file line None None = refl
break_again None false file line None (Some condition) = refl
break_again None false file line (Some instance) None = refl
break_again None false file line (Some instance) (Some condition) = refl
break_again (Some id) true file line None None = refl
break_again (Some id) true file line None (Some condition) = refl
break_again (Some id) true file line (Some instance) None = refl
break_again (Some id) true file line (Some instance) (Some condition) = refl
break_again (Some id) false file line None None = refl
break_again (Some id) false file line None (Some condition) = refl
break_again (Some id) false file line (Some instance) None = refl
break_again (Some id) false file line (Some instance) (Some condition) = refl

watch_again : (id : Option ℕ) (first : Bool) (file line : ℕ) (instance expr : List ℕ) →
    put_all (watch_members id first file line instance expr) no_members ≡ watch_members id first file line instance expr
unfolding with_member
watch_again None true file line instance expr = refl
watch_again None false file line instance expr = refl
watch_again (Some id) true file line instance expr = refl
watch_again (Some id) false file line instance expr = refl

-- the place of a line that is below 2^24, in file 0 and in another below 64
in_first : (id : Option ℕ) (file line : ℕ) (rest : ℕ → Cmd) → (file == 0) ≡ true → nat_lt line 16777216 ≡ true →
    asked_cmd id (with_field (with_field (unless_wrong field.Line (cond (nat_lt line 16777216) (Some line) None)) (λ l. Ok (place 0 l))) (λ at. Ok (rest at)))
    ≡ Good (record { id = id; cmd = rest (place file line) })
in_first id file line rest none small =
    ap (λ b. asked_cmd id (with_field (with_field (unless_wrong field.Line (cond b (Some line) None)) (λ l. Ok (place 0 l))) (λ at. Ok (rest at)))) small
    ∙ ap (λ n. Good (record { id = id; cmd = rest (place n line) })) (sym (eqb-true file 0 none))

in_other : (id : Option ℕ) (file line : ℕ) (rest : ℕ → Cmd) → nat_lt file 64 ≡ true → nat_lt line 16777216 ≡ true →
    asked_cmd id (with_field (with_field (cond (nat_lt file 64) (Ok file) (Err field.File))
    (λ f. with_field (unless_wrong field.Line (cond (nat_lt line 16777216) (Some line) None)) (λ l. Ok (place f l)))) (λ at. Ok (rest at)))
    ≡ Good (record { id = id; cmd = rest (place file line) })
in_other id file line rest few small =
    ap (λ b. asked_cmd id (with_field (with_field (cond b (Ok file) (Err field.File))
    (λ f. with_field (unless_wrong field.Line (cond (nat_lt line 16777216) (Some line) None)) (λ l. Ok (place f l)))) (λ at. Ok (rest at)))) few
    ∙ ap (λ b. asked_cmd id (with_field (with_field (unless_wrong field.Line (cond b (Some line) None)) (λ l. Ok (place file l))) (λ at. Ok (rest at)))) small

break_asked : (id : Option ℕ) (first : Bool) (file line : ℕ) (instance condition : Option (List ℕ)) → (file == 0) ≡ first → nat_lt file 64 ≡ true → nat_lt line 16777216 ≡ true →
    asked_tree (object (break_members id first file line instance condition)) ≡ Good (record { id = id; cmd = cmd.Break (place file line) instance condition })
unfolding with_member
break_asked None true file line None None is few small = in_first None file line (λ at. cmd.Break at None None) is small
break_asked None true file line None (Some condition) is few small = in_first None file line (λ at. cmd.Break at None (Some condition)) is small
break_asked None true file line (Some instance) None is few small = in_first None file line (λ at. cmd.Break at (Some instance) None) is small
break_asked None true file line (Some instance) (Some condition) is few small = in_first None file line (λ at. cmd.Break at (Some instance) (Some condition)) is small
break_asked None false file line None None is few small = in_other None file line (λ at. cmd.Break at None None) few small
break_asked None false file line None (Some condition) is few small = in_other None file line (λ at. cmd.Break at None (Some condition)) few small
break_asked None false file line (Some instance) None is few small = in_other None file line (λ at. cmd.Break at (Some instance) None) few small
break_asked None false file line (Some instance) (Some condition) is few small = in_other None file line (λ at. cmd.Break at (Some instance) (Some condition)) few small
break_asked (Some id) true file line None None is few small = in_first (Some id) file line (λ at. cmd.Break at None None) is small
break_asked (Some id) true file line None (Some condition) is few small = in_first (Some id) file line (λ at. cmd.Break at None (Some condition)) is small
break_asked (Some id) true file line (Some instance) None is few small = in_first (Some id) file line (λ at. cmd.Break at (Some instance) None) is small
break_asked (Some id) true file line (Some instance) (Some condition) is few small = in_first (Some id) file line (λ at. cmd.Break at (Some instance) (Some condition)) is small
break_asked (Some id) false file line None None is few small = in_other (Some id) file line (λ at. cmd.Break at None None) few small
break_asked (Some id) false file line None (Some condition) is few small = in_other (Some id) file line (λ at. cmd.Break at None (Some condition)) few small
break_asked (Some id) false file line (Some instance) None is few small = in_other (Some id) file line (λ at. cmd.Break at (Some instance) None) few small
break_asked (Some id) false file line (Some instance) (Some condition) is few small = in_other (Some id) file line (λ at. cmd.Break at (Some instance) (Some condition)) few small

watch_asked : (id : Option ℕ) (first : Bool) (file line : ℕ) (instance expr : List ℕ) → (file == 0) ≡ first → nat_lt file 64 ≡ true → nat_lt line 16777216 ≡ true →
    asked_tree (object (watch_members id first file line instance expr)) ≡ Good (record { id = id; cmd = cmd.Watch (place file line) instance expr })
unfolding with_member
watch_asked None true file line instance expr is few small = in_first None file line (λ at. cmd.Watch at instance expr) is small
watch_asked None false file line instance expr is few small = in_other None file line (λ at. cmd.Watch at instance expr) few small
watch_asked (Some id) true file line instance expr is few small = in_first (Some id) file line (λ at. cmd.Watch at instance expr) is small
watch_asked (Some id) false file line instance expr is few small = in_other (Some id) file line (λ at. cmd.Watch at instance expr) few small

file_small : (at : ℕ) → at < 2 ^ 30 → nat_lt (file_of at) 64 ≡ true
file_small at h = let small : file_of at < 64 = omega (arith, h) in lt-ltb (file_of at) 64 small

line_small : (at : ℕ) → nat_lt (line_in at) 16777216 ≡ true
line_small at = lt-ltb (line_in at) 16777216 (is_of at).1

-- the keys stand in order already
again_at : (id : Option ℕ) (c : Cmd) →
    put_all (with_id id (with_member (codes "cmd") (string (cmd_word c)) (cmd_fields c))) no_members ≡ with_id id (with_member (codes "cmd") (string (cmd_word c)) (cmd_fields c))
unfolding with_member with_place
again_at id (cmd.Break line instance condition) = break_again id (file_of line == 0) (file_of line) (line_in line) instance condition
again_at None (cmd.Delete bp) = refl
again_at id (cmd.Watch line instance expr) = watch_again id (file_of line == 0) (file_of line) (line_in line) instance expr
again_at None (cmd.Unwatch wp) = refl
again_at None cmd.Continue = refl
again_at None cmd.Reverse = refl
again_at None (cmd.Step None) = refl
again_at None (cmd.Step (Some instance)) = refl
again_at None (cmd.Back None) = refl
again_at None (cmd.Back (Some instance)) = refl
again_at None cmd.Pause = refl
again_at None cmd.Threads = refl
again_at None (cmd.Values instance) = refl
again_at None (cmd.Eval instance expr) = refl
again_at None (cmd.Drop k) = refl
again_at None cmd.Status = refl
again_at None cmd.Bye = refl
again_at (Some id) (cmd.Delete bp) = refl
again_at (Some id) (cmd.Unwatch wp) = refl
again_at (Some id) cmd.Continue = refl
again_at (Some id) cmd.Reverse = refl
again_at (Some id) (cmd.Step None) = refl
again_at (Some id) (cmd.Step (Some instance)) = refl
again_at (Some id) (cmd.Back None) = refl
again_at (Some id) (cmd.Back (Some instance)) = refl
again_at (Some id) cmd.Pause = refl
again_at (Some id) cmd.Threads = refl
again_at (Some id) (cmd.Values instance) = refl
again_at (Some id) (cmd.Eval instance expr) = refl
again_at (Some id) (cmd.Drop k) = refl
again_at (Some id) cmd.Status = refl
again_at (Some id) cmd.Bye = refl

-- what is asked by each
asked_at : (id : Option ℕ) (c : Cmd) → CmdIsText c → asked_tree (object (with_id id (with_member (codes "cmd") (string (cmd_word c)) (cmd_fields c)))) ≡ Good (record { id = id; cmd = c })
unfolding with_member with_place
asked_at id (cmd.Break line instance condition) h =
    break_asked id (file_of line == 0) (file_of line) (line_in line) instance condition refl (file_small line h.0) (line_small line) ∙ ap (λ n. Good (record { id = id; cmd = cmd.Break n instance condition })) (is_of line).0
asked_at None (cmd.Delete bp) h = refl
asked_at id (cmd.Watch line instance expr) h =
    watch_asked id (file_of line == 0) (file_of line) (line_in line) instance expr refl (file_small line h.0) (line_small line) ∙ ap (λ n. Good (record { id = id; cmd = cmd.Watch n instance expr })) (is_of line).0
asked_at None (cmd.Unwatch wp) h = refl
asked_at None cmd.Continue h = refl
asked_at None cmd.Reverse h = refl
asked_at None (cmd.Step None) h = refl
asked_at None (cmd.Step (Some instance)) h = refl
asked_at None (cmd.Back None) h = refl
asked_at None (cmd.Back (Some instance)) h = refl
asked_at None cmd.Pause h = refl
asked_at None cmd.Threads h = refl
asked_at None (cmd.Values instance) h = refl
asked_at None (cmd.Eval instance expr) h = refl
asked_at None (cmd.Drop k) h = refl
asked_at None cmd.Status h = refl
asked_at None cmd.Bye h = refl
asked_at (Some id) (cmd.Delete bp) h = refl
asked_at (Some id) (cmd.Unwatch wp) h = refl
asked_at (Some id) cmd.Continue h = refl
asked_at (Some id) cmd.Reverse h = refl
asked_at (Some id) (cmd.Step None) h = refl
asked_at (Some id) (cmd.Step (Some instance)) h = refl
asked_at (Some id) (cmd.Back None) h = refl
asked_at (Some id) (cmd.Back (Some instance)) h = refl
asked_at (Some id) cmd.Pause h = refl
asked_at (Some id) cmd.Threads h = refl
asked_at (Some id) (cmd.Values instance) h = refl
asked_at (Some id) (cmd.Eval instance expr) h = refl
asked_at (Some id) (cmd.Drop k) h = refl
asked_at (Some id) cmd.Status h = refl
asked_at (Some id) cmd.Bye h = refl

pub requests_are_asked : RequestsAreAsked
requests_are_asked r h short =
    let text = request_text r in
    let within : nat_lt 65536 (length text) ≡ false = grind (arith, nat_tests) in
    ap (λ b. cond b too_long (asked_json (json_of text))) within ∙ ap asked_json (text_back (request_members r) (again_at r.id r.cmd) (request_round r h)) ∙ asked_at r.id r.cmd h.cmd
