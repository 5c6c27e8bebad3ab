-- How a replay ends, from what was judged and written.
use Rattle.std.proofs.Common.{◌≡◌, ◌<◌, ◌≤◌, ℕ, Bool, true, false, ◌||◌, ◌==◌, List, length, Option, Some, None, Result, Ok, Err, refl, sym, ap, ◌∙◌, subst, IsTrue, ◌⊎◌, inl, inr, arith}
use Rattle.std.specs.Prelude.{IfSome, OnErr}
use Rattle.std.proofs.lemmas.Bool.Decides.{nat_tests}
use Rattle.io_edge.specs.Taken.{Appends, AppendsFront, Grows}
use Rattle.io_edge.proofs.Growth.{no_growth}
use Rattle.io_edge.proofs.Stops.{grows_whole, grows_front}
use Rattle.listen.specs.Pairs.{Heard}
use Rattle.symtab.specs.declared.parts.TableParts.{TableParts}
use Rattle.symtab_json.specs.declared.fault.TableFault.{TableFault}
use Rattle.symtab_json.specs.Told.{told_table}
use Rattle.trace_core.specs.Samples.{Samples}
use Rattle.trace_world.specs.TraceWorld.{trace_world}
use Rattle.vcd_trace.specs.Kept.{Replayed, samples_of}
use Rattle.trace_judge.specs.declared.trace_fault.TraceFault.{TraceFault}
use Rattle.trace_judge.specs.Refusals.{table_line, trace_line}
use Rattle.io_edge.specs.Files.{Finds}
use Rattle.trace_judge.specs.Judgement.{JudgesTrace, told_trace}
use Rattle.machine_core.proofs.Readers.{some_reader}
use Rattle.batch_run.specs.Texts.{batch_text, most_requests, requests_fault}
use Rattle.replay_run.specs.Asked.{Names, Contents, HoldsTable, HoldsTrace, HoldsRequests, AsksReplay, NoTable, NoTrace, NoRequests, Accepted, AsksRefused, AsksByStatus, names_of, TakesFileLine, EndsAsAsked, TakesFront, TakesSome, Completes, is_status}
use Rattle.batch_run.specs.Batch.{TakesOutput, TakesOutputFront}
use Rattle.replay_run.specs.Judged.{HasLine, Judges, asked_for, judged_status, IsTextOf, TakesText, TakesTextFront, TakesWalk, TakesWalkFront}
use Rattle.replay_run.specs.declared.judge.Judged.{Judged}
use Rattle.replay_run.specs.declared.judge.Judged.TheVariants as judged

-- ---- statuses

either : (a b : Bool) → (a || b) ≡ true → (a ≡ true) ⊎ (b ≡ true)
either true b e = inl refl
either false b e = inr e

same_number : (a b : ℕ) → (a == b) ≡ true → a ≡ b
same_number a b e = grind (arith, nat_tests, e)

low : (status n : ℕ) → (status == n) ≡ true → n < 7 → status < 7
low status n e l = let same : status ≡ n = same_number status n e in omega arith

-- a status is below 7, or 7, 8 or 9
late_status : (status : ℕ) → is_status status ≡ true → (status < 7) ⊎ ((status ≡ 7) ⊎ ((status ≡ 8) ⊎ (status ≡ 9)))
late_status status e = elim (either _ (status == 9) e) [
  | inr is ↦ inr (inr (inr (same_number status 9 is)))
  | inl more ↦ elim (either _ (status == 8) more) [
    | inr is ↦ inr (inr (inl (same_number status 8 is)))
    | inl some ↦ elim (either _ (status == 7) some) [
      | inr is ↦ inr (inl (same_number status 7 is))
      | inl few ↦ elim (either _ (status == 6) few) [
        | inr is ↦ inl (low status 6 is (omega arith))
        | inl two ↦ elim (either (status == 0) (status == 5) two) [ inl is ↦ inl (low status 0 is (omega arith)) | inr is ↦ inl (low status 5 is (omega arith)) ]
      ]
    ]
  ]
]

-- ---- files hold one thing

one_text : (o : Option (List ℕ)) (a b : List ℕ) → o ≡ Some a → o ≡ Some b → a ≡ b
one_text o a b e f = cc

same_ok : {A B : Type 0} (a b : A) → ◌≡◌ {A = Result A B} (Ok a) (Ok b) → a ≡ b
same_ok a b e = cc

same_err : {A B : Type 0} (a b : B) → ◌≡◌ {A = Result A B} (Err a) (Err b) → a ≡ b
same_err a b e = cc

not_both : {A B : Type 0} (a : A) (b : B) → ◌≡◌ {A = Result A B} (Ok a) (Err b) → ⊥
not_both a b e = cc

module _ (files : Contents) (names : Names) where
  one_table : (a b : Result TableParts TableFault) → HoldsTable files names a → HoldsTable files names b → a ≡ b
  one_table a b x y = sym x.2 ∙ ap told_table (one_text (files names.symbols) x.0 y.0 x.1 y.1) ∙ y.2

  one_trace : (p q : TableParts) (a b : Result Samples TraceFault) → p ≡ q → HoldsTrace files names p a → HoldsTrace files names q b → a ≡ b
  one_trace p q a b e x y = sym x.2 ∙ (λ i. told_trace (e i) names.scope (one_text (files names.dump) x.0 y.0 x.1 y.1 i)) ∙ y.2

  one_requests : (a b : List ℕ) → HoldsRequests files names (Some a) → HoldsRequests files names (Some b) → a ≡ b
  one_requests a b x y = one_text (files names.requests) a b x.0 y.0

  few_or_many : (a : List ℕ) → HoldsRequests files names (Some a) → HoldsRequests files names None → ⊥
  few_or_many a x y = let same : length a ≡ length y.0 = ap length (one_text (files names.requests) a y.0 x.0 y.1) in omega (arith, x.1, y.2)

  -- what was judged is what is asked for: with its status, and its text
  answer_taken : (heard : List Heard) (judged : Judged) (old new : Option (List ℕ)) → Judges files names judged → TakesText heard judged old new
      → (status : ℕ) (text : List ℕ) → AsksReplay heard files names status text → (judged_status judged ≡ status) × Appends old new text
  answer_taken heard (judged.NoTable fault) old new j t status text (NoTable r) =
      (sym r.status_is, t.taken text (r.text_is ∙ ap table_line (sym (same_err fault r.fault (one_table _ _ j r.refused)))))
  answer_taken heard (judged.NoTable fault) old new j t status text (NoTrace r) = absurd (not_both r.parts fault (one_table _ _ r.table j))
  answer_taken heard (judged.NoTable fault) old new j t status text (NoRequests r) = absurd (not_both r.parts fault (one_table _ _ r.table j))
  answer_taken heard (judged.NoTable fault) old new j t status text (Accepted r) = absurd (not_both r.parts fault (one_table _ _ r.table j))
  answer_taken heard (judged.NoTrace fault) old new j t status text (NoTable r) = absurd (not_both j.0 r.fault (one_table _ _ j.1 r.refused))
  answer_taken heard (judged.NoTrace fault) old new j t status text (NoTrace r) =
      let parts = same_ok j.0 r.parts (one_table _ _ j.1 r.table) in
      (sym r.status_is, t.taken text (r.text_is ∙ ap trace_line (sym (same_err fault r.fault (one_trace _ _ _ _ parts j.2 r.refused)))))
  answer_taken heard (judged.NoTrace fault) old new j t status text (NoRequests r) =
      absurd (not_both r.samples fault (one_trace _ _ _ _ (same_ok r.parts j.0 (one_table _ _ r.table j.1)) r.trace j.2))
  answer_taken heard (judged.NoTrace fault) old new j t status text (Accepted r) =
      absurd (not_both r.samples fault (one_trace _ _ _ _ (same_ok r.parts j.0 (one_table _ _ r.table j.1)) r.trace j.2))
  answer_taken heard judged.NoRequests old new j t status text (NoTable r) = absurd (not_both j.0 r.fault (one_table _ _ j.1 r.refused))
  answer_taken heard judged.NoRequests old new j t status text (NoTrace r) =
      absurd (not_both j.2.0 r.fault (one_trace _ _ _ _ (same_ok j.0 r.parts (one_table _ _ j.1 r.table)) j.2.1 r.refused))
  answer_taken heard judged.NoRequests old new j t status text (NoRequests r) = (sym r.status_is, t.taken text r.text_is)
  answer_taken heard judged.NoRequests old new j t status text (Accepted r) = absurd (few_or_many r.requests r.asked j.3)
  answer_taken heard (judged.Walked walk) old new j t status text (NoTable r) = absurd (not_both walk.table r.fault (one_table _ _ j.0 r.refused))
  answer_taken heard (judged.Walked walk) old new j t status text (NoTrace r) =
      absurd (not_both (samples_of walk.trace) r.fault (one_trace _ _ _ _ (same_ok walk.table r.parts (one_table _ _ j.0 r.table)) j.1 r.refused))
  answer_taken heard (judged.Walked walk) old new j t status text (NoRequests r) = absurd (few_or_many walk.requests.items j.2 r.refused)
  answer_taken heard (judged.Walked walk) old new j t status text (Accepted r) =
      let parts = same_ok r.parts walk.table (one_table _ _ r.table j.0) in
      let samples = same_ok r.samples (samples_of walk.trace) (one_trace _ _ _ _ parts r.trace j.1) in
      let requests = one_requests r.requests walk.requests.items r.asked j.2 in
      (sym r.status_is, t.taken text (r.reader, r.reads, r.text_is ∙ (λ i. batch_text r.reader (trace_world (parts i) (samples i)) heard (requests i))))

  -- a text of what was judged, which is asked for
  text_asked : (heard : List Heard) (judged : Judged) → Judges files names judged → (text : List ℕ) × IsTextOf heard judged text × AsksReplay heard files names (judged_status judged) text
  text_asked heard (judged.NoTable fault) j = (table_line fault, refl, NoTable (record { fault = fault; refused = j; status_is = refl; text_is = refl }))
  text_asked heard (judged.NoTrace fault) j =
      (trace_line fault, refl, NoTrace (record { parts = j.0; table = j.1; fault = fault; refused = j.2; status_is = refl; text_is = refl }))
  text_asked heard judged.NoRequests j =
      (requests_fault, refl, NoRequests (record { parts = j.0; table = j.1; samples = j.2.0; trace = j.2.1; refused = j.3; status_is = refl; text_is = refl }))
  text_asked heard (judged.Walked walk) j = (
    batch_text some_reader.0 (trace_world walk.table (samples_of walk.trace)) heard walk.requests.items,
    (some_reader.0, some_reader.1, refl),
    Accepted (record {
      parts = walk.table;
      table = j.0;
      samples = samples_of walk.trace;
      trace = j.1;
      requests = walk.requests.items;
      asked = j.2;
      reader = some_reader.0;
      reads = some_reader.1;
      status_is = refl;
      text_is = refl;
    }),
  )

-- ---- the lines of refusals

pub file_line_taken : (heard : List Heard) (status : ℕ) (judged : Judged) (old new : Option (List ℕ)) → status ≡ 5 → status ≡ judged_status judged → HasLine judged → TakesText heard judged old new → TakesFileLine old new
file_line_taken heard status (judged.NoTable fault) old new five is line t = inl (record { fault = fault; refuses = line; taken = t.taken (table_line fault) refl })
file_line_taken heard status (judged.NoTrace fault) old new five is line t = inr (record { fault = fault; refuses = line; taken = t.taken (trace_line fault) refl })
file_line_taken heard status judged.NoRequests old new five is line t = absurd (let same : 5 ≡ 6 = sym five ∙ is in cc)
file_line_taken heard status (judged.Walked walk) old new five is line t = absurd (let same : 5 ≡ 0 = sym five ∙ is in cc)

pub requests_line_taken : (heard : List Heard) (status : ℕ) (judged : Judged) (old new : Option (List ℕ)) → status ≡ 6 → status ≡ judged_status judged → TakesText heard judged old new → Appends old new requests_fault
requests_line_taken heard status (judged.NoTable fault) old new six is t = absurd (let same : 6 ≡ 5 = sym six ∙ is in cc)
requests_line_taken heard status (judged.NoTrace fault) old new six is t = absurd (let same : 6 ≡ 5 = sym six ∙ is in cc)
requests_line_taken heard status judged.NoRequests old new six is t = t.taken requests_fault refl
requests_line_taken heard status (judged.Walked walk) old new six is t = absurd (let same : 6 ≡ 0 = sym six ∙ is in cc)

-- ---- the files that were asked for

some_files : (heard : List Heard) (names : Names) (judged : Judged) (a b : Option (List (List ℕ))) (old new : Option (List ℕ)) → 5 ≡ judged_status judged → HasLine judged → Appends a b (asked_for names judged) → TakesText heard judged old new
    → AsksRefused names a b old new
some_files heard names (judged.NoTable fault) a b old new is line p t = inl (record { fault = fault; refuses = line; taken = t.taken (table_line fault) refl }, p)
some_files heard names (judged.NoTrace fault) a b old new is line p t = inr (record { fault = fault; refuses = line; taken = t.taken (trace_line fault) refl }, p)
some_files heard names judged.NoRequests a b old new is line p t = absurd (let same : 5 ≡ 6 = is in cc)
some_files heard names (judged.Walked walk) a b old new is line p t = absurd (let same : 5 ≡ 0 = is in cc)

all_files : (names : Names) (judged : Judged) (a b : Option (List (List ℕ))) (status : ℕ) → (status ≡ 0) ⊎ (status ≡ 6) → status ≡ judged_status judged → Appends a b (asked_for names judged) → Appends a b (names_of names)
all_files names (judged.NoTable fault) a b status late is p = elim late [ inl z ↦ absurd (let same : 0 ≡ 5 = sym z ∙ is in cc) | inr s ↦ absurd (let same : 6 ≡ 5 = sym s ∙ is in cc) ]
all_files names (judged.NoTrace fault) a b status late is p = elim late [ inl z ↦ absurd (let same : 0 ≡ 5 = sym z ∙ is in cc) | inr s ↦ absurd (let same : 6 ≡ 5 = sym s ∙ is in cc) ]
all_files names judged.NoRequests a b status late is p = p
all_files names (judged.Walked walk) a b status late is p = p

early_5 : (status : ℕ) → status ≡ 5 → status < 7
early_5 status e = omega arith

early_late : (status : ℕ) → (status ≡ 0) ⊎ (status ≡ 6) → status < 7
early_late status e = elim e [ inl z ↦ omega arith | inr s ↦ omega arith ]

pub files_asked : (heard : List Heard) (names : Names) (judged : Judged) (status : ℕ) (a b : Option (List (List ℕ))) (old new : Option (List ℕ)) → HasLine judged → Appends a b (asked_for names judged)
    → (status < 7 → status ≡ judged_status judged) → (status < 7 → TakesText heard judged old new) → AsksByStatus names status a b old new
files_asked heard names judged status a b old new line p is early = record {
  some = λ five. some_files heard names judged a b old new (sym five ∙ is (early_5 status five)) line p (early (early_5 status five));
  all = λ late. all_files names judged a b status late (is (early_late status late)) p;
}

-- where the status is late nothing is said of them
pub files_late : (names : Names) (status : ℕ) (a b : Option (List (List ℕ))) (old new : Option (List ℕ)) → 7 ≤ status → AsksByStatus names status a b old new
files_late names status a b old new late = record {
  some = λ five. absurd (omega (arith, late, early_5 status five));
  all = λ few. absurd (omega (arith, late, early_late status few));
}

-- ---- what stays in front

some_text : (heard : List Heard) (judged : Judged) → (text : List ℕ) × IsTextOf heard judged text
some_text heard (judged.NoTable fault) = (table_line fault, refl)
some_text heard (judged.NoTrace fault) = (trace_line fault, refl)
some_text heard judged.NoRequests = (requests_fault, refl)
some_text heard (judged.Walked walk) = (batch_text some_reader.0 (trace_world walk.table (samples_of walk.trace)) heard walk.requests.items, (some_reader.0, some_reader.1, refl))

pub ends_grown : (heard : List Heard) (judged : Judged) (status : ℕ) (old new : Option (List ℕ)) → IsTrue (is_status status) → (status < 7 → TakesText heard judged old new) → (status ≡ 7 → ⊥)
    → (7 < status → TakesTextFront heard judged old new) → Grows old new
ends_grown heard judged status old new known early seven late =
    let text = some_text heard judged in
    elim (late_status status known) [
      | inl h ↦ grows_whole old new text.0 ((early h).taken text.0 text.1)
      | inr (inl e) ↦ absurd (seven e)
      | inr (inr (inl e)) ↦ grows_front old new text.0 ((late (omega arith)).taken text.0 text.1)
      | inr (inr (inr e)) ↦ grows_front old new text.0 ((late (omega arith)).taken text.0 text.1)
    ]

-- ---- where the files are told

pub front_taken : (heard : List Heard) (told : Option Contents) (names : Names) (judged : Judged) (old new : Option (List ℕ)) → IfSome told (λ files. Judges files names judged) → TakesTextFront heard judged old new
    → IfSome told (λ files. TakesSome heard files names old new)
front_taken heard None names judged old new j t = tt
front_taken heard (Some files) names judged old new j t =
    let a = text_asked files names heard judged j in inr (record { status = judged_status judged; text = a.0; asked = a.2; taken = t.taken a.0 a.1 })

pub done_taken : (heard : List Heard) (told : Option Contents) (names : Names) (judged : Judged) (status : ℕ) (old new : Option (List ℕ)) → IfSome told (λ files. Judges files names judged) → status ≡ judged_status judged → TakesText heard judged old new
    → IfSome told (λ files. EndsAsAsked heard files names status old new)
done_taken heard None names judged status old new j e t = tt
done_taken heard (Some files) names judged status old new j e t =
    let a = text_asked files names heard judged j in record { text = a.0; asked = subst (λ (s : ℕ). AsksReplay heard files names s a.0) (sym e) a.2; taken = t.taken a.0 a.1 }

pub written_completes : (heard : List Heard) (told : Option Contents) (names : Names) (judged : Judged) (status : ℕ) (old new : Option (List ℕ)) (read_rose write_rose : Type 0) → IsTrue (is_status status)
    → IfSome told (λ files. Judges files names judged) → (status < 7 → status ≡ judged_status judged) → (status < 7 → TakesText heard judged old new) → (status ≡ 7 → ⊥) → (status ≡ 8 → write_rose)
    → IfSome told (λ files. Completes heard files names status old new read_rose write_rose)
written_completes heard None names judged status old new read_rose write_rose known j is early seven write = tt
written_completes heard (Some files) names judged status old new read_rose write_rose known j is early seven write = λ asked text asks no_read no_write.
    elim (late_status status known) [
      | inl h ↦ let found = answer_taken files names heard judged old new j (early h) asked text asks in inl (is h ∙ found.0, found.1)
      | inr (inl e) ↦ absurd (seven e)
      | inr (inr (inl e)) ↦ absurd (no_write (write e))
      | inr (inr (inr e)) ↦ inr e
    ]

-- ---- what a session put out

pub walk_taken : (heard : List Heard) (parts : TableParts) (samples : Samples) (requests lines : List ℕ) (old new : Option (List ℕ)) → lines ≡ requests → TakesOutput (trace_world parts samples) heard lines old new → TakesWalk heard parts samples requests old new
walk_taken heard parts samples requests lines old new e h =
    record { taken = λ text t. subst (Appends old new) (ap (batch_text t.0 (trace_world parts samples) heard) e ∙ sym t.2) (h t.0 t.1) }

pub walk_front : (heard : List Heard) (parts : TableParts) (samples : Samples) (requests lines : List ℕ) (old new : Option (List ℕ)) → lines ≡ requests → TakesOutputFront (trace_world parts samples) heard lines old new → TakesWalkFront heard parts samples requests old new
walk_front heard parts samples requests lines old new e h =
    record { taken = λ text t. subst (AppendsFront old new) (ap (batch_text t.0 (trace_world parts samples) heard) e ∙ sym t.2) (h t.0 t.1) }

-- ---- requests that are too long

pub no_requests : (told : Option Contents) (names : Names) (parts : TableParts) (trace : Replayed) → IfSome told (λ files. JudgesTrace (files names.dump) parts names.scope (Ok trace))
    → IfSome told (λ files. Finds (files names.requests) most_requests None) → IfSome told (λ files. HoldsTable files names (Ok parts) → Judges files names judged.NoRequests)
no_requests None names parts trace j f = tt
no_requests (Some files) names parts trace j f = λ table. (parts, table, (samples_of trace, j), f)

-- ---- lines

pub on_err_always : {A E : Type 0} (r : Result A E) (P : Type 0) → P → OnErr r P
on_err_always (Ok a) P p = tt
on_err_always (Err e) P p = p

-- nothing was written
pub nothing_written : (heard : List Heard) (j : Judged) (old : Option (List ℕ)) → TakesTextFront heard j old old
nothing_written heard j old = record { taken = λ text is. no_growth old old text refl }

pub requests_written : (heard : List Heard) (j : Judged) (old new : Option (List ℕ)) → j ≡ judged.NoRequests → Appends old new requests_fault → TakesText heard j old new
requests_written heard j old new e t = subst (λ (k : Judged). TakesText heard k old new) (sym e) (record { taken = λ text is. subst (λ (l : List ℕ). Appends old new l) (sym is) t })
