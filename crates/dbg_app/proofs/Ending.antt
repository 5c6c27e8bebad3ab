-- How a run ends, from what was judged and written.
use Rattle.std.proofs.Common.{◌≡◌, ◌<◌, ℕ, Bool, true, false, ◌||◌, ◌==◌, nat_lt, lit<, List, [], Option, Some, None, refl, sym, ap, ◌∙◌, subst, IsTrue, ◌⊎◌, inl, inr, append-nil, arith}
use Rattle.std.proofs.lemmas.Bool.Decides.{nat_tests}
use Rattle.io_edge.specs.Taken.{Appends, AppendsFront}
use Rattle.io_edge.proofs.Growth.{front_from_whole}
use Rattle.trim_laws.proofs.Orders.{one_length}
use Rattle.listen.specs.Pairs.{Heard}
use Rattle.machine_core.proofs.Readers.{some_reader}
use Rattle.design_judge.specs.Refusals.{design_line, stimulus_line}
use Rattle.dbg_app.specs.Command.{Task, Command}
use Rattle.batch_run.specs.Texts.{requests_fault}
use Rattle.dbg_app.specs.Answers.{Contents, Asks, NoDesign, NoStimulus, NoRequests, Accepted, usage_fault, text_of, IfAsked}
use Rattle.dbg_app.specs.Judged.{Judges, Work, HasRun, HasText, HoldsWork, IsWorkText, TakesText, TakesTextFront, alone, over, session, held_by, judged_status}
use Rattle.dbg_app.specs.Outcome.{is_status, TakesDesignLine, TakesStimulusLine, TakesFront, TakesSome, EndsAsAsked, Completes}
use Rattle.dbg_app.specs.declared.judge.Judged.{Judged}
use Rattle.dbg_app.specs.declared.judge.Judged.TheVariants as judged
use Rattle.dbg_app.specs.declared.judge.Judged.TheVariants.{NoCommand}
use Rattle.dbg_app.proofs.Asking.{answer_taken}

-- ---- one test after another

pub either : (a b : Bool) → (a || b) ≡ true → (a ≡ true) ⊎ (b ≡ true)
either true b e = inl refl
either false b e = inr e

test : (b : Bool) → (b ≡ true) ⊎ (b ≡ false)
test true = inl refl
test false = inr refl

pub same_number : (a b : ℕ) → (a == b) ≡ true → a ≡ b
same_number a b e = grind (arith, nat_tests, e)

-- a status is below 7, or 7, 8 or 9
pub late_status : (status : ℕ) → is_status status ≡ true → (status < 7) ⊎ ((status ≡ 7) ⊎ ((status ≡ 8) ⊎ (status ≡ 9)))
late_status status e = elim (test (nat_lt status 7)) [
  | inl early ↦ inl (grind (arith, nat_tests, early))
  | inr late ↦ inr (last late (either _ (status == 9) e))
]
  where
    early_not : (n : ℕ) → n < 7 → nat_lt status 7 ≡ false → (status == n) ≡ true → ⊥
    early_not n h late is = let same : status ≡ n = same_number status n is in let low : nat_lt status 7 ≡ true = rw same (grind (arith, nat_tests)) in cc

    refused : nat_lt status 7 ≡ false → ((status == 0 || status == 2 || status == 3 || status == 4 || status == 6) ≡ true) → ⊥
    refused late e = elim (either _ (status == 6) e) [
      | inl early ↦ elim (either _ (status == 4) early) [
        | inl one ↦ elim (either _ (status == 3) one) [
          | inl two ↦ elim (either (status == 0) (status == 2) two) [ inl is ↦ early_not 0 (lit< tt) late is | inr is ↦ early_not 2 (lit< tt) late is ]
          | inr is ↦ early_not 3 (lit< tt) late is
        ]
        | inr is ↦ early_not 4 (lit< tt) late is
      ]
      | inr is ↦ early_not 6 (lit< tt) late is
    ]

    seven : nat_lt status 7 ≡ false → ((status == 0 || status == 2 || status == 3 || status == 4 || status == 6 || status == 7) ≡ true) → status ≡ 7
    seven late e = elim (either _ (status == 7) e) [
      | inl early ↦ absurd (refused late early)
      | inr is ↦ same_number status 7 is
    ]

    last : nat_lt status 7 ≡ false → ((status == 0 || status == 2 || status == 3 || status == 4 || status == 6 || status == 7 || status == 8) ≡ true) ⊎ ((status == 9) ≡ true) → (status ≡ 7) ⊎ ((status ≡ 8) ⊎ (status ≡ 9))
    last late (inr is) = inr (inr (same_number status 9 is))
    last late (inl others) = elim (either _ (status == 8) others) [
      | inl more ↦ inl (seven late more)
      | inr is ↦ inr (inl (same_number status 8 is))
    ]

-- ---- no command

pub usage_taken : (heard : List Heard) (status : ℕ) (judged : Judged) (old new : Option (List ℕ)) → IsTrue (is_status status) → judged ≡ NoCommand → (status < 7 → TakesText heard judged old new) → (status ≡ 7 → ⊥)
    → (7 < status → TakesTextFront heard judged old new) → AppendsFront old new usage_fault
usage_taken heard status judged old new known is early seven late = elim (late_status status known) [
  | inl h ↦ front_from_whole old new usage_fault [] usage_fault (sym (append-nil usage_fault)) ((rw is at (early h)).taken usage_fault refl)
  | inr (inl e) ↦ absurd (seven e)
  | inr (inr (inl e)) ↦ (rw is at (late (rw e (lit< tt)))).taken usage_fault refl
  | inr (inr (inr e)) ↦ (rw is at (late (rw e (lit< tt)))).taken usage_fault refl
]

-- ---- a refused source, a refused stimulus, refused requests

pub design_line_taken : (heard : List Heard) (status : ℕ) (judged : Judged) (old new : Option (List ℕ)) → status ≡ 3 → status ≡ judged_status judged → HasText judged → TakesText heard judged old new → TakesDesignLine old new
design_line_taken heard status NoCommand old new three is h t = absurd (let same : 3 ≡ 2 = sym three ∙ is in cc)
design_line_taken heard status (judged.NoDesign fault) old new three is h t = record { fault = fault; refuses = h; taken = t.taken (design_line fault) refl }
design_line_taken heard status (judged.NoStimulus fault) old new three is h t = absurd (let same : 3 ≡ 4 = sym three ∙ is in cc)
design_line_taken heard status judged.NoRequests old new three is h t = absurd (let same : 3 ≡ 6 = sym three ∙ is in cc)
design_line_taken heard status (judged.Over task mode a stim) old new three is h t = absurd (let same : 3 ≡ 0 = sym three ∙ is in cc)
design_line_taken heard status (judged.Alone task mode a) old new three is h t = absurd (let same : 3 ≡ 0 = sym three ∙ is in cc)
design_line_taken heard status (judged.Session mode a stim requests) old new three is h t = absurd (let same : 3 ≡ 0 = sym three ∙ is in cc)

pub stimulus_line_taken : (heard : List Heard) (status : ℕ) (judged : Judged) (old new : Option (List ℕ)) → status ≡ 4 → status ≡ judged_status judged → HasText judged → TakesText heard judged old new → TakesStimulusLine old new
stimulus_line_taken heard status NoCommand old new four is h t = absurd (let same : 4 ≡ 2 = sym four ∙ is in cc)
stimulus_line_taken heard status (judged.NoDesign fault) old new four is h t = absurd (let same : 4 ≡ 3 = sym four ∙ is in cc)
stimulus_line_taken heard status (judged.NoStimulus fault) old new four is h t = record { fault = fault; refuses = h; taken = t.taken (stimulus_line fault) refl }
stimulus_line_taken heard status judged.NoRequests old new four is h t = absurd (let same : 4 ≡ 6 = sym four ∙ is in cc)
stimulus_line_taken heard status (judged.Over task mode a stim) old new four is h t = absurd (let same : 4 ≡ 0 = sym four ∙ is in cc)
stimulus_line_taken heard status (judged.Alone task mode a) old new four is h t = absurd (let same : 4 ≡ 0 = sym four ∙ is in cc)
stimulus_line_taken heard status (judged.Session mode a stim requests) old new four is h t = absurd (let same : 4 ≡ 0 = sym four ∙ is in cc)

pub requests_line_taken : (heard : List Heard) (status : ℕ) (judged : Judged) (old new : Option (List ℕ)) → status ≡ 6 → status ≡ judged_status judged → TakesText heard judged old new → Appends old new requests_fault
requests_line_taken heard status NoCommand old new six is t = absurd (let same : 6 ≡ 2 = sym six ∙ is in cc)
requests_line_taken heard status (judged.NoDesign fault) old new six is t = absurd (let same : 6 ≡ 3 = sym six ∙ is in cc)
requests_line_taken heard status (judged.NoStimulus fault) old new six is t = absurd (let same : 6 ≡ 4 = sym six ∙ is in cc)
requests_line_taken heard status judged.NoRequests old new six is t = t.taken requests_fault refl
requests_line_taken heard status (judged.Over task mode a stim) old new six is t = absurd (let same : 6 ≡ 0 = sym six ∙ is in cc)
requests_line_taken heard status (judged.Alone task mode a) old new six is t = absurd (let same : 6 ≡ 0 = sym six ∙ is in cc)
requests_line_taken heard status (judged.Session mode a stim requests) old new six is t = absurd (let same : 6 ≡ 0 = sym six ∙ is in cc)

-- ---- the answer that was judged

-- a text of what was judged
abbrev pub work_text : List Heard → (work : Work) → HasRun work → List ℕ
work_text heard work h = text_of heard work.task (held_by work h.run some_reader.0)

pub is_work_text : (heard : List Heard) (work : Work) (h : HasRun work) → IsWorkText heard work (work_text heard work h)
is_work_text heard work h = (h.run, h.runs, some_reader.0, some_reader.1, refl)

-- what the files hold asks for its text with a run and a way to read conditions
work_asked : (heard : List Heard) (files : Contents) (command : Command) (work : Work) → HoldsWork files command work → (h : HasRun work) → Asks heard files command (record { status = 0; text = work_text heard work h })
work_asked heard files command work w h =
    Accepted (record {
      held = held_by work h.run some_reader.0;
      holds = record {
        design = w.design;
        driven = one_length work.accepting.design work.accepting.order w.design.accepted.1.pairs w.kept.order w.design.accepted.1.order;
        ports = w.kept.ports;
        rows = w.rows;
        runs = h.runs;
        requests = w.requests;
        mode = w.mode;
        reads = some_reader.1;
      };
      is = ap (λ (t : Task). record { status = 0; text = text_of heard t (held_by work h.run some_reader.0) }) w.task;
    })

-- ---- a front of the text

work_front : (heard : List Heard) (files : Contents) (command : Command) (work : Work) (old new : Option (List ℕ)) → HoldsWork files command work → HasRun work
    → ((text : List ℕ) → IsWorkText heard work text → AppendsFront old new text) → TakesFront heard files command old new
work_front heard files command work old new w h t = record {
  status = 0;
  text = work_text heard work h;
  asked = work_asked heard files command work w h;
  taken = t (work_text heard work h) (is_work_text heard work h);
}

pub front_taken : (heard : List Heard) (told : Option Contents) (command : Option Command) (judged : Judged) (old new : Option (List ℕ)) → IfAsked told command (λ files command. Judges files command judged) → HasText judged
    → TakesTextFront heard judged old new → IfAsked told command (λ files command. TakesSome heard files command old new)
front_taken heard None command judged old new j h t = tt
front_taken heard (Some files) None judged old new j h t = tt
front_taken heard (Some files) (Some command) NoCommand old new j h t = absurd j
front_taken heard (Some files) (Some command) (judged.NoDesign fault) old new j h t = inr (record { status = 3; text = design_line fault; asked = NoDesign j; taken = t.taken (design_line fault) refl })
front_taken heard (Some files) (Some command) (judged.NoStimulus fault) old new j h t = inr (record { status = 4; text = stimulus_line fault; asked = NoStimulus j; taken = t.taken (stimulus_line fault) refl })
front_taken heard (Some files) (Some command) judged.NoRequests old new j h t = inr (record { status = 6; text = requests_fault; asked = NoRequests j; taken = t.taken requests_fault refl })
front_taken heard (Some files) (Some command) (judged.Alone task mode a) old new j h t = inr (work_front heard files command (alone task mode a) old new j h t.taken)
front_taken heard (Some files) (Some command) (judged.Over task mode a stim) old new j h t = inr (work_front heard files command (over task mode a stim) old new j h.1 t.taken)
front_taken heard (Some files) (Some command) (judged.Session mode a stim requests) old new j h t = inr (work_front heard files command (session mode a stim requests.items) old new j h.1 t.taken)

-- ---- the whole text

work_done : (heard : List Heard) (files : Contents) (command : Command) (work : Work) (status : ℕ) (old new : Option (List ℕ)) → HoldsWork files command work → HasRun work → status ≡ 0
    → ((text : List ℕ) → IsWorkText heard work text → Appends old new text) → EndsAsAsked heard files command status old new
work_done heard files command work status old new w h e t = record {
  text = work_text heard work h;
  asked = subst (λ (s : ℕ). Asks heard files command (record { status = s; text = work_text heard work h })) (sym e) (work_asked heard files command work w h);
  taken = t (work_text heard work h) (is_work_text heard work h);
}

pub done_taken : (heard : List Heard) (told : Option Contents) (command : Option Command) (judged : Judged) (status : ℕ) (old new : Option (List ℕ)) → IfAsked told command (λ files command. Judges files command judged) → HasText judged
    → status ≡ judged_status judged → TakesText heard judged old new → IfAsked told command (λ files command. EndsAsAsked heard files command status old new)
done_taken heard None command judged status old new j h e t = tt
done_taken heard (Some files) None judged status old new j h e t = tt
done_taken heard (Some files) (Some command) NoCommand status old new j h e t = absurd j
done_taken heard (Some files) (Some command) (judged.NoDesign fault) status old new j h e t = record {
  text = design_line fault;
  asked = subst (λ (s : ℕ). Asks heard files command (record { status = s; text = design_line fault })) (sym e) (NoDesign j);
  taken = t.taken (design_line fault) refl;
}
done_taken heard (Some files) (Some command) (judged.NoStimulus fault) status old new j h e t = record {
  text = stimulus_line fault;
  asked = subst (λ (s : ℕ). Asks heard files command (record { status = s; text = stimulus_line fault })) (sym e) (NoStimulus j);
  taken = t.taken (stimulus_line fault) refl;
}
done_taken heard (Some files) (Some command) judged.NoRequests status old new j h e t = record {
  text = requests_fault;
  asked = subst (λ (s : ℕ). Asks heard files command (record { status = s; text = requests_fault })) (sym e) (NoRequests j);
  taken = t.taken requests_fault refl;
}
done_taken heard (Some files) (Some command) (judged.Alone task mode a) status old new j h e t = work_done heard files command (alone task mode a) status old new j h e t.taken
done_taken heard (Some files) (Some command) (judged.Over task mode a stim) status old new j h e t = work_done heard files command (over task mode a stim) status old new j h.1 e t.taken
done_taken heard (Some files) (Some command) (judged.Session mode a stim requests) status old new j h e t = work_done heard files command (session mode a stim requests.items) status old new j h.1 e t.taken

-- ---- completeness

-- a text was written for what was judged
pub written_completes : (heard : List Heard) (told : Option Contents) (command : Option Command) (judged : Judged) (status : ℕ) (old new : Option (List ℕ)) (read_rose write_rose : Type 0) → IsTrue (is_status status)
    → IfAsked told command (λ files command. Judges files command judged) → (status < 7 → status ≡ judged_status judged) → (status < 7 → TakesText heard judged old new) → (status ≡ 7 → ⊥) → (status ≡ 8 → write_rose)
    → IfAsked told command (λ files command. Completes heard files command status old new read_rose write_rose)
written_completes heard None command judged status old new read_rose write_rose known j is early seven write = tt
written_completes heard (Some files) None judged status old new read_rose write_rose known j is early seven write = tt
written_completes heard (Some files) (Some command) judged status old new read_rose write_rose known j is early seven write = λ answer asks no_read no_write.
    elim (late_status status known) [
      | inl h ↦ let found = answer_taken heard files command judged old new j (early h) answer asks in inl (is h ∙ found.0, found.1)
      | inr (inl e) ↦ absurd (seven e)
      | inr (inr (inl e)) ↦ absurd (no_write (write e))
      | inr (inr (inr e)) ↦ inr e
    ]
