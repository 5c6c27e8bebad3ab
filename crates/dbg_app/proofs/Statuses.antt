-- What the status of a run tells: which files were asked for, and that the words have what is refused.
use Rattle.std.proofs.Common.{◌≡◌, ◌<◌, ◌≤◌, ℕ, Bool, true, false, List, Option, Some, None, refl, sym, ap, ◌∙◌, subst, IsTrue, ◌⊎◌, inl, inr, arith, ◌↔◌}
use Rattle.std.specs.Prelude.{is_some}
use Rattle.io_edge.specs.Taken.{Grows}
use Rattle.io_edge.proofs.Stops.{grows_whole, grows_front}
use Rattle.listen.specs.Pairs.{Heard}
use Rattle.batch_run.specs.Texts.{requests_fault}
use Rattle.design_judge.specs.Refusals.{design_line, stimulus_line}
use Rattle.project_read.specs.Projects.{Contents}
use Rattle.project_read.specs.Asking.{AsksSome}
use Rattle.dbg_app.specs.Command.{Command, file_names, rest_names}
use Rattle.dbg_app.specs.Names.{AsksBehind}
use Rattle.dbg_app.specs.Answers.{usage_fault}
use Rattle.dbg_app.specs.Judged.{AsksFor, AsksOwn, HasText, IsTextOf, RefusesOwn, TakesText, TakesTextFront, alone, judged_status, over, session}
use Rattle.dbg_app.specs.Outcome.{AsksByStatus, is_status, is_status_for, is_usage_status, may_end}
use Rattle.dbg_app.specs.declared.judge.Judged.{Judged}
use Rattle.dbg_app.specs.declared.judge.Judged.TheVariants as judged
use Rattle.dbg_app.proofs.Ending.{late_status, work_text, is_work_text}

-- ---- the files

module _ (told : Option Contents) (command : Command) (old new : Option (List (List ℕ))) where
  pub source_asked : (j : Judged) → 3 ≡ judged_status j → AsksOwn told command old new j → (count : ℕ) × AsksSome told command.source old new count
  source_asked judged.NoCommand is p = absurd (let same : 3 ≡ 2 = is in cc)
  source_asked (judged.NoDesign fault) is p = p
  source_asked (judged.NoStimulus fault) is p = absurd (let same : 3 ≡ 4 = is in cc)
  source_asked judged.NoRequests is p = absurd (let same : 3 ≡ 6 = is in cc)
  source_asked (judged.Alone task mode a) is p = absurd (let same : 3 ≡ 0 = is in cc)
  source_asked (judged.Over task mode a stim) is p = absurd (let same : 3 ≡ 0 = is in cc)
  source_asked (judged.Session mode a stim requests) is p = absurd (let same : 3 ≡ 0 = is in cc)

  pub stimulus_asked : (j : Judged) → 4 ≡ judged_status j → AsksOwn told command old new j → AsksBehind told command.source (file_names command.stimulus) old new
  stimulus_asked judged.NoCommand is p = absurd (let same : 4 ≡ 2 = is in cc)
  stimulus_asked (judged.NoDesign fault) is p = absurd (let same : 4 ≡ 3 = is in cc)
  stimulus_asked (judged.NoStimulus fault) is p = p
  stimulus_asked judged.NoRequests is p = absurd (let same : 4 ≡ 6 = is in cc)
  stimulus_asked (judged.Alone task mode a) is p = absurd (let same : 4 ≡ 0 = is in cc)
  stimulus_asked (judged.Over task mode a stim) is p = absurd (let same : 4 ≡ 0 = is in cc)
  stimulus_asked (judged.Session mode a stim requests) is p = absurd (let same : 4 ≡ 0 = is in cc)

  not_all : (status n : ℕ) → (status ≡ 0) ⊎ (status ≡ 6) → status ≡ n → 2 ≤ n → n ≤ 4 → ⊥
  not_all status n late is least most = elim late [ inl zero ↦ omega (arith, zero, is, least) | inr six ↦ omega (arith, six, is, most) ]

  pub all_asked : (j : Judged) (status : ℕ) → (status ≡ 0) ⊎ (status ≡ 6) → status ≡ judged_status j → AsksOwn told command old new j → AsksBehind told command.source (rest_names command) old new
  all_asked judged.NoCommand status late is p = absurd (not_all status 2 late is (omega arith) (omega arith))
  all_asked (judged.NoDesign fault) status late is p = absurd (not_all status 3 late is (omega arith) (omega arith))
  all_asked (judged.NoStimulus fault) status late is p = absurd (not_all status 4 late is (omega arith) (omega arith))
  all_asked judged.NoRequests status late is p = p
  all_asked (judged.Alone task mode a) status late is p = p
  all_asked (judged.Over task mode a stim) status late is p = p
  all_asked (judged.Session mode a stim requests) status late is p = p

pub early_is : (status n : ℕ) → n < 7 → status ≡ n → status < 7
early_is status n h e = omega (arith, h, e)

early_all : (status : ℕ) → (status ≡ 0) ⊎ (status ≡ 6) → status < 7
early_all status e = elim e [ inl zero ↦ omega (arith, zero) | inr six ↦ omega (arith, six) ]

pub files_asked : (told : Option Contents) (command : Option Command) (j : Judged) (status : ℕ) (old new : Option (List (List ℕ))) → AsksFor told command old new j → (status < 7 → status ≡ judged_status j) → AsksByStatus told command status old new
files_asked told None j status old new p is = p
files_asked told (Some command) j status old new p is = record {
  source = λ three. source_asked told command old new j (sym three ∙ is (early_is status 3 (omega arith) three)) p;
  stimulus = λ four. stimulus_asked told command old new j (sym four ∙ is (early_is status 4 (omega arith) four)) p;
  all = λ late. all_asked told command old new j status late (is (early_all status late)) p;
}

-- where the run ends late nothing is said of them
pub files_late : (told : Option Contents) (command : Option Command) (status : ℕ) (old new : Option (List (List ℕ))) → (command ≡ None → ⊥) → 7 ≤ status → AsksByStatus told command status old new
files_late told None status old new some late = absurd (some refl)
files_late told (Some command) status old new some late = record {
  source = λ three. absurd (omega (arith, late, three));
  stimulus = λ four. absurd (omega (arith, late, four));
  all = λ early. absurd (omega (arith, late, early_all status early));
}

-- ---- the statuses of a row

usage_row : (status : ℕ) → (status ≡ 2) ⊎ ((status ≡ 8) ⊎ (status ≡ 9)) → IsTrue (is_usage_status status)
usage_row status e = elim e [
  | inl is ↦ subst (λ (s : ℕ). is_usage_status s ≡ true) (sym is) refl
  | inr (inl is) ↦ subst (λ (s : ℕ). is_usage_status s ≡ true) (sym is) refl
  | inr (inr is) ↦ subst (λ (s : ℕ). is_usage_status s ≡ true) (sym is) refl
]

row_at : (command : Command) (status n : ℕ) → status ≡ n → may_end (is_some command.stimulus) (is_some command.requests) n ≡ true → IsTrue (is_status_for (Some command) status)
row_at command status n is known = subst (λ (s : ℕ). may_end (is_some command.stimulus) (is_some command.requests) s ≡ true) (sym is) known

with_stimulus : (a b : Bool) → a ≡ true → may_end a b 4 ≡ true
with_stimulus true b e = refl
with_stimulus false b e = cc

with_requests : (a b : Bool) → b ≡ true → may_end a b 6 ≡ true
with_requests a true e = refl
with_requests a false e = cc

early_row : (command : Command) (j : Judged) (status : ℕ) → (j ≡ judged.NoCommand → ⊥) → RefusesOwn (Some command) j → status ≡ judged_status j → IsTrue (is_status_for (Some command) status)
early_row command judged.NoCommand status some own is = absurd (some refl)
early_row command (judged.NoDesign fault) status some own is = row_at command status 3 is refl
early_row command (judged.NoStimulus fault) status some own is = row_at command status 4 is (with_stimulus (is_some command.stimulus) (is_some command.requests) own)
early_row command judged.NoRequests status some own is = row_at command status 6 is (with_requests (is_some command.stimulus) (is_some command.requests) own)
early_row command (judged.Alone task mode a) status some own is = row_at command status 0 is refl
early_row command (judged.Over task mode a stim) status some own is = row_at command status 0 is refl
early_row command (judged.Session mode a stim requests) status some own is = row_at command status 0 is refl

none_some : (command : Command) → ◌≡◌ {A = Option Command} (Some command) None → ⊥
none_some command e = cc

pub row_told : (command : Option Command) (j : Judged) (status : ℕ) → IsTrue (is_status status) → ((j ≡ judged.NoCommand) ↔ (command ≡ None)) → RefusesOwn command j → (status < 7 → status ≡ judged_status j) → (status ≡ 7 → ⊥)
    → IsTrue (is_status_for command status)
row_told None j status known none own is seven = elim (late_status status known) [
  | inl early ↦ usage_row status (inl (is early ∙ ap judged_status (none.1 refl)))
  | inr (inl e) ↦ absurd (seven e)
  | inr (inr late) ↦ usage_row status (inr late)
]
row_told (Some command) j status known none own is seven = elim (late_status status known) [
  | inl early ↦ early_row command j status (λ e. none_some command (none.0 e)) own (is early)
  | inr (inl e) ↦ absurd (seven e)
  | inr (inr (inl e)) ↦ row_at command status 8 e refl
  | inr (inr (inr e)) ↦ row_at command status 9 e refl
]

-- and where a file was not read, or memory ran out before
pub row_late : (command : Option Command) (status : ℕ) → (command ≡ None → ⊥) → (status ≡ 7) ⊎ (status ≡ 9) → IsTrue (is_status_for command status)
row_late None status some late = absurd (some refl)
row_late (Some command) status some late = elim late [ inl e ↦ row_at command status 7 e refl | inr e ↦ row_at command status 9 e refl ]

-- ---- what stays in front

some_text : (heard : List Heard) (j : Judged) → HasText j → (text : List ℕ) × IsTextOf heard j text
some_text heard judged.NoCommand h = (usage_fault, refl)
some_text heard (judged.NoDesign fault) h = (design_line fault, refl)
some_text heard (judged.NoStimulus fault) h = (stimulus_line fault, refl)
some_text heard judged.NoRequests h = (requests_fault, refl)
some_text heard (judged.Alone task mode a) h = (work_text heard (alone task mode a) h, is_work_text heard (alone task mode a) h)
some_text heard (judged.Over task mode a stim) h = (work_text heard (over task mode a stim) h.1, is_work_text heard (over task mode a stim) h.1)
some_text heard (judged.Session mode a stim requests) h = (work_text heard (session mode a stim requests.items) h.1, is_work_text heard (session mode a stim requests.items) h.1)

pub ends_grown : (heard : List Heard) (j : Judged) (status : ℕ) (old new : Option (List ℕ)) → HasText j → IsTrue (is_status status) → (status < 7 → TakesText heard j old new) → (status ≡ 7 → ⊥)
    → (7 < status → TakesTextFront heard j old new) → Grows old new
ends_grown heard j status old new h known early seven late =
    let text = some_text heard j h in
    elim (late_status status known) [
      | inl e ↦ grows_whole old new text.0 ((early e).taken text.0 text.1)
      | inr (inl e) ↦ absurd (seven e)
      | inr (inr (inl e)) ↦ grows_front old new text.0 ((late (omega (arith, e))).taken text.0 text.1)
      | inr (inr (inr e)) ↦ grows_front old new text.0 ((late (omega (arith, e))).taken text.0 text.1)
    ]
