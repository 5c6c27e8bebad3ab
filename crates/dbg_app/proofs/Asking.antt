-- A command asks for one answer, or for the loops of one design; and the text that goes with what was judged is that of each answer.
use Rattle.std.proofs.Common.{◌≡◌, ℕ, ◌<◌, arith, List, [], Option, Some, None, Result, Ok, Err, length, refl, sym, ◌∙◌, ap, subst, inl, inr}
use Rattle.io_edge.specs.Taken.{Appends}
use Rattle.bv_core.specs.Value.{Bits}
use Rattle.design_core.specs.declared.Ports.{Ports}
use Rattle.design_core.specs.Design.{Design}
use Rattle.place_core.specs.Orders.{TellsOrder}
use Rattle.stim_text.specs.Rows.{rows_of}
use Rattle.stim_text.specs.declared.StimFault.{StimFault}
use Rattle.trim_laws.specs.Runs.{RunsOver}
use Rattle.listen.specs.Pairs.{Heard}
use Rattle.trim_laws.proofs.Orders.{one_length}
use Rattle.design_judge.specs.declared.DesignFault.{DesignFault}
use Rattle.design_judge.specs.declared.DesignFault.TheVariants.{CombLoop}
use Rattle.design_judge.specs.Refusals.{design_line, stimulus_line}
use Rattle.project_read.specs.Projects.{IsProject}
use Rattle.project_read.proofs.OneProject.{one_project}
use Rattle.design_judge.specs.Judgement.{ArePortsOf}
use Rattle.design_judge.proofs.OneJudgement.{one_design, one_judgement, not_both}
use Rattle.design_judge.proofs.OnePorts.{one_ports}
use Rattle.dbg_app.specs.Command.{Task, Command}
use Rattle.dbg_app.specs.declared.judge.Judged.{Judged}
use Rattle.dbg_app.specs.declared.judge.Judged.TheVariants as judged
use Rattle.batch_run.specs.Texts.{requests_fault, most_requests}
use Rattle.dbg_app.specs.Answers.{Answer, Contents, Held, Holds, HoldsDesign, HoldsRows, HoldsRequests, Asks, NoDesign, NoStimulus, NoRequests, Accepted, RefusesDesign, RefusesStimulus, RefusesRequests, ShowsText, text_of}
use Rattle.dbg_app.specs.Judged.{Judges, Work, HoldsWork, IsWorkText, TakesText, alone, over, session, held_by, judged_status}
use Rattle.dbg_app.specs.Outcome.{TakesAnswer}
use Rattle.show_net.specs.Over.{Over}
use Rattle.dbg_app.specs.Serving.{HoldsOver}

some_one : {A : Type 0} (o : Option A) (x y : A) → o ≡ Some x → o ≡ Some y → x ≡ y
some_one o x y p q = let both : Some x ≡ Some y = sym p ∙ q in cc

abbrev Rows : Type 0
Rows = Result (List (List Bits)) StimFault

ok_err : (rows : List (List Bits)) (fault : StimFault) → ◌≡◌ {A = Rows} (Ok rows) (Err fault) → ⊥
ok_err rows fault e = cc

-- ---- what the files hold, once

-- a source is one design
pub same_design : (files : Contents) (command : Command) (d e : Design) → HoldsDesign files command d → HoldsDesign files command e → d ≡ e
same_design files command d e a b =
    one_design command.top (IsProject files command.source) (one_project files command.source) d e a.accepted.0 b.accepted.0

-- what is refused is no accepted design
no_design : (files : Contents) (command : Command) (a : Answer) → RefusesDesign files command a → (d : Design) → HoldsDesign files command d → ⊥
no_design files command a r d h =
    not_both command.top (IsProject files command.source) (one_project files command.source) d r.fault h.accepted r.refused

-- a stimulus is one thing for ports
pub same_rows : (files : Contents) (p q : Ports) (name : Option (List ℕ)) (x y : Rows) → p ≡ q → HoldsRows files p name x → HoldsRows files q name y → x ≡ y
same_rows files p q None x y e a b = a ∙ sym b
same_rows files p q (Some name) x y e a b =
    let text : a.0 ≡ b.0 = some_one (files name) a.0 b.0 a.1 b.1 in
    sym a.2 ∙ ap (λ (r : Ports). rows_of r a.0) e ∙ ap (rows_of q) text ∙ b.2

-- requests are one thing
pub same_requests : (files : Contents) (name x y : Option (List ℕ)) → HoldsRequests files name x → HoldsRequests files name y → x ≡ y
same_requests files None x y a b = a ∙ sym b
same_requests files (Some name) (Some x) (Some y) a b = ap Some (some_one (files name) x y a.0 b.0)
same_requests files (Some name) (Some x) None a b =
    let long : most_requests < length x = subst (λ (t : List ℕ). most_requests < length t) (some_one (files name) b.0 x b.1 a.0) b.2 in
    absurd (omega (arith, a.1, long))
same_requests files (Some name) None (Some y) a b =
    let long : most_requests < length y = subst (λ (t : List ℕ). most_requests < length t) (some_one (files name) a.0 y a.1 b.0) a.2 in
    absurd (omega (arith, b.1, long))
same_requests files (Some name) None None a b = refl

taken_refused : (files : Contents) (name : Option (List ℕ)) (x : List ℕ) → HoldsRequests files name (Some x) → HoldsRequests files name None → ⊥
taken_refused files name x a b = let both : Some x ≡ None = same_requests files name (Some x) None a b in cc

-- what is said of the stimulus of a command is said once, for one design
record Said (files : Contents) (command : Command) (d : Design) (said : Rows) : Type 0 where
  design : HoldsDesign files command d
  ports : Ports
  are : ArePortsOf d ports
  is : HoldsRows files ports command.stimulus said

one_saying : (files : Contents) (command : Command) (d e : Design) (x y : Rows) → Said files command d x → Said files command e y → x ≡ y
one_saying files command d e x y a b =
    let same : d ≡ e = same_design files command d e a.design b.design in
    same_rows files a.ports b.ports command.stimulus x y (one_ports e a.ports b.ports (subst (λ (t : Design). ArePortsOf t a.ports) same a.are) b.are) a.is b.is

abbrev refusal_said : (files : Contents) (command : Command) (a : Answer) → (r : RefusesStimulus files command a) → Said files command r.design (Err r.fault)
refusal_said files command a r = record { design = r.holds; ports = r.ports; are = r.are; is = r.refused }

abbrev requests_said : (files : Contents) (command : Command) (a : Answer) → (r : RefusesRequests files command a) → Said files command r.design (Ok r.rows)
requests_said files command a r = record { design = r.holds; ports = r.ports; are = r.are; is = r.stimulus }

abbrev held_said : (files : Contents) (command : Command) (held : Held) → Holds files command held → Said files command held.design (Ok held.rows)
held_said files command held h = record { design = h.design; ports = held.ports; are = h.ports; is = h.rows }

abbrev work_said : (files : Contents) (command : Command) (work : Work) → HoldsWork files command work → Said files command work.accepting.design (Ok work.rows)
work_said files command work h = record { design = h.design; ports = work.accepting.ports; are = h.kept.ports; is = h.rows }

-- ---- what is held is what was judged, but for the run and the way to read conditions

module _ (heard : List Heard) (files : Contents) (command : Command) (work : Work) (held : Held) (w : HoldsWork files command work) (h : Holds files command held) where
  the_design : held.design ≡ work.accepting.design
  the_design = same_design files command held.design work.accepting.design h.design w.design

  the_rows : held.rows ≡ work.rows
  the_rows =
      let both : ◌≡◌ {A = Rows} (Ok held.rows) (Ok work.rows) = one_saying files command held.design work.accepting.design _ _ (held_said files command held h) (work_said files command work w) in
      cc

  the_ports : held.ports ≡ work.accepting.ports
  the_ports = one_ports work.accepting.design held.ports work.accepting.ports (subst (λ (d : Design). ArePortsOf d held.ports) the_design h.ports) w.kept.ports

  the_driven : held.driven ≡ length work.accepting.order
  the_driven =
      h.driven
      ∙ one_length work.accepting.design h.design.accepted.1.pairs work.accepting.order
      (subst (λ (d : Design). TellsOrder d h.design.accepted.1.pairs) the_design h.design.accepted.1.order) w.kept.order

  the_mode : held.mode ≡ work.mode
  the_mode = h.mode ∙ sym w.mode

  the_requests : held.requests ≡ work.requests
  the_requests = let both : Some held.requests ≡ Some work.requests = same_requests files command.requests (Some held.requests) (Some work.requests) h.requests w.requests in cc

  the_same : held ≡ held_by work held.run held.reader
  the_same =
      λ k. record { design = the_design k; driven = the_driven k; ports = the_ports k; rows = the_rows k; run = held.run; requests = the_requests k; mode = the_mode k; reader = held.reader }

  runs_over : RunsOver work.accepting.design work.rows held.run
  runs_over = subst (λ (l : List (List Bits)). RunsOver work.accepting.design l held.run) the_rows (subst (λ (d : Design). RunsOver d held.rows held.run) the_design h.runs)

  pub the_text : text_of heard command.task held ≡ text_of heard work.task (held_by work held.run held.reader)
  the_text = ap (text_of heard command.task) the_same ∙ ap (λ (t : Task). text_of heard t (held_by work held.run held.reader)) (sym w.task)

-- ---- what was taken

abbrev answer_text : (a b : Answer) → a ≡ b → a.text ≡ b.text
answer_text a b e = ap (λ (x : Answer). x.text) e

abbrev answer_status : (a b : Answer) → a ≡ b → a.status ≡ b.status
answer_status a b e = ap (λ (x : Answer). x.status) e

-- a text that is asked for is that of what was judged, with some run and some way to read conditions
work_taken : (heard : List Heard) (files : Contents) (command : Command) (work : Work) (asked : Answer) (old new : Option (List ℕ)) → HoldsWork files command work → (s : ShowsText heard files command asked)
    → ((text : List ℕ) → IsWorkText heard work text → Appends old new text) → Appends old new asked.text
work_taken heard files command work asked old new w s taken =
    subst (λ (l : List ℕ). Appends old new l) (sym (answer_text asked _ s.is ∙ the_text heard files command work s.held w s.holds))
    (taken (text_of heard work.task (held_by work s.held.run s.held.reader)) (s.held.run, runs_over heard files command work s.held w s.holds, s.held.reader, s.holds.reads, refl))

-- the line of a refusal, where another is asked for, is of the same cause, or of another loop
refusal_taken : (files : Contents) (command : Command) (given asked : Answer) (old new : Option (List ℕ)) → (r : RefusesDesign files command given) → (s : RefusesDesign files command asked) → Appends old new given.text → TakesAnswer files command asked old new
refusal_taken files command given asked old new r s t =
    elim (one_judgement command.top (IsProject files command.source) (one_project files command.source) (Err r.fault) (Err s.fault) r.refused s.refused) [
      | inl both ↦ inl (subst (λ (text : List ℕ). Appends old new text) (answer_text given _ r.is ∙ ap design_line (one_err r.fault s.fault both) ∙ sym (answer_text asked _ s.is)) t)
      | inr loops ↦ inr (record {
        design = loops.design;
        asked = record { paths = loops.others; loop = loops.other; is = s.is ∙ ap (λ (f : DesignFault). record { status = 3; text = design_line f }) (one_err s.fault (CombLoop loops.others) loops.second) };
        other = given;
        also_asked = record { paths = loops.paths; loop = loops.one; is = r.is ∙ ap (λ (f : DesignFault). record { status = 3; text = design_line f }) (one_err r.fault (CombLoop loops.paths) loops.first) };
        taken = t;
      })
    ]
  where
    one_err : (a b : DesignFault) → ◌≡◌ {A = Result Design DesignFault} (Err a) (Err b) → a ≡ b
    one_err a b e = cc

-- the line of a stimulus that is refused is the one that is asked for
stimulus_taken : (files : Contents) (command : Command) (given asked : Answer) → RefusesStimulus files command given → RefusesStimulus files command asked → given ≡ asked
stimulus_taken files command given asked r s =
    let both : ◌≡◌ {A = Rows} (Err r.fault) (Err s.fault) = one_saying files command r.design s.design _ _ (refusal_said files command given r) (refusal_said files command asked s) in
    let same : r.fault ≡ s.fault = cc in
    r.is ∙ (ap (λ (f : StimFault). record { status = 4; text = stimulus_line f }) same ∙ sym s.is)

-- what was accepted is refused by none of the files
no_refusal : (files : Contents) (command : Command) (work : Work) (asked : Answer) → HoldsWork files command work → RefusesStimulus files command asked → ⊥
no_refusal files command work asked w s = ok_err work.rows s.fault (one_saying files command _ _ _ _ (work_said files command work w) (refusal_said files command asked s))

-- what was accepted was asked for
accepted_taken : (heard : List Heard) (files : Contents) (command : Command) (work : Work) (old new : Option (List ℕ)) → HoldsWork files command work → ((text : List ℕ) → IsWorkText heard work text → Appends old new text)
    → (asked : Answer) → Asks heard files command asked → (0 ≡ asked.status) × TakesAnswer files command asked old new
accepted_taken heard files command work old new w t asked (NoDesign s) = absurd (no_design files command _ s work.accepting.design w.design)
accepted_taken heard files command work old new w t asked (NoStimulus s) = absurd (no_refusal files command work asked w s)
accepted_taken heard files command work old new w t asked (NoRequests s) = absurd (taken_refused files command.requests work.requests w.requests s.refused)
accepted_taken heard files command work old new w t asked (Accepted s) = (sym (answer_status asked _ s.is), inl (work_taken heard files command work asked old new w s t))

-- the requests are refused
requests_taken : (heard : List Heard) (files : Contents) (command : Command) (old new : Option (List ℕ)) → RefusesRequests files command (record { status = 6; text = requests_fault }) → Appends old new requests_fault
    → (asked : Answer) → Asks heard files command asked → (6 ≡ asked.status) × TakesAnswer files command asked old new
requests_taken heard files command old new j t asked (NoDesign s) = absurd (no_design files command _ s j.design j.holds)
requests_taken heard files command old new j t asked (NoStimulus s) =
    absurd (ok_err j.rows s.fault (one_saying files command _ _ _ _ (requests_said files command _ j) (refusal_said files command asked s)))
requests_taken heard files command old new j t asked (NoRequests s) =
    (sym (answer_status asked _ s.is), inl (subst (λ (l : List ℕ). Appends old new l) (sym (answer_text asked _ s.is)) t))
requests_taken heard files command old new j t asked (Accepted s) = absurd (taken_refused files command.requests s.held.requests s.holds.requests j.refused)

-- the text that goes with what was judged is that of every answer that is asked for
pub answer_taken : (heard : List Heard) (files : Contents) (command : Command) (found : Judged) (old new : Option (List ℕ)) → Judges files command found → TakesText heard found old new → (asked : Answer) → Asks heard files command asked
    → (judged_status found ≡ asked.status) × TakesAnswer files command asked old new
answer_taken heard files command judged.NoCommand old new j t asked asks = absurd j
answer_taken heard files command (judged.NoDesign fault) old new j t asked (NoDesign s) =
    (sym (answer_status asked _ s.is), refusal_taken files command (record { status = 3; text = design_line fault }) asked old new j s (t.taken (design_line fault) refl))
answer_taken heard files command (judged.NoDesign fault) old new j t asked (NoStimulus s) = absurd (no_design files command _ j s.design s.holds)
answer_taken heard files command (judged.NoDesign fault) old new j t asked (NoRequests s) = absurd (no_design files command _ j s.design s.holds)
answer_taken heard files command (judged.NoDesign fault) old new j t asked (Accepted s) = absurd (no_design files command _ j s.held.design s.holds.design)
answer_taken heard files command (judged.NoStimulus fault) old new j t asked (NoDesign s) = absurd (no_design files command _ s j.design j.holds)
answer_taken heard files command (judged.NoStimulus fault) old new j t asked (NoStimulus s) =
    let same : record { status = 4; text = stimulus_line fault } ≡ asked = stimulus_taken files command (record { status = 4; text = stimulus_line fault }) asked j s in
    (answer_status _ asked same, inl (subst (λ (l : List ℕ). Appends old new l) (answer_text _ asked same) (t.taken (stimulus_line fault) refl)))
answer_taken heard files command (judged.NoStimulus fault) old new j t asked (NoRequests s) =
    absurd (ok_err s.rows j.fault (one_saying files command _ _ _ _ (requests_said files command asked s) (refusal_said files command _ j)))
answer_taken heard files command (judged.NoStimulus fault) old new j t asked (Accepted s) =
    absurd (ok_err s.held.rows j.fault (one_saying files command _ _ _ _ (held_said files command s.held s.holds) (refusal_said files command _ j)))
answer_taken heard files command judged.NoRequests old new j t asked asks = requests_taken heard files command old new j (t.taken requests_fault refl) asked asks
answer_taken heard files command (judged.Alone task mode a) old new j t asked asks = accepted_taken heard files command (alone task mode a) old new j t.taken asked asks
answer_taken heard files command (judged.Over task mode a stim) old new j t asked asks = accepted_taken heard files command (over task mode a stim) old new j t.taken asked asks
answer_taken heard files command (judged.Session mode a stim requests) old new j t asked asks = accepted_taken heard files command (session mode a stim requests.items) old new j t.taken asked asks

-- where the files hold what a service shows, and there are no requests, each answer that is asked for has the status 0
pub offer_status : (files : Contents) (command : Command) (over : Over) → command.requests ≡ None → HoldsOver files command over → (asked : Answer) → Asks [] files command asked → asked.status ≡ 0
offer_status files command over bare h asked (NoDesign s) = absurd (no_design files command asked s over.design h.design)
offer_status files command over bare h asked (NoStimulus s) =
    absurd (ok_err over.rows s.fault (one_saying files command over.design s.design (Ok over.rows) (Err s.fault) (record { design = h.design; ports = h.ports; are = h.are; is = h.rows }) (refusal_said files command asked s)))
offer_status files command over bare h asked (NoRequests s) = absurd (taken_refused files command.requests [] (rw bare refl) s.refused)
offer_status files command over bare h asked (Accepted s) = answer_status asked _ s.is
