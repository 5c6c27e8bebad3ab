use Rattle.std.proofs.Common.{◌≡◌, ◌<◌, ◌∙◌, [], Err, inl, inr, refl, sym, ap, subst, lit<, arith, IfSome, map}
use Rattle.std.specs.Prelude.{string_bytes}
use Rattle.io_edge.proofs.Stops.{grows_not}
use Rattle.dbg_app.proofs.Statuses.{ends_grown}
use Rattle.dbg_app.specs.Dap.{talk_as, Talked}
use Rattle.dbg_app.specs.declared.judge.Judged.TheVariants.{NoCommand}
use Rattle.dbg_app.proofs.Ending.{usage_taken, design_line_taken, stimulus_line_taken}
use Rattle.dbg_app.proofs.Dapping.{refused_early, front_late, talk_known, talk_not_refused, talk_heard, talk_unread, talk_untaken, refusal_known, refusal_not_whole, halt_known, halt_not_whole, halt_unread, halt_completes, asked_is, talks, talk_completes, refused_completes, refused_ends, refused_front, nothing_front, talked_front, no_files, no_front, front_command, unread_command, talked_files, refused_files, halted_files}
use Rattle.dbg_app.proofs.dap.run_dap.Goals as goal

-- ---- no conversation

pub returns-in_default-clause-statuses : goal.returns-in_default-clause-statuses
returns-in_default-clause-statuses g c = refusal_known NoCommand c.refuse.result.status c.refuse.ensures.statuses (inl refl) c.refuse.ensures.status c.refuse.ensures.no_read

pub returns-in_default-clause-unheard : goal.returns-in_default-clause-unheard
returns-in_default-clause-unheard g c = λ r. record { left_is = refl; faults_are = refl }

pub returns-in_default-clause-no_input : goal.returns-in_default-clause-no_input
returns-in_default-clause-no_input g c = λ none. record { left_is = refl; faults_are = refl }

pub returns-in_default-clause-usage_front : goal.returns-in_default-clause-usage_front
returns-in_default-clause-usage_front g c = λ none.
    let r = c.refuse.ensures in
    usage_taken [] c.refuse.result.status NoCommand _ _ r.statuses refl r.done r.no_read r.front

pub returns-in_default-clause-files : goal.returns-in_default-clause-files
returns-in_default-clause-files g c = no_files (g.F.Files.told c.args.files.now) c.args.words.now c.refuse.result.status (g.F.Files.asked c.args.files.now) c.in_default.ensures.talk

pub returns-in_default-clause-asked : goal.returns-in_default-clause-asked
returns-in_default-clause-asked g c = no_front (g.F.Files.told c.args.files.now) c.args.words.now _ c.in_default.ensures.talk

pub returns-in_default-clause-unread : goal.returns-in_default-clause-unread
returns-in_default-clause-unread g c = λ seven. absurd (c.refuse.ensures.no_read seven)

pub returns-in_default-clause-kept : goal.returns-in_default-clause-kept
returns-in_default-clause-kept g c =
    let r = c.refuse.ensures in
    ends_grown [] NoCommand c.refuse.result.status _ _ tt r.statuses r.done r.no_read r.front

-- ---- what was accepted

pub returns-in-Accepted-clause-statuses : goal.returns-in-Accepted-clause-statuses
returns-in-Accepted-clause-statuses g c = rw c.talk_status.ensures (talk_known c.converse.result)

pub returns-in-Accepted-clause-usage : goal.returns-in-Accepted-clause-usage
returns-in-Accepted-clause-usage g c = λ two. absurd (talk_not_refused c.converse.result (inl (sym c.talk_status.ensures ∙ two)))

pub returns-in-Accepted-clause-usage_line : goal.returns-in-Accepted-clause-usage_line
returns-in-Accepted-clause-usage_line g c = λ two. absurd (talk_not_refused c.converse.result (inl (sym c.talk_status.ensures ∙ two)))

pub returns-in-Accepted-clause-design_line : goal.returns-in-Accepted-clause-design_line
returns-in-Accepted-clause-design_line g c = λ three. absurd (talk_not_refused c.converse.result (inr (inl (sym c.talk_status.ensures ∙ three))))

pub returns-in-Accepted-clause-stimulus_line : goal.returns-in-Accepted-clause-stimulus_line
returns-in-Accepted-clause-stimulus_line g c = λ four. absurd (talk_not_refused c.converse.result (inr (inr (sym c.talk_status.ensures ∙ four))))

pub returns-in-Accepted-clause-unheard : goal.returns-in-Accepted-clause-unheard
returns-in-Accepted-clause-unheard g c = λ r. absurd (talk_heard c.converse.result (rw c.talk_status.ensures at r))

pub returns-in-Accepted-clause-refused : goal.returns-in-Accepted-clause-refused
returns-in-Accepted-clause-refused g c = λ r. absurd (talk_heard c.converse.result (rw c.talk_status.ensures at r))

pub returns-in-Accepted-clause-talked : goal.returns-in-Accepted-clause-talked
returns-in-Accepted-clause-talked g c = λ whole.
    asked_is (g.F.Files.told c.args.files.now) c.args.words.now (talk_as c.in-Some.talk) _ c.in-Some.ensures.talk
    (rw c.talk_status.ensures
    (talks (talk_as c.in-Some.talk) c.converse.result _ _ _ _ c.in-Accepted.service (rw c.in-Accepted.is at c.in-Ok.ensures.shown) (g.F.Files.told c.args.files.now) (map (λ name. string_bytes name) c.in-Ok.names.items)
    (rw c.in-Accepted.is at c.in-Ok.ensures.judged) (rw c.in-Accepted.is at c.in-Ok.ensures.names) c.converse.ensures.text))

pub returns-in-Accepted-clause-complete : goal.returns-in-Accepted-clause-complete
returns-in-Accepted-clause-complete g c =
    asked_is (g.F.Files.told c.args.files.now) c.args.words.now (talk_as c.in-Some.talk) _ c.in-Some.ensures.talk
    (rw c.talk_status.ensures
    (talk_completes (talk_as c.in-Some.talk) c.converse.result (g.I.Source.left c.args.input.now) (g.I.Source.left c.args.input.now) _ _ c.in-Accepted.service (rw c.in-Accepted.is at c.in-Ok.ensures.shown) _ _ _ (g.F.Files.told c.args.files.now) c.in-Some.ensures.requests
    (rw c.in-Accepted.is at c.in-Ok.ensures.judged) c.converse.ensures.unread c.converse.ensures.untaken))

pub returns-in-Accepted-clause-asked : goal.returns-in-Accepted-clause-asked
returns-in-Accepted-clause-asked g c = front_command (g.F.Files.told c.args.files.now) c.args.words.now (talk_as c.in-Some.talk) c.in-Some.ensures.talk c.in-Some.ensures.requests _ _ c.judge_named.ensures.front

pub returns-in-Accepted-clause-files : goal.returns-in-Accepted-clause-files
returns-in-Accepted-clause-files g c =
    rw c.talk_status.ensures
    (talked_files (g.F.Files.told c.args.files.now) c.args.words.now (talk_as c.in-Some.talk) c.in-Some.ensures.talk c.in-Some.ensures.requests c.converse.result _ _ (rw c.in-Accepted.is at c.in-Ok.ensures.asked))

pub returns-in-Accepted-clause-unread : goal.returns-in-Accepted-clause-unread
returns-in-Accepted-clause-unread g c = λ seven.
    let is = sym c.talk_status.ensures ∙ seven in
    inr (
      c.converse.ensures.unread (talk_unread c.converse.result is),
      asked_is (g.F.Files.told c.args.files.now) c.args.words.now (talk_as c.in-Some.talk) _ c.in-Some.ensures.talk
          (rw is at (talks (talk_as c.in-Some.talk) c.converse.result _ _ _ _ c.in-Accepted.service (rw c.in-Accepted.is at c.in-Ok.ensures.shown) (g.F.Files.told c.args.files.now) (map (λ name. string_bytes name) c.in-Ok.names.items)
          (rw c.in-Accepted.is at c.in-Ok.ensures.judged) (rw c.in-Accepted.is at c.in-Ok.ensures.names) c.converse.ensures.text)),
    )

pub returns-in-Accepted-clause-write : goal.returns-in-Accepted-clause-write
returns-in-Accepted-clause-write g c = λ eight. c.converse.ensures.untaken (talk_untaken c.converse.result (sym c.talk_status.ensures ∙ eight))

pub returns-in-Accepted-clause-front : goal.returns-in-Accepted-clause-front
returns-in-Accepted-clause-front g c = λ late.
    asked_is (g.F.Files.told c.args.files.now) c.args.words.now (talk_as c.in-Some.talk) _ c.in-Some.ensures.talk
    (rw c.talk_status.ensures
    (talked_front (g.F.Files.told c.args.files.now) (talk_as c.in-Some.talk) _ _ _ _ _ _ _
    (talks (talk_as c.in-Some.talk) c.converse.result _ _ _ _ c.in-Accepted.service (rw c.in-Accepted.is at c.in-Ok.ensures.shown) (g.F.Files.told c.args.files.now) (map (λ name. string_bytes name) c.in-Ok.names.items)
    (rw c.in-Accepted.is at c.in-Ok.ensures.judged) (rw c.in-Accepted.is at c.in-Ok.ensures.names) c.converse.ensures.text)))

-- ---- what was refused

pub returns-in-Refused-clause-statuses : goal.returns-in-Refused-clause-statuses
returns-in-Refused-clause-statuses g c =
    let r = c.refuse-in-Refused.ensures in
    refusal_known c.in-Refused.judged c.refuse-in-Refused.result.status r.statuses (inr (rw c.in-Refused.is at c.in-Ok.ensures.shown).status) r.status r.no_read

pub returns-in-Refused-clause-design_line : goal.returns-in-Refused-clause-design_line
returns-in-Refused-clause-design_line g c = λ three.
    let r = c.refuse-in-Refused.ensures in
    let early : c.refuse-in-Refused.result.status < 7 = rw three (lit< tt) in
    design_line_taken [] c.refuse-in-Refused.result.status c.in-Refused.judged _ _ three (r.status early) (rw c.in-Refused.is at c.in-Ok.ensures.shown).text (r.done early)

pub returns-in-Refused-clause-stimulus_line : goal.returns-in-Refused-clause-stimulus_line
returns-in-Refused-clause-stimulus_line g c = λ four.
    let r = c.refuse-in-Refused.ensures in
    let early : c.refuse-in-Refused.result.status < 7 = rw four (lit< tt) in
    stimulus_line_taken [] c.refuse-in-Refused.result.status c.in-Refused.judged _ _ four (r.status early) (rw c.in-Refused.is at c.in-Ok.ensures.shown).text (r.done early)

pub returns-in-Refused-clause-unheard : goal.returns-in-Refused-clause-unheard
returns-in-Refused-clause-unheard g c = λ r. record { left_is = refl; faults_are = refl }

pub returns-in-Refused-clause-refused : goal.returns-in-Refused-clause-refused
returns-in-Refused-clause-refused g c = λ known.
    let r = c.refuse-in-Refused.ensures in
    let early = refused_early c.refuse-in-Refused.result.status known in
    asked_is (g.F.Files.told c.args.files.now) c.args.words.now (talk_as c.in-Some.talk) _ c.in-Some.ensures.talk
    (refused_ends (talk_as c.in-Some.talk) c.refuse-in-Refused.result.status _ _ c.in-Refused.judged (g.F.Files.told c.args.files.now) (rw c.in-Refused.is at c.in-Ok.ensures.judged) (rw c.in-Refused.is at c.in-Ok.ensures.shown).text (r.status early) (r.done early))

pub returns-in-Refused-clause-talked : goal.returns-in-Refused-clause-talked
returns-in-Refused-clause-talked g c = λ whole.
    let r = c.refuse-in-Refused.ensures in
    absurd (refusal_not_whole c.in-Refused.judged c.refuse-in-Refused.result.status r.statuses (rw c.in-Refused.is at c.in-Ok.ensures.shown).status r.status whole)

pub returns-in-Refused-clause-complete : goal.returns-in-Refused-clause-complete
returns-in-Refused-clause-complete g c =
    let r = c.refuse-in-Refused.ensures in
    asked_is (g.F.Files.told c.args.files.now) c.args.words.now (talk_as c.in-Some.talk) _ c.in-Some.ensures.talk
    (refused_completes (talk_as c.in-Some.talk) c.refuse-in-Refused.result.status _ _ c.in-Refused.judged _ _ _ (g.F.Files.told c.args.files.now) (rw c.in-Refused.is at c.in-Ok.ensures.judged) r.statuses r.status r.done r.no_read r.write)

pub returns-in-Refused-clause-asked : goal.returns-in-Refused-clause-asked
returns-in-Refused-clause-asked g c = front_command (g.F.Files.told c.args.files.now) c.args.words.now (talk_as c.in-Some.talk) c.in-Some.ensures.talk c.in-Some.ensures.requests _ _ c.judge_named.ensures.front

pub returns-in-Refused-clause-files : goal.returns-in-Refused-clause-files
returns-in-Refused-clause-files g c =
    let r = c.refuse-in-Refused.ensures in
    refused_files (g.F.Files.told c.args.files.now) c.args.words.now (talk_as c.in-Some.talk) c.in-Some.ensures.talk c.in-Some.ensures.requests c.in-Refused.judged c.refuse-in-Refused.result.status _ _ r.statuses
    (rw c.in-Refused.is at c.in-Ok.ensures.asked) r.status

pub returns-in-Refused-clause-unread : goal.returns-in-Refused-clause-unread
returns-in-Refused-clause-unread g c = λ seven. absurd (c.refuse-in-Refused.ensures.no_read seven)

pub returns-in-Refused-clause-front : goal.returns-in-Refused-clause-front
returns-in-Refused-clause-front g c = λ late.
    let r = c.refuse-in-Refused.ensures in
    asked_is (g.F.Files.told c.args.files.now) c.args.words.now (talk_as c.in-Some.talk) _ c.in-Some.ensures.talk
    (refused_front (talk_as c.in-Some.talk) c.refuse-in-Refused.result.status _ _ c.in-Refused.judged _ _ _ _ (record { left_is = refl; faults_are = refl }) (g.F.Files.told c.args.files.now) (rw c.in-Refused.is at c.in-Ok.ensures.judged)
    (rw c.in-Refused.is at c.in-Ok.ensures.shown).text (r.front (front_late c.refuse-in-Refused.result.status late)))

pub returns-in-Refused-clause-kept : goal.returns-in-Refused-clause-kept
returns-in-Refused-clause-kept g c =
    let r = c.refuse-in-Refused.ensures in
    ends_grown [] c.in-Refused.judged c.refuse-in-Refused.result.status _ _ (rw c.in-Refused.is at c.in-Ok.ensures.shown).text r.statuses r.done r.no_read r.front

-- ---- what was not judged

pub returns-in-Err-clause-statuses : goal.returns-in-Err-clause-statuses
returns-in-Err-clause-statuses g c = rw c.status.ensures.status (halt_known c.in-Err.halt)

pub returns-in-Err-clause-unheard : goal.returns-in-Err-clause-unheard
returns-in-Err-clause-unheard g c = λ r. record { left_is = refl; faults_are = refl }

pub returns-in-Err-clause-refused : goal.returns-in-Err-clause-refused
returns-in-Err-clause-refused g c = λ r.
    let early = refused_early c.status.result r in
    let late = c.status.ensures.late in
    absurd (omega (arith, early, late))

pub returns-in-Err-clause-talked : goal.returns-in-Err-clause-talked
returns-in-Err-clause-talked g c = λ whole. absurd (halt_not_whole c.in-Err.halt (rw c.status.ensures.status at whole))

pub returns-in-Err-clause-complete : goal.returns-in-Err-clause-complete
returns-in-Err-clause-complete g c =
    asked_is (g.F.Files.told c.args.files.now) c.args.words.now (talk_as c.in-Some.talk) _ c.in-Some.ensures.talk
    (rw c.status.ensures.status
    (halt_completes (g.F.Files.told c.args.files.now) (talk_as c.in-Some.talk) c.in-Err.halt _ _ _ _ _ (λ e. c.in-Err.ensures.read (ap (λ x. Err x) e)) (λ e. c.in-Err.ensures.no_write (ap (λ x. Err x) e))))

pub returns-in-Err-clause-asked : goal.returns-in-Err-clause-asked
returns-in-Err-clause-asked g c = front_command (g.F.Files.told c.args.files.now) c.args.words.now (talk_as c.in-Some.talk) c.in-Some.ensures.talk c.in-Some.ensures.requests _ _ c.judge_named.ensures.front

pub returns-in-Err-clause-files : goal.returns-in-Err-clause-files
returns-in-Err-clause-files g c =
    rw c.status.ensures.status (halted_files (g.F.Files.told c.args.files.now) c.args.words.now (talk_as c.in-Some.talk) c.in-Some.ensures.talk c.in-Some.ensures.requests c.in-Err.halt _ _)

pub returns-in-Err-clause-unread : goal.returns-in-Err-clause-unread
returns-in-Err-clause-unread g c = λ seven.
    let is = ap (λ x. Err x) (halt_unread c.in-Err.halt (sym c.status.ensures.status ∙ seven)) in
    inl (record {
      rose = c.in-Err.ensures.read is;
      stopped = unread_command (g.F.Files.told c.args.files.now) c.args.words.now (talk_as c.in-Some.talk) c.in-Some.ensures.talk c.in-Some.ensures.requests g.F.Files.asked g.F.Files.fault_count _ _ (c.in-Err.ensures.unread is);
      unheard = record { left_is = refl; faults_are = refl };
      nothing = refl;
    })

pub returns-in-Err-clause-front : goal.returns-in-Err-clause-front
returns-in-Err-clause-front g c = λ late.
    asked_is (g.F.Files.told c.args.files.now) c.args.words.now (talk_as c.in-Some.talk) _ c.in-Some.ensures.talk
    (nothing_front (g.F.Files.told c.args.files.now) (talk_as c.in-Some.talk) _ _ _ _ _ _ _ (record { left_is = refl; faults_are = refl }) refl)

pub returns-in-Err-clause-kept : goal.returns-in-Err-clause-kept
returns-in-Err-clause-kept g c = grows_not _ _ refl
