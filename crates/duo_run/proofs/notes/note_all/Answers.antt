use Rattle.std.proofs.Common.{rules, ◌≡◌, ◌<◌, take, length, ◌∙◌, arith}
use Rattle.std.proofs.lemmas.List.{take_all}
use Rattle.machine_core.specs.Journal.{Noticed}
use Rattle.req_json.specs.Texts.{line_text}
use Rattle.link_pump.proofs.Sending.{lasts_on}
use Rattle.duo_run.proofs.Noticing.{notices_more}
use Rattle.duo_run.proofs.notes.note_all.Goals as goal

pub loop-notice-preserved : goal.loop-notice-preserved
unfolding line_text
loop-notice-preserved g c =
    let within : c.loop-notice.notice-index < length c.args.notices.now = omega arith in
    record {
      keeps = λ start made was.
          rw (notices_more c.args.notices.now c.loop-notice.notice-index c.notice-item.result made within (search rules))
          (c.tell.ensures.keeps start _ (line_text (Noticed c.notice-item.result)) c.notice_text.ensures (c.loop-notice.invariant.keeps start made was));
      polls = c.tell.ensures.polls ∙ c.loop-notice.invariant.polls;
      received = c.tell.ensures.received ∙ c.loop-notice.invariant.received;
      over = lasts_on _ _ _ c.loop-notice.invariant.over c.tell.ensures.over;
      usable = c.tell.ensures.shut;
    }

pub returns-clause-keeps : goal.returns-clause-keeps
returns-clause-keeps g c = λ start made was.
    let all : take c.loop-notice.notice-index c.args.notices.now ≡ c.args.notices.now = take_all c.loop-notice.notice-index c.args.notices.now (omega arith) in
    rw all at (c.loop-notice.invariant.keeps start made was)
