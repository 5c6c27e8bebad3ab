use Rattle.machine_core.specs.Journal.{Replied}
use Rattle.req_json.specs.Texts.{line_text}
use Rattle.duo_run.proofs.Keeping.{asked_on}
use Rattle.duo_run.proofs.desk.Desk.apply.Goals as goal

pub returns-clause-keeps : goal.returns-clause-keeps
unfolding line_text
returns-clause-keeps g c = λ start polls deeds made was.
    asked_on start _ _ c.args.self.now c.tell.new.self c.add_request.new.self _ c.args.text polls deeds made _ c.requires.room c.add_request.ensures c.tell.ensures.polls c.tell.ensures.received
    (λ delivered. c.tell.ensures.keeps start made (line_text (Replied c.args.reply.now)) c.reply_text.ensures delivered) was
