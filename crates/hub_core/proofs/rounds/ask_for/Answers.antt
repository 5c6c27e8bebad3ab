use Rattle.std.proofs.Common.{rules}
use Rattle.hub_core.proofs.Stepping.{at_answer, at_lost, at_starved}
use Rattle.hub_core.proofs.rounds.ask_for.Goals as goal

pub returns-in-Ok-clause-keeps : goal.returns-in-Ok-clause-keeps
returns-in-Ok-clause-keeps g c = λ read reader first starts was.
    at_answer read _ g.L.Link.meaning first starts _ _ c.args.clients.now c.deliver_all.new.clients c.args.journal.now.events.items c.note_ask.new.self.events.items c.args.journal.now.byes.items c.note_ask.new.self.byes.items c.args.k c.args.text
    c.items.result.now c.in-Ok.replies.items c.here.result (search rules) was c.requires.here c.requires.within.1 (c.in-Ok.ensures.ok read reader) c.here.ensures c.note_ask.ensures.deeds c.note_ask.ensures.byes (c.deliver_all.ensures.keeps starts)

pub returns-in-Err-true-clause-keeps : goal.returns-in-Err-true-clause-keeps
returns-in-Err-true-clause-keeps g c = λ read reader first starts was.
    at_lost read _ g.L.Link.meaning first starts _ _ c.args.clients.now c.lose_all.new.clients c.args.journal.now.events.items c.note_ask-in-Err-true.new.self.events.items c.args.journal.now.byes.items c.note_ask-in-Err-true.new.self.byes.items c.args.k c.args.text
    c.items.result.now c.here-in-Err-true.result (search rules) was c.requires.here c.requires.within.1 (c.in-Err-true.ensures.applied (search rules) read reader) c.here-in-Err-true.ensures c.note_ask-in-Err-true.ensures.deeds c.note_ask-in-Err-true.ensures.byes (c.lose_all.ensures.keeps starts)

pub returns-in-Err-false-clause-keeps : goal.returns-in-Err-false-clause-keeps
returns-in-Err-false-clause-keeps g c = λ read reader first starts was.
    at_starved read _ g.L.Link.meaning first starts _ _ c.args.clients.now c.starve_at.new.clients c.lose_all-in-Err-false.new.clients c.args.journal.now.events.items c.args.journal.now.byes.items c.args.k c.args.text was
    (c.in-Err-false.ensures.untouched (search rules)) (c.starve_at.ensures.keeps starts) (c.lose_all-in-Err-false.ensures.keeps starts)
