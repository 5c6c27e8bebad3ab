use Rattle.std.proofs.Common.{rules, ◌≡◌, ◌++◌, [], false, arith}
use Rattle.machine_core.specs.Machine.{is_running}
use Rattle.hub_core.specs.Hubs.{turned}
use Rattle.hub_core.specs.Clients.{lines_to, nothing}
use Rattle.hub_core.proofs.Noting.{lost_none_more}
use Rattle.hub_core.proofs.Stepping.{at_turn, at_same, at_idle, at_weaker}
use Rattle.hub_core.proofs.rounds.turn_once.Goals as goal

pub returns-then-not-running-clause-keeps : goal.returns-then-not-running-clause-keeps
returns-then-not-running-clause-keeps g c = λ read reader first starts was.
    at_idle read _ g.L.Link.meaning first starts _ c.args.clients.now c.args.journal.now.events.items c.args.journal.now.byes.items nothing 8 (let idle : is_running c.args.hub.now.session.motion ≡ false = search rules in idle) was

pub returns-then-is_err-clause-keeps : goal.returns-then-is_err-clause-keeps
returns-then-is_err-clause-keeps g c = λ read reader first starts was.
    let m = g.L.Link.meaning in
    rw (c.reserve.ensures.same, c.reserve.ensures.byes)
    (at_same read _ m first starts _ c.args.clients.now c.lose_all.new.clients c.args.journal.now.events.items c.args.journal.now.byes.items nothing nothing 8 was
    (λ asked made all. lost_none_more m (λ j. asked j ++ []) made starts c.lose_all.new.clients (c.lose_all.ensures.keeps starts (λ j. asked j ++ []) made nothing all)))

pub returns-in-Ok-clause-keeps : goal.returns-in-Ok-clause-keeps
returns-in-Ok-clause-keeps g c = λ read reader first starts was.
    rw (c.add_turn.ensures.byes, c.reserve.ensures.byes)
    (at_turn read _ g.L.Link.meaning first starts _ _ c.args.clients.now c.deliver_all.new.clients c.args.journal.now.events.items c.add_turn.new.self.events.items c.args.journal.now.byes.items 8 was
    (rw c.reserve.ensures.same at c.add_turn.ensures.added) c.turn.ensures.state
    (λ asked made all. rw (← c.in-Ok.ensures.lines) (c.deliver_all.ensures.keeps starts asked made (c.ready_all.ensures.keeps starts asked made all))))

pub returns-in-Err-clause-keeps : goal.returns-in-Err-clause-keeps
returns-in-Err-clause-keeps g c = λ read reader first starts was.
    rw (c.add_turn-in-Err.ensures.byes, c.reserve.ensures.byes)
    (at_weaker read _ g.L.Link.meaning first starts _ c.lose_all-in-Err.new.clients c.add_turn-in-Err.new.self.events.items c.args.journal.now.byes.items nothing 0 8 (omega arith)
    (at_turn read _ g.L.Link.meaning first starts _ _ c.args.clients.now c.lose_all-in-Err.new.clients c.args.journal.now.events.items c.add_turn-in-Err.new.self.events.items c.args.journal.now.byes.items 8 was
    (rw c.reserve.ensures.same at c.add_turn-in-Err.ensures.added) c.turn.ensures.state (λ asked made all. c.lose_all-in-Err.ensures.keeps starts asked made (λ j. lines_to j (turned _ _).lines) (c.ready_all.ensures.keeps starts asked made all))))
