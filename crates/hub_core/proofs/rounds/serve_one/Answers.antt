use Rattle.std.proofs.Common.{rules, ◌++◌, ◌∷◌, [], refl, arith, ◌+◌}
use Rattle.hub_core.specs.HubJournals.{at_client}
use Rattle.hub_core.specs.Clients.{nothing}
use Rattle.hub_core.proofs.Noting.{lost_none_more, asked_none, polled_none}
use Rattle.hub_core.proofs.Stepping.{at_same, at_left, at_weaker}
use Rattle.hub_core.proofs.rounds.serve_one.Goals as goal

pub returns-then-not-here-clause-keeps : goal.returns-then-not-here-clause-keeps
returns-then-not-here-clause-keeps g c = λ read reader first starts was.
    at_weaker read _ g.L.Link.meaning first starts _ c.args.clients.now c.args.journal.now.events.items c.args.journal.now.byes.items nothing c.args.k (c.args.k + 1) (omega arith) was

pub returns-then-is_err-clause-keeps : goal.returns-then-is_err-clause-keeps
returns-then-is_err-clause-keeps g c = λ read reader first starts was.
    let m = g.L.Link.meaning in
    rw (c.reserve.ensures.same, c.reserve.ensures.byes)
    (at_weaker read _ m first starts _ c.lose_all.new.clients c.args.journal.now.events.items c.args.journal.now.byes.items nothing c.args.k (c.args.k + 1) (omega arith)
    (at_same read _ m first starts _ c.args.clients.now c.lose_all.new.clients c.args.journal.now.events.items c.args.journal.now.byes.items nothing nothing c.args.k was
    (λ asked made all. lost_none_more m (λ j. asked j ++ []) made starts c.lose_all.new.clients (c.lose_all.ensures.keeps starts (λ j. asked j ++ []) made nothing all))))

pub returns-in-Some-clause-keeps : goal.returns-in-Some-clause-keeps
returns-in-Some-clause-keeps g c = λ read reader first starts was.
    let m = g.L.Link.meaning in
    c.ask_for.ensures.keeps read reader first starts
    (rw (c.reserve.ensures.same, c.reserve.ensures.byes)
    (at_same read _ m first starts _ c.args.clients.now c.poll_at.new.clients c.args.journal.now.events.items c.args.journal.now.byes.items nothing (λ j. at_client c.args.k j (c.in-Some.text ∷ [])) c.args.k was
    (λ asked made all. c.in-Some.ensures.keeps starts asked made (c.ready_at.ensures.keeps starts asked made (asked_none m asked made starts c.args.clients.now all)))))

pub returns-then-is_some-clause-keeps : goal.returns-then-is_some-clause-keeps
returns-then-is_some-clause-keeps g c = λ read reader first starts was.
    let m = g.L.Link.meaning in
    rw (c.leave.ensures.session, c.leave.ensures.here, c.leave.ensures.listeners, c.add_left.ensures.byes, c.reserve.ensures.byes)
    (at_weaker read _ m first starts _ c.poll_at.new.clients c.add_left.new.self.events.items c.args.journal.now.byes.items nothing c.args.k (c.args.k + 1) (omega arith)
    (at_left read _ m first starts _ _ c.poll_at.new.clients c.args.journal.now.events.items c.add_left.new.self.events.items c.args.journal.now.byes.items c.args.k c.args.k
    (at_same read _ m first starts _ c.args.clients.now c.poll_at.new.clients c.args.journal.now.events.items c.args.journal.now.byes.items nothing nothing c.args.k was
    (λ asked made all. polled_none m asked made starts c.poll_at.new.clients c.args.k (c.in-None.ensures.keeps starts asked made (c.ready_at.ensures.keeps starts asked made (asked_none m asked made starts c.args.clients.now all)))))
    (search rules) (rw c.reserve.ensures.same at c.add_left.ensures.added) refl))

pub returns-else-is_some-clause-keeps : goal.returns-else-is_some-clause-keeps
returns-else-is_some-clause-keeps g c = λ read reader first starts was.
    let m = g.L.Link.meaning in
    rw (c.reserve.ensures.same, c.reserve.ensures.byes)
    (at_weaker read _ m first starts _ c.poll_at.new.clients c.args.journal.now.events.items c.args.journal.now.byes.items nothing c.args.k (c.args.k + 1) (omega arith)
    (at_same read _ m first starts _ c.args.clients.now c.poll_at.new.clients c.args.journal.now.events.items c.args.journal.now.byes.items nothing nothing c.args.k was
    (λ asked made all. polled_none m asked made starts c.poll_at.new.clients c.args.k (c.in-None.ensures.keeps starts asked made (c.ready_at.ensures.keeps starts asked made (asked_none m asked made starts c.args.clients.now all))))))
