use Rattle.std.proofs.Common.{◌<◌, ◌≤◌, length, arith, ◌∙◌}
use Rattle.hub_core.proofs.Crowding.{lost_none, lost_more, lost_all, usable_at, usable_set}
use Rattle.hub_core.proofs.crowd.lose_all.Goals as goal

pub loop-client-init : goal.loop-client-init
loop-client-init g c = record { keeps = λ starts asked made more was. lost_none g.L.Link.meaning asked made more starts c.args.clients.now was; usable = c.requires.usable }

pub loop-client-preserved : goal.loop-client-preserved
loop-client-preserved g c =
    let within : c.loop-client.client-index < length c.loop-client.clients = omega arith in
    let at = usable_at g.L.Link.meaning c.loop-client.clients c.loop-client.client-index c.client-item.result within c.loop-client.invariant.usable in
    record {
      keeps = λ starts asked made more was.
          lost_more g.L.Link.meaning asked made more starts c.loop-client.clients c.loop-client.client-index c.client-item.result c.lose.new.self within (c.loop-client.invariant.keeps starts asked made more was) c.lose.ensures.keeps;
      usable = usable_set g.L.Link.meaning c.loop-client.clients c.loop-client.client-index c.lose.new.self within c.loop-client.invariant.usable (c.lose.ensures.place at.0) (c.lose.ensures.shut ∙ at.1);
    }

pub returns-clause-keeps : goal.returns-clause-keeps
returns-clause-keeps g c = λ starts asked made more was.
    let past : length c.loop-client.clients ≤ c.loop-client.client-index = omega arith in
    lost_all g.L.Link.meaning asked made more starts c.loop-client.clients c.loop-client.client-index past (c.loop-client.invariant.keeps starts asked made more was)
