use Rattle.std.proofs.Common.{◌<◌, length, arith, ◌∙◌}
use Rattle.hub_core.proofs.Crowding.{kept_at, usable_at, usable_set}
use Rattle.hub_core.proofs.crowd.ready_all.Goals as goal

pub loop-client-preserved : goal.loop-client-preserved
loop-client-preserved g c =
    let within : c.loop-client.client-index < length c.loop-client.clients = omega arith in
    let at = usable_at g.L.Link.meaning c.loop-client.clients c.loop-client.client-index c.client-item.result within c.loop-client.invariant.usable in
    record {
      keeps = λ starts asked made was.
          kept_at g.L.Link.meaning asked made starts c.loop-client.clients c.loop-client.client-index c.client-item.result c.ready.new.self within (c.loop-client.invariant.keeps starts asked made was) c.ready.ensures.keeps;
      usable = usable_set g.L.Link.meaning c.loop-client.clients c.loop-client.client-index c.ready.new.self within c.loop-client.invariant.usable (c.ready.ensures.place at.0) (c.ready.ensures.shut ∙ at.1);
    }
