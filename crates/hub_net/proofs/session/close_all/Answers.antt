use Rattle.std.proofs.Common.{◌<◌, length, arith}
use Rattle.link_edge.specs.Links.{after_close}
use Rattle.dbg_core.proofs.Told.{told_more}
use Rattle.hub_net.proofs.session.close_all.Goals as goal

pub loop-link-preserved : goal.loop-link-preserved
loop-link-preserved g c =
    let within : c.loop-link.link-index < length c.loop-link.links = omega arith in
    told_more g.L.Link.meaning after_close _ _ _ _ _ c.loop-link.auto.links within c.link-item.is c.loop-link.invariant c.close.ensures
