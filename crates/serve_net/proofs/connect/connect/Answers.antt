use Rattle.std.proofs.Common.{map, subst}
use Rattle.world_core.specs.World.{World}
use Rattle.machine_core.specs.Machine.{opening}
use Rattle.duo_run.specs.Connections.{Applies}
use Rattle.serve_net.proofs.connect.connect.Goals as goal

pub returns : goal.returns
returns g c = record {
  member = λ over shows. record {
    start = g.L.Link.meaning c.args.link;
    fresh = c.requires.fresh;
    now = g.L.Link.meaning c.serve_connection-served.result.link;
    carried = c.serve_connection-served.ensures.carried;
    closed = c.close.ensures;
    applied = λ run runs read reader.
        subst (λ (w : World). Applies read w (opening (map (λ b. (goal.Listener-dyn g (b.vtable, b.value)).heard b.value) c.args.listeners.items)) c.serve_connection-served.result.journal.items c.serve_connection-served.result.sent.items c.serve_connection-served.result.unsent.items c.serve_connection-served.result.end)
        (c.in_ok-table.ensures.tells over shows run runs) (c.serve_connection-served.ensures.applied read reader);
  };
}
