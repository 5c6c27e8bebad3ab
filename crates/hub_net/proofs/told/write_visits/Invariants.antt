use Rattle.std.proofs.Common.{◌≡◌, ◌≤◌, take}
use Rattle.io_edge.specs.Taken.{Appends}
use Rattle.serve_net.specs.Visits.{lines_from}
use Rattle.hub_net.specs.Clients.{client}
use Rattle.hub_net.proofs.told.write_visits.Given as goal

abbrev pub invariant-loop-visit : goal.invariant-loop-visit
invariant-loop-visit g l = record {
  taken : Appends (g.S.Sink.taken l.initial.out) (g.S.Sink.taken l.out) (lines_from client 0 (take l.visit-index l.visits));
  number : l.number ≡ l.visit-index;
  later : g.S.Sink.fault_count l.initial.out ≤ g.S.Sink.fault_count l.out;
}
