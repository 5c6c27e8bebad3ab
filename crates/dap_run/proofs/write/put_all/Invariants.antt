use Rattle.std.proofs.Common.{◌≤◌, List, flat_map, take}
use Rattle.io_edge.specs.Taken.{Appends}
use Rattle.dap_run.proofs.write.put_all.Given as goal

abbrev pub invariant-loop-text : goal.invariant-loop-text
invariant-loop-text g l =
    Appends (g.S.Sink.taken l.fn.out) (g.S.Sink.taken l.out) (flat_map (λ t. t.items) (take l.text-index l.texts))
    × (g.S.Sink.fault_count l.fn.out ≤ g.S.Sink.fault_count l.out)
