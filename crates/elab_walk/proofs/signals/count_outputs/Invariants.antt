use Rattle.std.proofs.Common.{map, drop}
use Rattle.gen_tree.specs.View.{port_of}
use Rattle.elab_core.specs.Walk.{judge}
use Rattle.elab_core.specs.Elab.{count_outputs}
use Rattle.elab_base.specs.Met.{met_of}
use Rattle.elab_body.proofs.Kept.{Kept}
use Rattle.elab_walk.proofs.signals.count_outputs.Given as goal

abbrev pub invariant-loop-port : goal.invariant-loop-port
invariant-loop-port l =
    Kept (judge (met_of l.met) (count_outputs l.line (map port_of (drop l.port-index l.ports)))) (judge (met_of l.initial.met) (count_outputs l.line (map port_of l.ports)))
    l.met.instances l.initial.met.instances
