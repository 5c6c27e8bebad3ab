use Rattle.std.proofs.Common.{[], map, drop}
use Rattle.gen_tree.specs.View.{port_of}
use Rattle.elab_core.specs.Walk.{judge}
use Rattle.elab_core.specs.Elab.{ports}
use Rattle.elab_base.specs.Met.{met_of}
use Rattle.elab_body.proofs.Kept.{Kept}
use Rattle.elab_walk.proofs.signals.ports.Given as goal

abbrev pub invariant-loop-port : goal.invariant-loop-port
invariant-loop-port l =
    Kept (judge (met_of l.met) (ports (map port_of (drop l.port-index l.ports)) l.scope l.signals.items)) (judge (met_of l.initial.met) (ports (map port_of l.ports) l.scope []))
    l.met.instances l.initial.met.instances
