use Rattle.std.proofs.Common.{[], map, drop}
use Rattle.gen_tree.specs.View as source
use Rattle.design_core.specs.View.{conn_of}
use Rattle.elab_core.specs.Walk.{judge}
use Rattle.elab_core.specs.Elab.{conns}
use Rattle.elab_base.specs.Met.{met_of}
use Rattle.elab_body.proofs.Kept.{Kept}
use Rattle.elab_walk.proofs.signals.connections.Given as goal

abbrev pub invariant-loop-conn : goal.invariant-loop-conn
invariant-loop-conn l =
    Kept (judge (met_of l.met) (conns (map source.conn_of (drop l.conn-index l.conns)) l.scope (map conn_of l.made.items))) (judge (met_of l.initial.met) (conns (map source.conn_of l.conns) l.scope []))
    l.met.instances l.initial.met.instances
