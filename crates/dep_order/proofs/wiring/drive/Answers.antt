use Rattle.std.proofs.Common.{true, set, sym, subst}
use Rattle.graph_order.specs.Graphs.{Graph}
use Rattle.dep_order.specs.Wiring.{Drives}
use Rattle.dep_order.proofs.Wires.{drives_new, drives_none}
use Rattle.dep_order.proofs.wiring.drive.Goals as goal

pub returns-then-driven-vertex-clause-drives : goal.returns-then-driven-vertex-clause-drives
returns-then-driven-vertex-clause-drives c = drives_none c.args.graph.now c.args.driven.now c.args.vertex c.args.edges.now c.if-driven-vertex.true

pub returns-clause-drives : goal.returns-clause-drives
returns-clause-drives c =
    subst (λ (g : Graph). Drives c.args.graph.now c.args.driven.now g (set c.args.driven.now c.args.vertex true) c.args.vertex c.args.edges.now) (sym c.in_ok-set.ensures.changed)
    (drives_new c.args.graph.now c.args.driven.now c.args.vertex c.args.edges.now c.requires.graph c.requires.vertex c.requires.marked c.requires.edges c.if-driven-vertex.false)
