use Rattle.std.proofs.Common.{◌≤◌, ◌∙◌, List, length, map, take, sym, subst, arith}
use Rattle.std.proofs.lemmas.List.{take_all}
use Rattle.design_core.specs.declared.variant.Conn as code_conn
use Rattle.design_core.specs.Design as design
use Rattle.design_core.specs.View.{conn_of}
use Rattle.names.specs.Maps.{value_of}
use Rattle.dep_order.specs.Wiring.{DrivesConns}
use Rattle.dep_order.proofs.Rows.{conns_next, more_conns}
use Rattle.dep_order.proofs.Layers.{layered_both}
use Rattle.dep_order.proofs.wiring.drive_conns.Goals as goal

pub loop-conn-preserved : goal.loop-conn-preserved
loop-conn-preserved c =
    let i = c.loop-conn.conn-index in
    record {
      graph = c.in_ok-drive_conn.ensures.graph;
      count = c.drive_conn.ensures.count ∙ c.loop-conn.invariant.count;
      layers = layered_both c.args.graph.now c.loop-conn.graph c.drive_conn.new.graph (value_of c.args.child.now) (omega (arith, c.loop-conn.invariant.count)) c.loop-conn.invariant.layers c.in_ok-drive_conn.ensures.layers;
      drives =
          subst (λ (cs : List design.Conn). DrivesConns c.args.graph.now c.args.driven.now c.drive_conn.new.graph c.drive_conn.new.driven (value_of c.args.child.now) (value_of c.args.parent.now) cs)
          (sym (more_conns c.args.conns.now i c.conn-item.result c.loop-conn-test.true c.conn-item.is))
          (conns_next c.args.graph.now c.loop-conn.graph c.drive_conn.new.graph c.args.driven.now c.loop-conn.driven c.drive_conn.new.driven (value_of c.args.child.now) (value_of c.args.parent.now) (map conn_of (take i c.args.conns.now)) (conn_of c.conn-item.result)
          c.loop-conn.invariant.drives c.in_ok-drive_conn.ensures.drives);
    }

pub returns-clause-drives : goal.returns-clause-drives
returns-clause-drives c =
    let past : length c.args.conns.now ≤ c.loop-conn.conn-index = omega arith in
    subst (λ (cs : List code_conn.Conn). DrivesConns c.args.graph.now c.args.driven.now c.loop-conn.graph c.loop-conn.driven (value_of c.args.child.now) (value_of c.args.parent.now) (map conn_of cs))
    (take_all c.loop-conn.conn-index c.args.conns.now past) c.loop-conn.invariant.drives
