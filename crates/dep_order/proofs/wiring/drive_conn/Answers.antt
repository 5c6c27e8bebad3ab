use Rattle.std.proofs.Common.{◌≡◌, ◌∙◌, Some, None, sym, ap}
use Rattle.std.proofs.lemmas.Result.{on_ok_weaker}
use Rattle.design_core.specs.View.{conn_of}
use Rattle.names.specs.Maps.{value_of}
use Rattle.dep_order.proofs.Layers.{layered_set}
use Rattle.dep_order.proofs.Rows.{conn_drives, conn_passed}
use Rattle.dep_order.proofs.wiring.drive_conn.Goals as goal

pub returns-in-Some-clause-drives : goal.returns-in-Some-clause-drives
returns-in-Some-clause-drives c =
    let is : value_of c.args.child.now c.args.conn.now.port ≡ Some c.in-Some.vertex = ap (value_of c.args.child.now) (sym c.bytes.ensures) ∙ sym c.get.ensures ∙ c.in-Some.is in
    on_ok_weaker c.drive_by.result
    (λ d. conn_drives c.args.graph.now c.drive_by.new.graph c.args.driven.now c.drive_by.new.driven (value_of c.args.child.now) (value_of c.args.parent.now) (conn_of c.args.conn.now) c.in-Some.vertex is d) c.drive_by.ensures.drives

pub returns-in-None-clause-drives : goal.returns-in-None-clause-drives
returns-in-None-clause-drives c =
    let is : value_of c.args.child.now c.args.conn.now.port ≡ None = ap (value_of c.args.child.now) (sym c.bytes.ensures) ∙ sym c.get.ensures ∙ c.in-None.is in
    conn_passed c.args.graph.now c.args.driven.now (value_of c.args.child.now) (value_of c.args.parent.now) (conn_of c.args.conn.now) is

pub returns-in-Some-clause-layers : goal.returns-in-Some-clause-layers
returns-in-Some-clause-layers c =
    let is : value_of c.args.child.now c.args.conn.now.port ≡ Some c.in-Some.vertex = ap (value_of c.args.child.now) (sym c.bytes.ensures) ∙ sym c.get.ensures ∙ c.in-Some.is in
    on_ok_weaker c.drive_by.result (λ same. layered_set c.args.graph.now c.drive_by.new.graph (value_of c.args.child.now) c.args.conn.now.port c.in-Some.vertex is same) c.drive_by.ensures.others
