use Rattle.std.proofs.Common.{◌+◌, sym, subst, eq-eqb}
use Rattle.net_trim.proofs.Fronts.{SoFar, more}
use Rattle.net_trim.proofs.slots.slot_rows.Goals as goal

pub loop-row-preserved : goal.loop-row-preserved
loop-row-preserved c =
    subst (SoFar c.args.net.now.nodes c.args.ids.now c.args.slot c.args.rows.now (c.loop-row.row-index + 1)) (sym c.in_ok-push.ensures.items)
    (more c.args.net.now.nodes c.args.ids.now c.args.slot c.args.rows.now c.loop-row.row-index c.loop-row.made.items c.row-item.result c.in_ok-row_of.field-0 c.loop-row.invariant c.loop-row-test.true c.row-item.is (eq-eqb c.row-item.result.slot c.args.slot c.if-row-slot.false) c.in_ok-row_of.ensures)
