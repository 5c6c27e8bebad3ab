use Rattle.std.proofs.Common.{arith}
use Rattle.vcd_read.proofs.Rows.{start_after}
use Rattle.vcd_read.proofs.changes.start_of.Goals as goal

pub returns : goal.returns
returns c = start_after c.args.rows.now c.args.i c.row_at-before.result (omega arith) c.row_at-before.ensures
