use Rattle.std.proofs.Common.{sym}
use Rattle.dbg_app.proofs.shown.read_rows.Goals as goal

pub returns-in-Ok-clause-rows : goal.returns-in-Ok-clause-rows
returns-in-Ok-clause-rows g c = (c.in-Ok.field-0.rows, rw (sym c.deref.ensures.value) (rw c.in-Ok.is at c.in_ok-judge_rows.ensures.rows))
