use Rattle.std.proofs.Common.{◌∙◌}
use Rattle.demo_run.proofs.Rows.{row_more}
use Rattle.demo_run.proofs.chain.chain_stimulus.Goals as goal

pub loop-row-preserved : goal.loop-row-preserved
loop-row-preserved c = c.in_ok-push_row.ensures ∙ row_more c.loop-row.row c.loop-row.text.items c.loop-row.invariant
