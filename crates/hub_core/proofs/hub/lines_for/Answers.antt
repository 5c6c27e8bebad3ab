use Rattle.std.proofs.Common.{rules, get_or, false, arith}
use Rattle.hub_core.proofs.Telling.{told_more, told_all}
use Rattle.hub_core.proofs.hub.lines_for.Goals as goal

pub loop-k-preserved : goal.loop-k-preserved
loop-k-preserved c = told_more c.args.here.now c.loop-k.k c.args.text.now (get_or c.args.here.now c.loop-k.k false) c.loop-k.lines.items _ _ (omega arith) (search rules) (search rules) c.loop-k.invariant

pub returns : goal.returns
returns c = told_all c.args.here.now c.loop-k.k c.args.text.now c.loop-k.lines.items _ (omega arith) c.loop-k.invariant
