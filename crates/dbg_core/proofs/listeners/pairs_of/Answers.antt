use Rattle.dbg_core.proofs.Told.{copied_more}
use Rattle.dbg_core.proofs.listeners.pairs_of.Goals as goal

pub loop-i-preserved : goal.loop-i-preserved
loop-i-preserved g c = copied_more _ _ _ c.loop-i.i _ c.pair_at-pair.ensures c.loop-i.invariant c.in_ok-push.ensures.items
