use Rattle.std.proofs.Common.{take, rules}
use Rattle.slot_sched.proofs.Spanning.{spanned_kept, spanned_more}
use Rattle.slot_sched.proofs.spans.refill.Goals as goal

pub loop-armed-preserved : goal.loop-armed-preserved
loop-armed-preserved c = (
  search rules,
  search rules,
  spanned_more c.widen.new.spans.items 0 c.args.armed.now c.loop-armed.armed-index c.armed-item.result (search rules) c.armed-item.is
      (spanned_kept _ _ c.widen.ensures.keeps 0 (take c.loop-armed.armed-index c.args.armed.now) c.loop-armed.invariant.2) (search rules),
  λ gaps. c.widen.ensures.gaps (c.loop-armed.invariant.3 gaps),
)
