use Rattle.std.proofs.Common.{take, rules}
use Rattle.slot_sched.proofs.Spanning.{covered_kept, covered_more}
use Rattle.slot_sched.proofs.spans.widen.Goals as goal

pub loop-trap-preserved : goal.loop-trap-preserved
loop-trap-preserved c = (
  search rules,
  λ k j e. c.widen_at.ensures.keeps k j (c.loop-trap.invariant.1 k j e),
  covered_more c.widen_at.new.spans.items c.args.place c.args.traps.now c.loop-trap.trap-index c.trap-item.result (search rules) c.trap-item.is
      (covered_kept _ _ c.widen_at.ensures.keeps c.args.place (take c.loop-trap.trap-index c.args.traps.now) c.loop-trap.invariant.2) c.widen_at.ensures.has,
  λ gaps. c.widen_at.ensures.gaps (c.loop-trap.invariant.3 gaps),
)
