use Rattle.std.proofs.Common.{◌<◌, length, subst, ap, ◌∙◌}
use Rattle.slot_sched.specs.Armed.{breakpoints}
use Rattle.dbg_core.proofs.Told.{armed_more, all_armed}
use Rattle.dbg_core.proofs.arming.numbers_of.Goals.{in-Some+in_ok-push, in_default}
use Rattle.dbg_core.proofs.arming.numbers_of.Goals as goal

pub loop-i-preserved : goal.loop-i-preserved
loop-i-preserved c =
    let within : c.loop-i.i < length (breakpoints c.args.schedule.now) = subst (λ n. c.loop-i.i < n) c.len-i-end.ensures c.loop-i-test.true in
    elim c.match-armed.branch [
      | in-Some+in_ok-push w ↦
          ap (λ v. v.items) w.numbers-is ∙ w.in_ok-push.ensures.items
          ∙ armed_more (breakpoints c.args.schedule.now) c.loop-i.i w.in-Some.number c.loop-i.numbers.items w.in-Some.ensures c.loop-i.invariant
      | in_default w ↦ absurd (all_armed (breakpoints c.args.schedule.now) c.loop-i.i c.armed.result within c.armed.ensures w.in_default.not-Some)
    ]
