use Rattle.std.proofs.Common.{length, ap, ap₂, ◌∙◌}
use Rattle.machine_core.specs.Arming.{breakpoint_on}
use Rattle.machine_core.specs.Reading.{IsReader}
use Rattle.slot_sched.specs.Armed.{breakpoints, next_number}
use Rattle.dbg_core.specs.World.{world_of}
use Rattle.dbg_core.specs.State.{counted_as}
use Rattle.dbg_core.specs.Answering.{answered, broken}
use Rattle.dbg_core.proofs.Own.{own_kept}
use Rattle.dbg_core.proofs.Standing.{break_answered, armed_with, ok_for_samples}
use Rattle.dbg_core.proofs.session.Session.break_on.Goals as goal

pub invariant_of-self-clause-own : goal.invariant_of-self-clause-own
invariant_of-self-clause-own g c = own_kept c.args.self.now.table c.args.self.now.schedule c.break_asked.new.schedule c.break_asked.ensures.own c.args.self.now.own

pub returns-clause-answer : goal.returns-clause-answer
returns-clause-answer g c =
    let s = g.T.Trace.samples c.args.self.now.trace in
    let w = world_of c.args.self.now.table s in
    let old = breakpoints c.args.self.now.schedule in
    let next = next_number c.args.self.now.schedule in
    ok_for_samples c.break_asked.result IsReader _ _
    (λ body h. λ read ordinal heard id reader.
    ap (λ left. answered (armed_with (counted_as c.args.self.now ordinal heard) left) id left.2)
    (h read s reader ∙ ap₂ (λ path text. broken (breakpoint_on read w (length old) next c.args.line path text) old next) c.text_in.ensures c.bytes_in.ensures)
    ∙ break_answered (counted_as c.args.self.now ordinal heard) id _)
    c.break_asked.ensures.body
