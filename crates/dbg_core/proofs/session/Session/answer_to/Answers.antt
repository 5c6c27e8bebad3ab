use Rattle.std.proofs.Common.{map, option_map, sym, ap, ◌∙◌}
use Rattle.std.proofs.lemmas.Result.{IfOk-weaker}
use Rattle.machine_core.specs.Machine.{asked_outcome, answer_by}
use Rattle.dbg_core.specs.World.{world_of}
use Rattle.dbg_core.specs.State.{counted_as}
use Rattle.dbg_core.specs.Alone.{to_drop, without}
use Rattle.dbg_core.specs.Answering.{answered}
use Rattle.dbg_core.proofs.session.Session.answer_to.Goals as goal

pub returns-in-Good-clause-answer : goal.returns-in-Good-clause-answer
returns-in-Good-clause-answer g c =
    let heard = map (option_map (λ b. (goal.Listener-dyn g (b.vtable, b.value)).heard b.value)) c.args.listeners.now.boxes.items in
    IfOk-weaker c.obey.result _ _
    (λ body h. λ read ordinal id reader.
    let m = counted_as c.args.self.now ordinal heard in
    ap (λ asked. answered (counted_as c.obey.new.self ordinal (without (to_drop asked) heard)) id body) c.in-Good.is
    ∙ h read ordinal id reader ∙ ap (λ asked. answer_by m id (asked_outcome read (world_of c.args.self.now.table (g.T.Trace.samples c.args.self.now.trace)) m asked)) (sym c.in-Good.is))
    c.obey.ensures.answer
