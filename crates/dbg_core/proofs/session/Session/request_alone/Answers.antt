use Rattle.std.proofs.Common.{◌≡◌, ◌+◌, ◌-◌, ◌^◌, min, map, option_map, ap, ap₂, ◌∙◌}
use Rattle.machine_core.specs.Machine.{asked_outcome, answer_by, answer_of}
use Rattle.dbg_core.specs.World.{world_of}
use Rattle.dbg_core.specs.State.{counted_as}
use Rattle.dbg_core.proofs.session.Session.request_alone.Goals as goal

pub returns-clause-answer : goal.returns-clause-answer
unfolding answer_of
returns-clause-answer g c = λ read reader.
    let heard = map (option_map (λ b. (goal.Listener-dyn g (b.vtable, b.value)).heard b.value)) c.args.listeners.now.boxes.items in
    let count : c.saturating_add-seq.result ≡ min (c.args.self.now.ordinal + 1) (2 ^ 64 - 1) = c.saturating_add-seq.ensures ∙ ap (λ n. min (n + 1) (2 ^ 64 - 1)) c.in_ok-body.ensures.ordinal in
    c.in_ok-body.ensures.answer read c.saturating_add-seq.result c.id_of.result reader
    ∙ ap₂ (λ n id. answer_by (counted_as c.args.self.now n heard) id (asked_outcome read (world_of c.args.self.now.table (g.T.Trace.samples c.args.self.now.trace)) (counted_as c.args.self.now n heard) c.args.asked.now)) count c.id_of.ensures
