use Rattle.std.proofs.Common.{◌≡◌, map, option_map, ◌∙◌, ap, inl}
use Rattle.std.proofs.lemmas.Result.{IfOk-weaker}
use Rattle.dbg_core.specs.World.{world_of}
use Rattle.dbg_core.specs.State.{machine_of}
use Rattle.dbg_core.specs.Answering.{followed}
use Rattle.dbg_core.proofs.Batches.{batch_is, is_left, on_each}
use Rattle.dbg_core.proofs.session.Session.answer.Goals as goal

pub returns-in-Ok-clause-ran : goal.returns-in-Ok-clause-ran
returns-in-Ok-clause-ran g c =
    let now = machine_of c.request.new.self (map (option_map (λ b. (goal.Listener-dyn g (b.vtable, b.value)).heard b.value)) c.request.new.listeners.boxes.items) in
    let old = machine_of c.args.self.now (map (option_map (λ b. (goal.Listener-dyn g (b.vtable, b.value)).heard b.value)) c.args.listeners.now.boxes.items) in
    let w = world_of c.args.self.now.table (g.T.Trace.samples c.args.self.now.trace) in
    IfOk-weaker c.follow.result _ _
    (λ answered ran. λ read reader.
    ran ∙ (λ j. followed (world_of (c.in-Ok.ensures.table j) (c.in-Ok.ensures.samples j)) c.in-Ok.reply now)
    ∙ batch_is read w old c.args.asked.now (record { after = now; reply = c.in-Ok.reply }) (c.in-Ok.ensures.answer read reader)) c.follow.ensures.ran

pub returns-in-Ok-clause-left : goal.returns-in-Ok-clause-left
returns-in-Ok-clause-left g c =
    let now = machine_of c.request.new.self (map (option_map (λ b. (goal.Listener-dyn g (b.vtable, b.value)).heard b.value)) c.request.new.listeners.boxes.items) in
    let old = machine_of c.args.self.now (map (option_map (λ b. (goal.Listener-dyn g (b.vtable, b.value)).heard b.value)) c.args.listeners.now.boxes.items) in
    let w = world_of c.args.self.now.table (g.T.Trace.samples c.args.self.now.trace) in
    on_each c.follow.result _
    (λ read reader. is_left read w old c.args.asked.now (record { after = now; reply = c.in-Ok.reply }) _ (c.in-Ok.ensures.answer read reader)
    (c.follow.ensures.after ∙ (λ j. (followed (world_of (c.in-Ok.ensures.table j) (c.in-Ok.ensures.samples j)) c.in-Ok.reply now).after)))

pub returns-in-Err-clause-left : goal.returns-in-Err-clause-left
returns-in-Err-clause-left g c = λ read reader. inl c.in-Err.ensures.memory
