use Rattle.std.proofs.Common.{map, option_map, ◌∙◌, ap}
use Rattle.dbg_core.specs.State.{machine_of}
use Rattle.dbg_core.specs.Alone.{without}
use Rattle.hub_core.specs.States.{hub_state}
use Rattle.hub_core.proofs.Asking.{asked_on, at_machine, answer_is, answer_to, on_err}
use Rattle.hub_core.proofs.hub.HubOf+Session+T.apply.Goals as goal

pub returns-in_err-reply-clause-err : goal.returns-in_err-reply-clause-err
returns-in_err-reply-clause-err g c = on_err c.from_residual-in_err-reply.result _ (at_machine _ _ c.args.self.now.here.items (c.in_err-reply.ensures.memory _))

pub returns-clause-ok : goal.returns-clause-ok
returns-clause-ok g c = λ read reader.
    asked_on read _ (hub_state c.args.self.now.session c.args.self.now.here.items (map (option_map (λ b. (goal.Listener-dyn g (b.vtable, b.value)).heard b.value)) c.args.self.now.listeners.boxes.items)) c.args.client c.args.text.now
    (answer_to (machine_of c.request_alone.new.self (map (option_map (λ b. (goal.Listener-dyn g (b.vtable, b.value)).heard b.value)) c.leave_out.new.all.items)) c.in_ok-reply.reply)
    (answer_is read _ (machine_of c.args.self.now.session (map (option_map (λ b. (goal.Listener-dyn g (b.vtable, b.value)).heard b.value)) c.args.self.now.listeners.boxes.items)) c.args.text.now c.in_ok-asked.asked
    (answer_to (machine_of c.request_alone.new.self (map (option_map (λ b. (goal.Listener-dyn g (b.vtable, b.value)).heard b.value)) c.leave_out.new.all.items)) c.in_ok-reply.reply) _ c.in_ok-asked.ensures.asked
    (ap (λ heard. answer_to (machine_of c.request_alone.new.self heard) c.in_ok-reply.reply) (c.leave_out.ensures.heard ∙ ap (λ k. without k (map (option_map (λ b. (goal.Listener-dyn g (b.vtable, b.value)).heard b.value)) c.args.self.now.listeners.boxes.items)) c.to_drop.ensures))
    (c.in_ok-reply.ensures.answer read reader))
    c.is_bye.result c.leave_if.new.here.items c.is_bye.ensures c.leave_if.ensures.here
