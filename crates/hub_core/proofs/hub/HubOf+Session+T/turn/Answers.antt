use Rattle.std.proofs.Common.{map, option_map, ◌∙◌, ap, ap₂}
use Rattle.dbg_core.specs.World.{world_of}
use Rattle.dbg_core.specs.State.{machine_of}
use Rattle.machine_core.specs.Journal.{told_lines}
use Rattle.req_json.specs.Texts.{texts_of}
use Rattle.hub_core.specs.Hubs.{to_each}
use Rattle.hub_core.specs.States.{hub_state}
use Rattle.hub_core.proofs.Asking.{turn_to, told_turn, after_turn}
use Rattle.hub_core.proofs.hub.HubOf+Session+T.turn.Goals as goal

pub returns-in_default-clause-state : goal.returns-in_default-clause-state
returns-in_default-clause-state g c =
    after_turn (world_of c.args.self.now.session.table (g.T.Trace.samples c.args.self.now.session.trace)) (hub_state c.args.self.now.session c.args.self.now.here.items (map (option_map (λ b. (goal.Listener-dyn g (b.vtable, b.value)).heard b.value)) c.args.self.now.listeners.boxes.items))
    (machine_of c.turn_alone-turned.new.self (map (option_map (λ b. (goal.Listener-dyn g (b.vtable, b.value)).heard b.value)) c.tell_turn.new.all.items)) (machine_of c.notice.new.self (map (option_map (λ b. (goal.Listener-dyn g (b.vtable, b.value)).heard b.value)) c.tell_turn.new.all.items)) c.turn_alone-turned.result (c.notice.ensures.state (map (option_map (λ b. (goal.Listener-dyn g (b.vtable, b.value)).heard b.value)) c.tell_turn.new.all.items))
    (ap (λ heard. turn_to (machine_of c.turn_alone-turned.new.self heard) c.turn_alone-turned.result) c.tell_turn.ensures.heard ∙ c.turn_alone-turned.ensures.turn (map (option_map (λ b. (goal.Listener-dyn g (b.vtable, b.value)).heard b.value)) c.args.self.now.listeners.boxes.items))

pub returns-in-Ok-tell_all-clause-state : goal.returns-in-Ok-tell_all-clause-state
returns-in-Ok-tell_all-clause-state g c =
    after_turn (world_of c.args.self.now.session.table (g.T.Trace.samples c.args.self.now.session.trace)) (hub_state c.args.self.now.session c.args.self.now.here.items (map (option_map (λ b. (goal.Listener-dyn g (b.vtable, b.value)).heard b.value)) c.args.self.now.listeners.boxes.items))
    (machine_of c.turn_alone-turned.new.self (map (option_map (λ b. (goal.Listener-dyn g (b.vtable, b.value)).heard b.value)) c.tell_turn.new.all.items)) (machine_of c.notice.new.self (map (option_map (λ b. (goal.Listener-dyn g (b.vtable, b.value)).heard b.value)) c.tell_turn.new.all.items)) c.turn_alone-turned.result (c.notice.ensures.state (map (option_map (λ b. (goal.Listener-dyn g (b.vtable, b.value)).heard b.value)) c.tell_turn.new.all.items))
    (ap (λ heard. turn_to (machine_of c.turn_alone-turned.new.self heard) c.turn_alone-turned.result) c.tell_turn.ensures.heard ∙ c.turn_alone-turned.ensures.turn (map (option_map (λ b. (goal.Listener-dyn g (b.vtable, b.value)).heard b.value)) c.args.self.now.listeners.boxes.items))

pub returns-in-Ok-tell_all-clause-lines : goal.returns-in-Ok-tell_all-clause-lines
returns-in-Ok-tell_all-clause-lines g c =
    c.in-Ok-tell_all.ensures ∙ ap (λ here. to_each 0 here (texts_of (told_lines c.in-Ok.notice))) c.deref.ensures.value
    ∙ ap (λ ls. to_each 0 c.args.self.now.here.items (texts_of ls))
    (told_turn (world_of c.args.self.now.session.table (g.T.Trace.samples c.args.self.now.session.trace)) (world_of c.turn_alone-turned.new.self.table (g.T.Trace.samples c.turn_alone-turned.new.self.trace))
    (machine_of c.args.self.now.session (map (option_map (λ b. (goal.Listener-dyn g (b.vtable, b.value)).heard b.value)) c.args.self.now.listeners.boxes.items)) (machine_of c.turn_alone-turned.new.self (map (option_map (λ b. (goal.Listener-dyn g (b.vtable, b.value)).heard b.value)) c.tell_turn.new.all.items)) c.turn_alone-turned.result (told_lines c.in-Ok.notice)
    (ap₂ (λ t s. world_of t s) c.turn_alone-turned.ensures.table c.turn_alone-turned.ensures.samples)
    (ap (λ heard. turn_to (machine_of c.turn_alone-turned.new.self heard) c.turn_alone-turned.result) c.tell_turn.ensures.heard ∙ c.turn_alone-turned.ensures.turn (map (option_map (λ b. (goal.Listener-dyn g (b.vtable, b.value)).heard b.value)) c.args.self.now.listeners.boxes.items))
    (c.in-Ok.ensures.lines (map (option_map (λ b. (goal.Listener-dyn g (b.vtable, b.value)).heard b.value)) c.tell_turn.new.all.items)))

pub returns-in-Err-clause-state : goal.returns-in-Err-clause-state
returns-in-Err-clause-state g c =
    after_turn (world_of c.args.self.now.session.table (g.T.Trace.samples c.args.self.now.session.trace)) (hub_state c.args.self.now.session c.args.self.now.here.items (map (option_map (λ b. (goal.Listener-dyn g (b.vtable, b.value)).heard b.value)) c.args.self.now.listeners.boxes.items))
    (machine_of c.turn_alone-turned.new.self (map (option_map (λ b. (goal.Listener-dyn g (b.vtable, b.value)).heard b.value)) c.tell_turn.new.all.items)) (machine_of c.notice.new.self (map (option_map (λ b. (goal.Listener-dyn g (b.vtable, b.value)).heard b.value)) c.tell_turn.new.all.items)) c.turn_alone-turned.result (c.notice.ensures.state (map (option_map (λ b. (goal.Listener-dyn g (b.vtable, b.value)).heard b.value)) c.tell_turn.new.all.items))
    (ap (λ heard. turn_to (machine_of c.turn_alone-turned.new.self heard) c.turn_alone-turned.result) c.tell_turn.ensures.heard ∙ c.turn_alone-turned.ensures.turn (map (option_map (λ b. (goal.Listener-dyn g (b.vtable, b.value)).heard b.value)) c.args.self.now.listeners.boxes.items))
