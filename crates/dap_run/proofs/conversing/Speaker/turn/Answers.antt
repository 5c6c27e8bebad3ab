use Rattle.std.proofs.Common.{◌≡◌, ◌∙◌, sym, ap, subst, Ok}
use Rattle.dap_link.specs.State.{world_in}
use Rattle.dap_link.specs.Conversing.{conversation_of}
use Rattle.dap_link.specs.Frames.{IsMessage}
use Rattle.dap_link.specs.Framing.{IsNext}
use Rattle.dap_link.specs.declared.framer.Framed.TheVariants.{Message, Fault}
use Rattle.dap_run.specs.Talks.{HasFault}
use Rattle.dap_run.proofs.Taking.{consumes_same, first_of}
use Rattle.dap_run.proofs.Writing.{finished, fault_over}
use Rattle.dap_run.proofs.conversing.Speaker.turn.Goals as goal

pub returns-in-Ok-Message-clause-turns : goal.returns-in-Ok-Message-clause-turns
returns-in-Ok-Message-clause-turns g c = λ read reader first left0 old st.
    let m = (first_of c.args.self.now.framer c.next.new.self c.args.self.now.ended (Message c.in-Ok-Message.body) c.requires.sound
    (subst (λ f. IsNext c.args.self.now.framer c.args.self.now.ended f c.next.new.self) c.in-Ok-Message.field-0-is c.in-Ok-Message.ensures.ok)).1 in
    c.take.ensures.turns read reader first left0 (g.I.Source.left c.args.input.now) old c.args.self.now.framer.held st
    (subst (λ l. IsMessage c.args.self.now.framer.held l c.next.new.self.held) (sym c.deref.ensures.value) m)

pub returns-in-Ok-Fault-clause-turns : goal.returns-in-Ok-Fault-clause-turns
returns-in-Ok-Fault-clause-turns g c = λ read reader first left0 old st.
    let f = (first_of c.args.self.now.framer c.next.new.self c.args.self.now.ended (Fault c.in-Ok-Fault.fault) c.requires.sound
    (subst (λ f. IsNext c.args.self.now.framer c.args.self.now.ended f c.next.new.self) c.in-Ok-Fault.field-0-is c.in-Ok-Fault.ensures.ok)).1 in
    finished read (world_in c.args.self.now.adapter.session) c.args.self.now.adapter.names first left0 (g.I.Source.left c.args.input.now) (conversation_of c.args.self.now.adapter) c.args.self.now.framer.held c.args.self.now.ended
    old (g.S.Sink.taken c.args.out.now) st (g.I.Source.left c.args.input.now) (consumes_same (g.I.Source.left c.args.input.now)) (HasFault c.in-Ok-Fault.fault) (c.args.self.now.ended, f)
    (fault_over read (world_in c.args.self.now.adapter.session) c.args.self.now.adapter.names first st.bodies c.args.self.now.framer.held c.args.self.now.ended c.in-Ok-Fault.fault f)
