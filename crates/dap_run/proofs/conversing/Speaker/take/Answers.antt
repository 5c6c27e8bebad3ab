use Rattle.std.proofs.Common.{rules, ◌≡◌, true, false}
use Rattle.dap_link.specs.State.{world_in}
use Rattle.dap_link.specs.Conversing.{conversation_of}
use Rattle.dap_run.proofs.Writing.{stands_on, bye, broken}
use Rattle.dap_run.proofs.conversing.Speaker.take.Goals as goal

pub returns-in-Ok-true-clause-turns : goal.returns-in-Ok-true-clause-turns
returns-in-Ok-true-clause-turns g c = λ read reader first left0 left old before st m.
    bye read (world_in c.args.self.now.adapter.session) c.args.self.now.adapter.names first left0 left (conversation_of c.args.self.now.adapter) before c.args.self.now.ended old (g.S.Sink.taken c.args.out.now) st
    c.args.body.now c.args.self.now.framer.held m _ _ _ (c.in-Ok-true.ensures.ok read reader) (let last : c.in-Ok-true.field-0 ≡ true = search rules in last)

pub returns-in-Ok-false-clause-turns : goal.returns-in-Ok-false-clause-turns
returns-in-Ok-false-clause-turns g c = λ read reader first left0 left old before st m.
    rw (c.answer.ensures.framer, c.answer.ensures.ended)
    (stands_on read (world_in c.args.self.now.adapter.session) c.args.self.now.adapter.names first left0 left (conversation_of c.args.self.now.adapter) before c.args.self.now.ended old (g.S.Sink.taken c.args.out.now) st
    c.args.body.now c.args.self.now.framer.held m _ _ _ (c.in-Ok-false.ensures.ok read reader) (let on : c.in-Ok-false.field-0 ≡ false = search rules in on))

pub returns-in-Err-Failed-clause-turns : goal.returns-in-Err-Failed-clause-turns
returns-in-Err-Failed-clause-turns g c = λ read reader first left0 left old before st m.
    broken read (world_in c.args.self.now.adapter.session) c.args.self.now.adapter.names first left0 left (conversation_of c.args.self.now.adapter) before c.args.self.now.ended old (g.S.Sink.taken c.args.out.now) st
    c.args.body.now c.args.self.now.framer.held (g.S.Sink.taken c.answer.new.out) m (c.in-Err-Failed.ensures.front read reader)

pub returns-in-Err-NoMemory-clause-turns : goal.returns-in-Err-NoMemory-clause-turns
returns-in-Err-NoMemory-clause-turns g c = λ read reader first left0 left old before st m.
    broken read (world_in c.args.self.now.adapter.session) c.args.self.now.adapter.names first left0 left (conversation_of c.args.self.now.adapter) before c.args.self.now.ended old (g.S.Sink.taken c.args.out.now) st
    c.args.body.now c.args.self.now.framer.held (g.S.Sink.taken c.answer.new.out) m (c.in-Err-NoMemory.ensures.front read reader)
