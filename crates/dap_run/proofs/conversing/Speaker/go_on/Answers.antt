use Rattle.std.proofs.Common.{◌≡◌, Err, refl, ap}
use Rattle.dap_run.proofs.Taking.{consumes_none, consumes_same}
use Rattle.dap_run.proofs.Writing.{heard_on, finished, some_lost, awaited_over}
use Rattle.dap_run.specs.Talks.{Anything, IsWhole}
use Rattle.dap_run.proofs.conversing.Speaker.go_on.Goals as goal

pub returns-in-Ok-clause-turns : goal.returns-in-Ok-clause-turns
returns-in-Ok-clause-turns g c = λ read w names first now left0 old new st a.
    heard_on read w names first left0 (g.I.Source.left c.args.input.now) now c.args.self.now.framer.held c.args.self.now.ended old new st (g.I.Source.left c.hear.new.input)
    c.args.self.now.framer c.hear.new.self.framer c.hear.new.self.ended refl c.in-Ok.ensures.ok

pub returns-in-Err-Failed-clause-turns : goal.returns-in-Err-Failed-clause-turns
returns-in-Err-Failed-clause-turns g c = λ read w names first now left0 old new st a.
    finished read w names first left0 (g.I.Source.left c.args.input.now) now c.args.self.now.framer.held c.args.self.now.ended old new st (g.I.Source.left c.hear.new.input)
    (consumes_none (g.I.Source.left c.args.input.now) (g.I.Source.left c.hear.new.input) (c.in-Err-Failed.ensures.unread (ap (λ x. Err x) c.in-Err-Failed.field-0-is))) Anything tt
    (awaited_over read w names first st.bodies c.args.self.now.framer.held c.args.self.now.ended a)

pub returns-in-Err-NoMemory-clause-turns : goal.returns-in-Err-NoMemory-clause-turns
returns-in-Err-NoMemory-clause-turns g c = λ read w names first now left0 old new st a.
    some_lost read w names first left0 (g.I.Source.left c.args.input.now) now c.args.self.now.framer.held c.args.self.now.ended old new st (g.I.Source.left c.hear.new.input) c.in-Err-NoMemory.ensures.some
