use Rattle.std.proofs.Common.{sym, ◌∙◌, true≢false}
use Rattle.io_edge.proofs.memory_source.MemSourceSource.more.Goals as goal

pub returns-in_err-piece-clause-fault : goal.returns-in_err-piece-clause-fault
returns-in_err-piece-clause-fault c = λ e. absurd (true≢false (sym e ∙ sym c.next_fails.ensures ∙ c.if-next_fails.false))

pub returns-clause-fault : goal.returns-clause-fault
returns-clause-fault c = λ e. absurd (true≢false (sym e ∙ sym c.next_fails.ensures ∙ c.if-next_fails.false))
