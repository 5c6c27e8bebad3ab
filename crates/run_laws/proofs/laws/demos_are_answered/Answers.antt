use Rattle.run_laws.proofs.Cells.{counts_cells}
use Rattle.run_laws.proofs.laws.demos_are_answered.Goals as goal

pub returns-clause-count : goal.returns-clause-count
returns-clause-count c = counts_cells

pub returns-clause-status : goal.returns-clause-status
returns-clause-status c = λ words given e heard files requests holds. c.requests_decide.ensures.status heard files given requests (counts_cells words given e) holds

pub returns-clause-ends : goal.returns-clause-ends
returns-clause-ends c = λ words given e heard files status old new ends. c.requests_decide.ensures.ends heard files given status old new (counts_cells words given e) ends
