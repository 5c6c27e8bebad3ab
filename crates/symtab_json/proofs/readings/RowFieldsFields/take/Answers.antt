use Rattle.std.proofs.Common.{sym, ◌∙◌}
use Rattle.symtab_json.proofs.Objects.{row_on_taken, row_cells_taken}
use Rattle.symtab_json.proofs.readings.RowFieldsFields.take.Goals as goal

pub returns-in_ok-self-clause-more : goal.returns-in_ok-self-clause-more
returns-in_ok-self-clause-more c = λ known are. row_on_taken _ _ _ known _ _ (sym c.eq.ensures ∙ c.if-eq.true) are c.in_ok-self.ensures.told

pub returns-in_ok-self-2-clause-more : goal.returns-in_ok-self-2-clause-more
returns-in_ok-self-2-clause-more c = λ known are. row_cells_taken _ _ _ known _ _ (sym c.eq-else-eq.ensures ∙ c.if-eq-2.true) are c.in_ok-self-2.ensures.told
