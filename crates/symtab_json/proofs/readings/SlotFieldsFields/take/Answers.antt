use Rattle.std.proofs.Common.{sym, ◌∙◌}
use Rattle.symtab_json.proofs.Objects.{slot_variant_taken, slot_line_taken, slot_gens_taken, slot_names_taken, slot_rows_taken, slot_file_taken}
use Rattle.symtab_json.proofs.readings.SlotFieldsFields.take.Goals as goal

pub returns-in_ok-self-clause-more : goal.returns-in_ok-self-clause-more
returns-in_ok-self-clause-more c = λ known are. slot_variant_taken _ _ _ known _ _ (sym c.eq.ensures ∙ c.if-eq.true) are c.in_ok-self.ensures.told

pub returns-in_ok-self-2-clause-more : goal.returns-in_ok-self-2-clause-more
returns-in_ok-self-2-clause-more c = λ known are. slot_line_taken _ _ _ known _ _ (sym c.eq-else-eq.ensures ∙ c.if-eq-2.true) are c.in_ok-self-2.ensures.told

pub returns-in_ok-self-3-clause-more : goal.returns-in_ok-self-3-clause-more
returns-in_ok-self-3-clause-more c = λ known are. slot_gens_taken _ _ _ known _ _ (sym c.eq-else-eq-2.ensures ∙ c.if-eq-3.true) are c.in_ok-self-3.ensures.told

pub returns-in_ok-self-4-clause-more : goal.returns-in_ok-self-4-clause-more
returns-in_ok-self-4-clause-more c = λ known are. slot_names_taken _ _ _ known _ _ (sym c.eq-else-eq-3.ensures ∙ c.if-eq-4.true) are c.in_ok-self-4.ensures.told

pub returns-in_ok-self-5-clause-more : goal.returns-in_ok-self-5-clause-more
returns-in_ok-self-5-clause-more c = λ known are. slot_rows_taken _ _ _ known _ _ (sym c.eq-else-eq-4.ensures ∙ c.if-eq-5.true) are c.in_ok-self-5.ensures.told

pub returns-in_ok-self-6-clause-more : goal.returns-in_ok-self-6-clause-more
returns-in_ok-self-6-clause-more c = λ known are. slot_file_taken _ _ _ known _ _ (sym c.eq-else-eq-5.ensures ∙ c.if-eq-6.true) are c.in_ok-self-6.ensures.told
