use Rattle.std.proofs.Common.{sym, ◌∙◌}
use Rattle.symtab_json.proofs.Prefaced.{preface_version_taken, preface_instances_taken, preface_nodes_taken, preface_variants_taken, preface_other}
use Rattle.symtab_json.proofs.preface.PrefaceFields.take.Goals as goal

pub returns-in_ok-self-clause-more : goal.returns-in_ok-self-clause-more
returns-in_ok-self-clause-more c = λ known are. preface_version_taken c.args.nodes.now _ _ known _ _ (sym c.eq.ensures ∙ c.if-eq.true) are c.in_ok-self.ensures.told

pub returns-in_ok-self-2-clause-more : goal.returns-in_ok-self-2-clause-more
returns-in_ok-self-2-clause-more c = λ known are. preface_instances_taken c.args.nodes.now _ _ known _ _ (sym c.eq-else-eq.ensures ∙ c.if-eq-2.true) are c.in_ok-self-2.ensures.told

pub returns-in_ok-self-3-clause-more : goal.returns-in_ok-self-3-clause-more
returns-in_ok-self-3-clause-more c = λ known are. preface_nodes_taken c.args.nodes.now _ _ known _ _ (sym c.eq-else-eq-2.ensures ∙ c.if-eq-3.true) are c.in_ok-self-3.ensures.told

pub returns-in_ok-self-4-clause-more : goal.returns-in_ok-self-4-clause-more
returns-in_ok-self-4-clause-more c = λ known are. preface_variants_taken c.args.nodes.now _ _ known _ _ (sym c.eq-else-eq-3.ensures ∙ c.if-eq-4.true) are c.in_ok-self-4.ensures.told

pub returns-else-eq-4-clause-more : goal.returns-else-eq-4-clause-more
returns-else-eq-4-clause-more c = λ known are. are ∙ sym (preface_other c.args.nodes.now _ _ known (sym c.eq.ensures ∙ c.if-eq.false) (sym c.eq-else-eq.ensures ∙ c.if-eq-2.false) (sym c.eq-else-eq-2.ensures ∙ c.if-eq-3.false) (sym c.eq-else-eq-3.ensures ∙ c.if-eq-4.false))
