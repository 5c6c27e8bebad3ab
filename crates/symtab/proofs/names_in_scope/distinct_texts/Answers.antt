use Rattle.symtab.proofs.SlotLemmas.{apart_texts, named_texts}
use Rattle.symtab.proofs.names_in_scope.distinct_texts.Goals as goal

pub returns-clause-apart : goal.returns-clause-apart
returns-clause-apart c = apart_texts c.args.texts.now c.distinct_names.result c.distinct_names.ensures.apart

pub returns-clause-names : goal.returns-clause-names
returns-clause-names c = named_texts c.args.texts.now c.distinct_names.result c.distinct_names.ensures.names
