use Rattle.symtab_json.proofs.Tables.{tables_are_told}
use Rattle.symtab_json.proofs.laws.tables_are_told.Goals as goal

pub returns : goal.returns
returns c = tables_are_told
