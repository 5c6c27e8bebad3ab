use Rattle.symtab_json.proofs.Tables.{literals_are_shown}
use Rattle.symtab_json.proofs.laws.literals_are_shown.Goals as goal

pub returns : goal.returns
returns c = literals_are_shown
