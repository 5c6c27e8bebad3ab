use Rattle.symtab_json.proofs.Again.{files_read_back}
use Rattle.symtab_json.proofs.laws.files_read_back.Goals as goal

pub returns : goal.returns
returns c = files_read_back
