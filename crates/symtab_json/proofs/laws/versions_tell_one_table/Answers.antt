use Rattle.symtab_json.proofs.Versions.{versions_tell_one_tree, versions_tell_one_table}
use Rattle.symtab_json.proofs.laws.versions_tell_one_table.Goals as goal

pub returns-clause-tree : goal.returns-clause-tree
returns-clause-tree c = versions_tell_one_tree

pub returns-clause-table : goal.returns-clause-table
returns-clause-table c = versions_tell_one_table
