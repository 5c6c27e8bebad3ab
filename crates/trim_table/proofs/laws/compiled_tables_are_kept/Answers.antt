use Rattle.trim_table.proofs.KeptTables.{compiled_tables_are_kept}
use Rattle.trim_table.proofs.laws.compiled_tables_are_kept.Goals as goal

pub returns : goal.returns
returns c = compiled_tables_are_kept
