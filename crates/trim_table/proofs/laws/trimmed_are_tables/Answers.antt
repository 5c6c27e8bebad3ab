use Rattle.trim_table.proofs.Tables.{trimmed_are_tables}
use Rattle.trim_table.proofs.laws.trimmed_are_tables.Goals as goal

pub returns : goal.returns
returns c = trimmed_are_tables
