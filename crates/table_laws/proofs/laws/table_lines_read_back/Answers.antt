use Rattle.table_laws.proofs.Files.{table_lines}
use Rattle.table_laws.proofs.laws.table_lines_read_back.Goals as goal

pub returns : goal.returns
returns c = table_lines
