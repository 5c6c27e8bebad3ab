use Rattle.std.proofs.Common.{rules}
use Rattle.symtab_json.proofs.Fits.{text_fits}
use Rattle.symtab_json.proofs.read.read_table.Goals as goal

pub table_of-requires : goal.table_of-requires
table_of-requires c = text_fits c.args.text.now c.in_ok-entries.entries c.in_ok-entries.ensures.ok (search rules)
