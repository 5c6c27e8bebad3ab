use Rattle.std.proofs.Common.{◌∙◌}
use Rattle.symtab.specs.Shape.{paths_of}
use Rattle.dap_link.proofs.Told.{no_path}
use Rattle.dap_link.proofs.looking.path_at.Goals as goal

pub returns-in-None : goal.returns-in-None
returns-in-None c = c.empty.ensures ∙ no_path (paths_of c.args.table.now.instances) c.args.instance c.in-None.ensures
