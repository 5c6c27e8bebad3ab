use Rattle.std.proofs.Common.{rules}
use Rattle.symtab_json.specs.Judged.{paths_differ}
use Rattle.symtab_json.proofs.Kept.{kept_then, kept_else}
use Rattle.symtab_json.proofs.read.apart_instances.Goals as goal

pub returns-then-branch : goal.returns-then-branch
returns-then-branch c = kept_then paths_differ c.args.found c.in-Some.instances c.in_ok-are_apart.field-0 (search rules) (search rules) c.if-branch.true

pub returns-else-branch : goal.returns-else-branch
returns-else-branch c = kept_else paths_differ c.args.found c.in-Some.instances c.in_ok-are_apart.field-0 (search rules) (search rules) c.if-branch.false
