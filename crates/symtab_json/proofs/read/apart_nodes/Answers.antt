use Rattle.std.proofs.Common.{rules, option_map}
use Rattle.symtab.specs.declared.parts.NodeName.{NodeName}
use Rattle.symtab_json.specs.Judged.{names_of_nodes_differ}
use Rattle.symtab_json.specs.declared.told.LongList.{LongList}
use Rattle.symtab_json.proofs.Kept.{kept_then, kept_else}
use Rattle.symtab_json.proofs.read.apart_nodes.Goals as goal

pub returns-then-branch : goal.returns-then-branch
returns-then-branch c = kept_then names_of_nodes_differ (option_map (λ (l : LongList NodeName). l.items) c.args.found) c.in-Some.list.items c.in_ok-are_apart.field-0 (search rules) (search rules) c.if-branch.true

pub returns-else-branch : goal.returns-else-branch
returns-else-branch c = kept_else names_of_nodes_differ (option_map (λ (l : LongList NodeName). l.items) c.args.found) c.in-Some.list.items c.in_ok-are_apart.field-0 (search rules) (search rules) c.if-branch.false
