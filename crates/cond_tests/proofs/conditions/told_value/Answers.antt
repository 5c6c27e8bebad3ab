use Rattle.std.proofs.Common.{rules}
use Rattle.cond_lang.proofs.Nodes.{each_always}
use Rattle.cond_tests.proofs.conditions.told_value.Goals as goal

pub value_of-requires-clause-callable : goal.value_of-requires-clause-callable
value_of-requires-clause-callable c = search (rules, each_always)

pub value_of-requires-clause-widths : goal.value_of-requires-clause-widths
value_of-requires-clause-widths c = search (rules, each_always)
