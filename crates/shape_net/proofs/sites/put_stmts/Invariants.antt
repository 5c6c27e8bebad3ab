use Rattle.std.proofs.Common.{◌≡◌, ◌++◌, map, take}
use Rattle.design_core.specs.Statements.{stmts_at}
use Rattle.shape_net.specs.Numbered.{numbered_stmt}
use Rattle.shape_net.proofs.sites.put_stmts.Given as goal

abbrev pub invariant-loop-stmt : goal.invariant-loop-stmt
invariant-loop-stmt l = l.slots.items ≡ l.initial.slots.items ++ map (numbered_stmt l.variant l.names) (stmts_at (take l.stmt-index l.stmts))
