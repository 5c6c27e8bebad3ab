use Rattle.std.proofs.Common.{◌≡◌, map, take}
use Rattle.symtab.specs.Shape.{paths_of}
use Rattle.dap_link.specs.Conversation.{thread_row}
use Rattle.dap_link.proofs.looking.thread_rows.Given as goal

abbrev pub invariant-loop-instance : goal.invariant-loop-instance
invariant-loop-instance l = l.rows.items ≡ map (thread_row (paths_of l.table.instances)) (take l.instance-index l.threads)
