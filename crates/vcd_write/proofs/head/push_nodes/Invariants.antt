use Rattle.std.proofs.Common.{◌≡◌, ◌++◌}
use Rattle.std.specs.List.{flat_map}
use Rattle.list_core.specs.Lists.{from}
use Rattle.vcd_write.specs.Written.{node_line}
use Rattle.vcd_write.proofs.head.push_nodes.Given as goal

-- the declarations so far
abbrev pub invariant-loop-number : goal.invariant-loop-number
invariant-loop-number l = l.text.items ≡ l.initial.text.items ++ flat_map (node_line l.net.nodes) (from 0 l.number)
