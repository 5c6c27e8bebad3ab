use Rattle.std.proofs.Common.{◌≡◌, ◌++◌, drop, map}
use Rattle.std.specs.List.{enumerate_from}
use Rattle.trim_core.specs.Named.{named, node_names}
use Rattle.net_trim.proofs.naming.node_names.Given as goal

-- the nodes so far, and those that are left, are all of them
abbrev pub invariant-loop-number : goal.invariant-loop-number
invariant-loop-number l = l.names.items ++ map (named l.net.nodes) (enumerate_from l.number (drop l.number l.net.nodes)) ≡ node_names l.net.nodes
