use Rattle.std.proofs.Common.{◌≤◌, subst, sym}
use Rattle.verilog_out.proofs.Widths.{node_some}
use Rattle.vcd_write.proofs.head.push_node.Goals as goal

pub push_node_of-requires-clause-width : goal.push_node_of-requires-clause-width
push_node_of-requires-clause-width c = subst (λ n. 1 ≤ n) (sym c.width.ensures) (node_some c.args.net.now c.requires.net c.args.id.0 c.requires.node)
