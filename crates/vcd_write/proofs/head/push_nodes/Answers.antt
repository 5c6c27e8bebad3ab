use Rattle.vcd_write.specs.Written.{node_line}
use Rattle.vcd_write.proofs.Pieces.{more_written}
use Rattle.vcd_write.proofs.head.push_nodes.Goals as goal

pub loop-number-preserved : goal.loop-number-preserved
loop-number-preserved c = more_written (node_line c.args.net.now.nodes) c.args.text.now.items c.loop-number.text.items c.push_node.new.text.items c.loop-number.number c.in_ok-push_node.ensures c.loop-number.invariant
