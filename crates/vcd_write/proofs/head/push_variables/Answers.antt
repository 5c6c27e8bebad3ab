use Rattle.vcd_write.proofs.Pieces.{variables_written}
use Rattle.vcd_write.proofs.head.push_variables.Goals as goal

pub returns : goal.returns
returns c =
    variables_written c.args.net.now c.outputs.result.now c.count.result c.args.text.now.items c.push_variable.new.text.items c.push_nodes.new.text.items c.push_outputs.new.text.items
    c.count.ensures.count c.outputs.ensures.outputs c.in_ok-push_variable.ensures c.in_ok-push_nodes.ensures c.in_ok-push_outputs.ensures
