use Rattle.std.proofs.Common.{◌≤◌, subst, sym}
use Rattle.verilog_out.proofs.Widths.{node_some}
use Rattle.vcd_write.proofs.head.push_output.Goals as goal

pub push_variable-requires : goal.push_variable-requires
push_variable-requires c = subst (λ n. 1 ≤ n) (sym c.width-size.ensures) (node_some c.args.net.now c.requires.net c.args.output.now.1.0 c.requires.node)
