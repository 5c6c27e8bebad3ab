use Rattle.verilog_net.proofs.Alike.{compiled_are_kept}
use Rattle.verilog_net.proofs.laws.compiled_nets_are_kept_nets.Goals as goal

pub returns : goal.returns
returns c = compiled_are_kept
