use Rattle.verilog_out.proofs.MeansNet as means
use Rattle.verilog_out.proofs.laws.printed_means_net.Goals as goal

pub returns : goal.returns
returns c = means.printed_means_net
