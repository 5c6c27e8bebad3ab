use Rattle.std.proofs.Common.{sym}
use Rattle.verilog_out.proofs.MeansNet.{printed_means_net}
use Rattle.verilog_net.proofs.Alike.{compiled_text}
use Rattle.verilog_net.proofs.Fits.{fits_ports}
use Rattle.verilog_net.proofs.laws.printed_designs_mean_their_nets.Goals as goal

pub returns : goal.returns
returns c = λ d n mode net ports sound kept has names few.
    (sym (compiled_text d n mode net ports sound kept), printed_means_net net ports few kept.is_net (fits_ports d n mode net ports sound kept has) names)
