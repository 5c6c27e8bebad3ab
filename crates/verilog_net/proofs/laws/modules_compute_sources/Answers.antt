use Rattle.verilog_net.proofs.Computing.{modules_compute_sources}
use Rattle.verilog_net.proofs.laws.modules_compute_sources.Goals as goal

pub returns : goal.returns
returns c = modules_compute_sources
