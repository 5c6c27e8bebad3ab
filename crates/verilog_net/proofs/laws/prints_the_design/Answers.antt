use Rattle.std.proofs.Common.{refl}
use Rattle.std.specs.Fmt.{digits}
use Rattle.bv_core.specs.Text.{hex_digits}
use Rattle.net_core.specs.Nodes.{trees_from}
use Rattle.verilog_out.specs.Spelling.{edge_text}
use Rattle.verilog_out.specs.Printed.{printed}
use Rattle.verilog_net.proofs.laws.prints_the_design.Goals as goal

-- by computing
pub returns : goal.returns
unfolding digits hex_digits trees_from edge_text printed
returns c = refl
