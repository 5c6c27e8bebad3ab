-- The texts of the samples, computed.
use Rattle.std.proofs.Common.{refl}
use Rattle.std.specs.Fmt.{digits}
use Rattle.bv_core.specs.Text.{hex_digits}
use Rattle.net_core.specs.Nodes.{trees_from}
use Rattle.verilog_out.specs.Spelling.{edge_text}
use Rattle.verilog_out.specs.Printed.{printed}
use Rattle.verilog_out.specs.Sample.{sample_is_printed, operators_are_printed, words_are_printed, alone_is_printed}

pub counter_text : sample_is_printed
unfolding digits hex_digits trees_from edge_text printed
counter_text = refl

pub operators_text : operators_are_printed
unfolding digits hex_digits trees_from edge_text printed
operators_text = refl

pub words_text : words_are_printed
unfolding digits hex_digits trees_from edge_text printed
words_text = refl

pub alone_text : alone_is_printed
unfolding digits hex_digits trees_from edge_text printed
alone_text = refl
