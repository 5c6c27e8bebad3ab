-- The texts of the samples, computed.
use Rattle.std.proofs.Common.{refl}
use Rattle.std.specs.Fmt.{digits}
use Rattle.net_core.specs.Nodes.{trees_from}
use Rattle.sim_hist.specs.Run.{registers_in}
use Rattle.vcd_text.specs.Dump.{code_text, binary_digits, dump_text}
use Rattle.vcd_write.specs.Run.{waves_text}
use Rattle.vcd_write.specs.Sample.{counter_is_told, alone_is_told, CodesAre}

pub counter_text : counter_is_told
unfolding digits trees_from registers_in code_text binary_digits dump_text waves_text
counter_text = refl

pub alone_text : alone_is_told
unfolding digits trees_from registers_in code_text binary_digits dump_text waves_text
alone_text = refl

pub codes_text : CodesAre
unfolding code_text
codes_text = record { one = refl; two = refl; most_of_two = refl; three = refl }
