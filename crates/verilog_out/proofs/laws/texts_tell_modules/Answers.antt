use Rattle.verilog_out.proofs.OneModule as one_module
use Rattle.verilog_out.proofs.laws.texts_tell_modules.Goals as goal

pub returns : goal.returns
returns c = one_module.texts_tell_modules
