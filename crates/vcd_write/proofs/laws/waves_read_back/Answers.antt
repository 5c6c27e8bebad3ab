use Rattle.vcd_write.proofs.Back as back
use Rattle.vcd_write.proofs.laws.waves_read_back.Goals as goal

pub returns : goal.returns
returns c = back.waves_read_back
