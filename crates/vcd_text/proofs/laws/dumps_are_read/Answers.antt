use Rattle.vcd_text.proofs.Whole as whole
use Rattle.vcd_text.proofs.laws.dumps_are_read.Goals as goal

pub returns : goal.returns
returns c = whole.dumps_are_read
