use Rattle.std.proofs.Common.{Some, ap}
use Rattle.dap_text.proofs.Members.{put_one}
use Rattle.dap_text.proofs.text.continued.Goals as goal

pub returns : goal.returns
returns c = ap Some (put_one _ _ _ c.in_ok-object.ensures)
