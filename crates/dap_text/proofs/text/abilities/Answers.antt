use Rattle.std.proofs.Common.{Some, ap}
use Rattle.dap_text.proofs.Members.{put_more, put_two}
use Rattle.dap_text.proofs.text.abilities.Goals as goal

pub returns : goal.returns
returns c = ap Some (put_more _ _ _ _ _ c.in_ok-put.ensures (put_two _ _ _ _ _ c.in_ok-object.ensures))
