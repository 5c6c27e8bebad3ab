use Rattle.check_paths.proofs.Framing.{frame_joined}
use Rattle.check_paths.proofs.frame.Frame.join.Goals as goal

pub returns : goal.returns
returns c = frame_joined _ _ _ _ _ _ c.bits.ensures c.joined-all.ensures c.in_ok-put.ensures
