use Rattle.std.proofs.Common.{Some, ap}
use Rattle.dap_text.proofs.Members.{put_more, put_written}
use Rattle.dap_text.proofs.text.stack_object.Goals as goal

pub returns : goal.returns
returns c = ap Some (put_more _ _ _ _ _ c.in_ok-put.ensures (put_written _ _ _ _ _ c.in_ok-put_written.ensures c.in_ok-frames.ensures c.new-object.ensures))
