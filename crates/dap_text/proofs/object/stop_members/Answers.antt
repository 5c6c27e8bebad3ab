use Rattle.dap_text.proofs.Members.{put_more, put_one}
use Rattle.dap_text.proofs.object.stop_members.Goals as goal

pub returns : goal.returns
returns c = put_more _ _ _ _ _ c.in_ok-put.ensures (put_more _ _ _ _ _ c.in_ok-put_word.ensures (put_one _ _ _ c.in_ok-object.ensures))
