use Rattle.dap_text.proofs.Members.{put_first, put_more}
use Rattle.dap_text.proofs.text.plain_members.Goals as goal

pub returns : goal.returns
returns c =
    put_more _ _ _ _ _ c.in_ok-put_word-2.ensures (
    put_more _ _ _ _ _ c.in_ok-put-3.ensures (
    put_more _ _ _ _ _ c.in_ok-put-2.ensures (
    put_more _ _ _ _ _ c.in_ok-put.ensures (put_first _ _ _ _ c.in_ok-put_word.ensures c.new-object.ensures))))
