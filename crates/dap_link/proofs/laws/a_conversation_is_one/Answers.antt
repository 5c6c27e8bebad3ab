use Rattle.dap_link.proofs.Talking.{one_conversation}
use Rattle.dap_link.proofs.laws.a_conversation_is_one.Goals as goal

pub returns : goal.returns
returns c = one_conversation
