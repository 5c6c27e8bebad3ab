use Rattle.req_json.proofs.Client.{replies_are_told}
use Rattle.req_json.proofs.laws.replies_are_told.Goals as goal

pub returns : goal.returns
returns c = replies_are_told
