use Rattle.req_json.proofs.ReadBack.{replies_read_back}
use Rattle.req_json.proofs.laws.replies_read_back.Goals as goal

pub returns : goal.returns
returns c = replies_read_back
