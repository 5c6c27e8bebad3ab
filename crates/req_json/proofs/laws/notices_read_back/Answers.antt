use Rattle.req_json.proofs.ReadBack.{notices_read_back}
use Rattle.req_json.proofs.laws.notices_read_back.Goals as goal

pub returns : goal.returns
returns c = notices_read_back
