use Rattle.req_json.proofs.Hearing.{notices_are_told}
use Rattle.req_json.proofs.laws.notices_are_told.Goals as goal

pub returns : goal.returns
returns c = notices_are_told
