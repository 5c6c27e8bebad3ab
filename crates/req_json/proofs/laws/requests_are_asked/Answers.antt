use Rattle.req_json.proofs.Requests.{requests_are_asked}
use Rattle.req_json.proofs.laws.requests_are_asked.Goals as goal

pub returns : goal.returns
returns c = requests_are_asked
