use Rattle.serde_json.specs.View.{view}
use Rattle.req_json.proofs.Kept.{kept_of}
use Rattle.req_json.proofs.request.read_request.Goals as goal

pub returns-in-Some-clause-kept : goal.returns-in-Some-clause-kept
returns-in-Some-clause-kept c = kept_of c.asked_tree.result (view c.in-Some.value) c.asked_tree.ensures
