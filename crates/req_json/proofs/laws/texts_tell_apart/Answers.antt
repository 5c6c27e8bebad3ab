use Rattle.req_json.proofs.Client.{texts_tell_apart}
use Rattle.req_json.proofs.laws.texts_tell_apart.Goals as goal

pub returns : goal.returns
returns c = texts_tell_apart
