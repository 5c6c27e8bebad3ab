use Rattle.gen_token.proofs.ReadToken.{exact}
use Rattle.gen_token.proofs.laws.longest.Goals as goal

pub returns : goal.returns
returns c = exact
