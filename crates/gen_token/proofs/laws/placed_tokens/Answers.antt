use Rattle.gen_token.proofs.InFile.{placed}
use Rattle.gen_token.proofs.laws.placed_tokens.Goals as goal

pub returns : goal.returns
returns c = placed
