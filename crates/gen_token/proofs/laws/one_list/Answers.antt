use Rattle.std.proofs.Common.{false}
use Rattle.gen_token.specs.Tokens.{skip}
use Rattle.gen_token.proofs.OneList.{same}
use Rattle.gen_token.proofs.laws.one_list.Goals as goal

pub returns : goal.returns
returns c = λ text first second end other. same (skip false 1 text) first second end other
