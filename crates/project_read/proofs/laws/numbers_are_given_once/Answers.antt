use Rattle.project_read.proofs.Numbering.{given_once}
use Rattle.project_read.proofs.laws.numbers_are_given_once.Goals as goal

pub returns : goal.returns
returns c = given_once
