use Rattle.elab_laws.proofs.Numbered.{elaboration_numbers}
use Rattle.elab_laws.proofs.laws.elaboration_numbers.Goals as goal

-- src/laws.rt:11:1
pub returns : goal.returns
returns c = elaboration_numbers
