use Rattle.machine_core.proofs.Numbers.{numbers_are_given_once}
use Rattle.machine_core.proofs.laws.numbers_are_given_once.Goals as goal

pub returns : goal.returns
returns c = numbers_are_given_once
