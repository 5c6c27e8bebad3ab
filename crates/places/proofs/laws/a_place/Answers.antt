use Rattle.places.proofs.Places.{tells, is_of, first}
use Rattle.places.proofs.laws.a_place.Goals as goal

pub returns-clause-tells : goal.returns-clause-tells
returns-clause-tells c = tells

pub returns-clause-is_of : goal.returns-clause-is_of
returns-clause-is_of c = is_of

pub returns-clause-first : goal.returns-clause-first
returns-clause-first c = first
