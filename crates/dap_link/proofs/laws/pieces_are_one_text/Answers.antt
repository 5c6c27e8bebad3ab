use Rattle.dap_link.proofs.Firsts.{first_is_one, more_is_behind, pieces_are_one_text}
use Rattle.dap_link.proofs.laws.pieces_are_one_text.Goals as goal

pub returns-clause-one : goal.returns-clause-one
returns-clause-one c = first_is_one

pub returns-clause-more : goal.returns-clause-more
returns-clause-more c = more_is_behind

pub returns-clause-pieces : goal.returns-clause-pieces
returns-clause-pieces c = pieces_are_one_text
