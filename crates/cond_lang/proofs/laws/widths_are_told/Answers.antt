use Rattle.cond_lang.proofs.Typing.{widths_told}
use Rattle.cond_lang.proofs.laws.widths_are_told.Goals as goal

pub returns : goal.returns
returns c = λ scope e offsets. widths_told scope e offsets
