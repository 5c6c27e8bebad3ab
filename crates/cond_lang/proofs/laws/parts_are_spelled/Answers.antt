use Rattle.cond_lang.proofs.Spans.{parts_are_spelled}
use Rattle.cond_lang.proofs.laws.parts_are_spelled.Goals as goal

pub returns : goal.returns
returns c = parts_are_spelled
