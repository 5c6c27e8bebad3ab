use Rattle.std.proofs.Common.{[]}
use Rattle.elab_core.specs.Elab.{top_walk}
use Rattle.elab_core.proofs.EventLaws.{judged_first}
use Rattle.elab_core.proofs.laws.first_faulty_event.Goals as goal

pub returns : goal.returns
returns c = λ modules top rest. judged_first [] (top_walk modules top rest)
