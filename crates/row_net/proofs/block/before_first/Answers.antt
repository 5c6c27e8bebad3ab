use Rattle.std.proofs.Common.{◌∙◌, ap}
use Rattle.names.specs.Known.{has}
use Rattle.place_core.specs.Assigned.{names_at}
use Rattle.row_net.specs.Told.{no_own}
use Rattle.row_net.proofs.block.before_first.Goals as goal

pub returns : goal.returns
returns c = c.in_ok-held.ensures ∙ ap (λ l. no_own (has (names_at l))) c.deref.ensures.value ∙ ap no_own c.in_ok-names.ensures
