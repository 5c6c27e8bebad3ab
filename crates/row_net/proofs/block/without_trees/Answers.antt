use Rattle.std.proofs.Common.{◌∙◌, ap, get_or}
use Rattle.std.proofs.lemmas.List.{take_all}
use Rattle.names.specs.Known.{has}
use Rattle.names.specs.Maps.{value_of}
use Rattle.place_core.specs.Assigned.{names_at}
use Rattle.list_core.proofs.Listing.{same_get}
use Rattle.row_net.specs.Told.{no_own}
use Rattle.row_net.proofs.Replaying.{own_next}
use Rattle.row_net.proofs.block.without_trees.Goals as goal

pub loop-name-preserved : goal.loop-name-preserved
loop-name-preserved c =
    let i = c.loop-name.name-index in
    own_next c.args.names.now i (get_or c.args.names.now i _) (value_of c.loop-name.held) (value_of c.put.new.self) c.loop-name-test.true (same_get c.args.names.now i _ _ c.loop-name-test.true) c.loop-name.invariant c.in_ok-put.ensures.ok

pub returns : goal.returns
returns c = c.loop-name.invariant ∙ ap (λ l. no_own (has (names_at l))) (take_all c.loop-name.name-index c.args.names.now c.loop-name-test.false)
