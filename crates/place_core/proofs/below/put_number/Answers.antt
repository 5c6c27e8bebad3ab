use Rattle.std.proofs.Common.{get_or}
use Rattle.list_core.proofs.Listing.{same_get}
use Rattle.place_core.proofs.Children.{number_put}
use Rattle.place_core.proofs.below.put_number.Goals as goal

pub returns : goal.returns
returns c =
    let old = get_or c.args.lists.now c.args.parent c.index-lists-parent.result in
    number_put c.args.lists.now c.args.parent c.args.number old c.push.new.self c.requires (same_get c.args.lists.now c.args.parent _ _ c.requires) c.in_ok-push.ensures.items
