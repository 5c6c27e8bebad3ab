use Rattle.place_core.specs.Below.{lists_of}
use Rattle.place_core.proofs.Children.{put_some}
use Rattle.place_core.proofs.below.put_instance.Goals as goal

pub returns-in_ok-put_number : goal.returns-in_ok-put_number
returns-in_ok-put_number c = put_some c.args.number c.in-Some.parent c.args.instance.now (lists_of c.args.lists.now) (lists_of c.put_number.new.lists) c.in-Some.is c.in_ok-put_number.ensures
