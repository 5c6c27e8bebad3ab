use Rattle.place_core.proofs.Children.{list_more}
use Rattle.place_core.proofs.below.no_numbers.Goals as goal

pub loop-preserved : goal.loop-preserved
loop-preserved c = list_more c.loop.counter c.loop.lists.items c.push.new.self.items c.new.result c.new.ensures.items c.in_ok-push.ensures.items c.loop.invariant
