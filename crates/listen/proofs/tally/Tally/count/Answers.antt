use Rattle.listen.proofs.Counting.{same_room}
use Rattle.listen.proofs.tally.Tally.count.Goals as goal

pub invariant_of-self-inside : goal.invariant_of-self-inside
invariant_of-self-inside c = (same_room _ _ _ _ c.self.inside.room, tt)
