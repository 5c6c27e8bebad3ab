use Rattle.vcd_write.proofs.Pieces.{more_numbers}
use Rattle.vcd_write.proofs.cycle.push_numbers.Goals as goal

pub loop-number-preserved : goal.loop-number-preserved
loop-number-preserved c = more_numbers c.args.found.now.items c.loop-number.found.items c.push.new.self.items c.loop-number.number c.in_ok-push.ensures.items c.loop-number.invariant
