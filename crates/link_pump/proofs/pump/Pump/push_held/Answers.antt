use Rattle.std.proofs.Common.{rules}
use Rattle.link_pump.proofs.Pumping.{held_pushed}
use Rattle.link_pump.proofs.pump.Pump.push_held.Goals as goal

pub returns-in-Ok-clause-keeps : goal.returns-in-Ok-clause-keeps
returns-in-Ok-clause-keeps g c = λ start was.
    held_pushed start _ c.args.self.now c.push.new.self c.take.new.self c.in-Some.text (search rules) (search rules) (search rules) was
