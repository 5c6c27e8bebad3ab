use Rattle.std.proofs.Common.{rules}
use Rattle.link_pump.proofs.Pumping.{mark_pushed}
use Rattle.link_pump.proofs.pump.Pump.push_mark.Goals as goal

pub returns-then-is_ok-clause-keeps : goal.returns-then-is_ok-clause-keeps
returns-then-is_ok-clause-keeps g c = λ start was.
    mark_pushed start _ c.args.self.now c.push.new.self c.in-Some.cause (search rules) (search rules) (search rules) (search rules) was
