use Rattle.std.proofs.Common.{rules}
use Rattle.link_pump.proofs.Pumping.{heard_as, polled_once}
use Rattle.link_pump.proofs.pump.Pump.poll.Goals as goal

pub returns-clause-keeps : goal.returns-clause-keeps
returns-clause-keeps g c = λ start was.
    polled_once start _ _ c.args.self.now c.poll.new.self c.poll.result (search rules) (search rules) (search rules) (heard_as _ _ _ c.poll.ensures.heard c.poll.ensures.silent)
    (λ made h. c.poll.ensures.keeps start made h) was
