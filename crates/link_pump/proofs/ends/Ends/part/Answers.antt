use Rattle.std.proofs.Common.{rules, ◌≡◌, false, ◌∙◌, ap}
use Rattle.rtrb.specs.Ring.{sent}
use Rattle.link_pump.specs.Rings.{finishes, marked_last}
use Rattle.link_pump.proofs.Ringing.{finishes_left, last_left}
use Rattle.link_pump.proofs.Naming.{left_pushed}
use Rattle.link_pump.proofs.ends.Ends.part.Goals as goal

pub invariant_of-self : goal.invariant_of-self
invariant_of-self g c =
    let goes : finishes (sent c.args.self.now.lines) ≡ false = c.args.self.now.going ∙ (search rules) in
    record {
      marked = c.args.self.now.marked;
      going = ap finishes c.push_waiting.ensures.pushed ∙ finishes_left _;
      once = ap marked_last c.push_waiting.ensures.pushed ∙ last_left _ goes;
    }

pub returns-then-not-self : goal.returns-then-not-self
returns-then-not-self g c =
    left_pushed c.args.self.now.messages c.args.self.now.lines c.push_waiting.new.lines c.args.self.now.over c.args.self.now.idles c.args.self.now.shut c.push_waiting.ensures.ring c.push_waiting.ensures.pushed
