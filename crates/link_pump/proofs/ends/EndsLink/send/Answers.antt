use Rattle.std.proofs.Common.{rules, ◌≡◌, ◌∷◌, ◌++◌, [], ◌∙◌, ap}
use Rattle.rtrb.specs.Ring.{sent}
use Rattle.link_pump.specs.declared.rings.ToLink.TheVariants.{Line}
use Rattle.link_pump.specs.Rings.{finishes}
use Rattle.link_pump.proofs.Ringing.{finishes_line, last_while}
use Rattle.link_pump.proofs.Naming.{line_pushed}
use Rattle.link_pump.proofs.ends.EndsLink.send.Goals as goal

pub invariant_of-self : goal.invariant_of-self
invariant_of-self g c = record {
  marked = c.args.self.now.marked;
  going = ap finishes c.push_waiting.ensures.pushed ∙ finishes_line _ _ ∙ c.args.self.now.going;
  once = last_while _ (ap finishes c.push_waiting.ensures.pushed ∙ finishes_line _ _ ∙ c.args.self.now.going ∙ (search rules));
}

pub returns-in-Ok-clause-ok : goal.returns-in-Ok-clause-ok
returns-in-Ok-clause-ok g c =
    let same : c.new.result ≡ c.args.text.now = search rules in
    let pushed : sent c.push_waiting.new.lines ≡ sent c.args.self.now.lines ++ Line c.args.text.now ∷ [] = rw same at c.push_waiting.ensures.pushed in
    line_pushed c.args.self.now.messages c.args.self.now.lines c.push_waiting.new.lines c.args.self.now.over c.args.self.now.idles c.args.self.now.shut c.args.text.now c.push_waiting.ensures.ring pushed
