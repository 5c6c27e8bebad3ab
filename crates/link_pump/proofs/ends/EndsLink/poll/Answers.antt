use Rattle.std.proofs.Common.{rules, ◌≡◌, ◌∷◌, ◌++◌, [], None, ◌∙◌, ap}
use Rattle.rtrb.specs.Ring.{received}
use Rattle.link_pump.specs.declared.rings.FromLink.TheVariants.{Message, LinkOver}
use Rattle.link_pump.specs.Rings.{cause_in}
use Rattle.link_pump.proofs.Ringing.{cause_message, cause_mark}
use Rattle.link_pump.proofs.Naming.{message_polled, mark_polled}
use Rattle.link_pump.proofs.ends.EndsLink.poll.Goals as goal

pub invariant_of-self-in-Message-1 : goal.invariant_of-self-in-Message-1
invariant_of-self-in-Message-1 g c =
    let popped : received c.pop.new.self ≡ received c.args.self.now.messages ++ Message c.in-Ok-Message.text ∷ [] = search rules in
    record { marked = ap cause_in popped ∙ cause_message _ _ ∙ c.args.self.now.marked; going = c.args.self.now.going; once = c.args.self.now.once }

pub invariant_of-self-in-Ok-LinkOver : goal.invariant_of-self-in-Ok-LinkOver
invariant_of-self-in-Ok-LinkOver g c =
    let popped : received c.pop.new.self ≡ received c.args.self.now.messages ++ LinkOver c.in-Ok-LinkOver.cause ∷ [] = search rules in
    let free : c.args.self.now.over ≡ None = search rules in
    record { marked = ap cause_in popped ∙ cause_mark _ _ (c.args.self.now.marked ∙ free); going = c.args.self.now.going; once = c.args.self.now.once }

pub returns-in-Ok-Message : goal.returns-in-Ok-Message
returns-in-Ok-Message g c = record {
  after = message_polled c.args.self.now.messages c.pop.new.self c.args.self.now.lines c.args.self.now.over c.args.self.now.idles c.args.self.now.shut c.in-Ok-Message.text (search rules) (search rules);
}

pub returns-in-Ok-LinkOver : goal.returns-in-Ok-LinkOver
returns-in-Ok-LinkOver g c = record {
  after = rw c.polled_over.ensures
      (mark_polled c.args.self.now.messages c.pop.new.self c.args.self.now.lines c.args.self.now.over c.args.self.now.idles c.args.self.now.shut c.in-Ok-LinkOver.cause (search rules) (search rules) (search rules));
}
