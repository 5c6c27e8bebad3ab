use Rattle.std.proofs.Common.{rules, ◌≡◌, ◌∷◌, ◌++◌, [], refl}
use Rattle.rtrb.specs.Ring.{received}
use Rattle.link_pump.specs.declared.rings.ToLink.TheVariants.{SessionOver, ClientOver}
use Rattle.link_pump.proofs.Ringing.{finishes_over, finishes_left}
use Rattle.link_pump.proofs.Pumping.{line_taken, begun_taken, over_taken, client_taken, nothing_taken}
use Rattle.link_pump.proofs.pump.Pump.take_line.Goals as goal

pub returns-in-Ok-Begun-clause-keeps : goal.returns-in-Ok-Begun-clause-keeps
returns-in-Ok-Begun-clause-keeps g c = λ start was. begun_taken start _ c.args.self.now c.pop.new.self (search rules) was

pub returns-in-Ok-Line-clause-keeps : goal.returns-in-Ok-Line-clause-keeps
returns-in-Ok-Line-clause-keeps g c = λ start was.
    line_taken start _ _ c.args.self.now c.pop.new.self c.deliver.new.self c.in-Ok-Line.text (search rules) c.deliver.ensures.over c.deliver.ensures.received (λ made h. c.deliver.ensures.keeps start made h) was

pub returns-in-Ok-SessionOver-clause-keeps : goal.returns-in-Ok-SessionOver-clause-keeps
returns-in-Ok-SessionOver-clause-keeps g c = λ start was. over_taken start _ c.args.self.now c.pop.new.self (search rules) was

pub returns-in-Ok-SessionOver-clause-over : goal.returns-in-Ok-SessionOver-clause-over
returns-in-Ok-SessionOver-clause-over g c = λ _.
    let popped : received c.pop.new.self ≡ received c.args.self.now.lines ++ SessionOver ∷ [] = search rules in rw (popped, finishes_over) refl

pub returns-in-Ok-ClientOver-clause-keeps : goal.returns-in-Ok-ClientOver-clause-keeps
returns-in-Ok-ClientOver-clause-keeps g c = λ start was. client_taken start _ c.args.self.now c.pop.new.self (search rules) was

pub returns-in-Ok-ClientOver-clause-over : goal.returns-in-Ok-ClientOver-clause-over
returns-in-Ok-ClientOver-clause-over g c = λ _.
    let popped : received c.pop.new.self ≡ received c.args.self.now.lines ++ ClientOver ∷ [] = search rules in rw (popped, finishes_left) refl

pub returns-in-Err-clause-keeps : goal.returns-in-Err-clause-keeps
returns-in-Err-clause-keeps g c = λ start was. nothing_taken start _ c.args.self.now c.pop.new.self (search rules) was
