use Rattle.std.proofs.Common.{rules, ◌≡◌, ◌∷◌, ◌++◌, [], sym, append-nil}
use Rattle.link_pump.proofs.Ringing.{heard_one, heard_none}
use Rattle.link_pump.proofs.gathering.keep_message.Goals as goal

pub returns-in-Message-clause-items : goal.returns-in-Message-clause-items
returns-in-Message-clause-items c =
    let pushed : c.push.new.self.items ≡ c.args.unapplied.now.items ++ c.in-Message.text ∷ [] = search rules in
    rw (c.in-Message.is, heard_one) pushed

pub returns-in-LinkOver-clause-items : goal.returns-in-LinkOver-clause-items
returns-in-LinkOver-clause-items c = rw (c.in-LinkOver.is, heard_none) (sym (append-nil _))
