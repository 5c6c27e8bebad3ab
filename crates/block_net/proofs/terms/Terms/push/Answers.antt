use Rattle.std.proofs.Common.{◌∙◌, sym}
use Rattle.block_net.proofs.TermLists.{numbered_pushed, stands_pushed}
use Rattle.block_net.proofs.terms.Terms.push.Goals as goal

pub invariant_of-self-2 : goal.invariant_of-self-2
invariant_of-self-2 c = numbered_pushed _ _ _ _ (sym c.self.view_is) c.in_ok-push.ensures.items c.self.invariant c.requires

pub returns-clause-stands : goal.returns-clause-stands
returns-clause-stands c = stands_pushed _ _ _ _ _ (sym c.self.view_is) c.in_ok-push.ensures.items (c.len.ensures ∙ c.self.inside.terms.ok.0)
