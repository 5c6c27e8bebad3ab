use Rattle.std.proofs.Common.{◌∙◌, ap}
use Rattle.exec_core.specs.Block.{body_assigns}
use Rattle.block_net.specs.Source.{body_in, else_in}
use Rattle.block_net.specs.Walks.{among, either}
use Rattle.block_net.proofs.BodySteps.{from_none}
use Rattle.block_net.proofs.keys.assigned.Goals as goal

pub returns : goal.returns
returns c =
    c.in_ok-found.ensures ∙ ap among c.deref.ensures.value
    ∙ from_none _ _ (body_in c.args.clocked c.args.yes.now) (else_in c.args.clocked c.args.no.now)
    (c.in_ok-collect.ensures ∙ ap (λ l. either (among l) (body_assigns (body_in c.args.clocked c.args.yes.now))) c.new-keys.ensures.items) c.in_ok-collect_else.ensures
