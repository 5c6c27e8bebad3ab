use Rattle.std.proofs.Common.{◌∙◌, ap}
use Rattle.exec_core.specs.Block.{body_assigns}
use Rattle.block_net.specs.Source.{body_in}
use Rattle.block_net.specs.Walks.{among, either}
use Rattle.block_net.proofs.order.add_body.Goals as goal

pub returns-clause-keys : goal.returns-clause-keys
returns-clause-keys c =
    c.in_ok-add_all.ensures.keys
    ∙ ap (either (among c.args.set.now.keys.items)) (ap among c.deref.ensures.value ∙ c.in_ok-collect.ensures ∙ ap (λ l. either (among l) (body_assigns (body_in c.args.clocked c.args.stmts.now))) c.new-keys.ensures.items)
