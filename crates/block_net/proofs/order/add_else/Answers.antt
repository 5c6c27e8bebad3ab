use Rattle.std.proofs.Common.{◌∙◌, ap}
use Rattle.exec_core.specs.Block.{body_assigns}
use Rattle.block_net.specs.Source.{else_in}
use Rattle.block_net.specs.Walks.{among, either}
use Rattle.block_net.proofs.order.add_else.Goals as goal

pub returns-clause-keys : goal.returns-clause-keys
returns-clause-keys c =
    c.in_ok-add_all.ensures.keys
    ∙ ap (either (among c.args.set.now.keys.items)) (ap among c.deref.ensures.value ∙ c.in_ok-collect_else.ensures ∙ ap (λ l. either (among l) (body_assigns (else_in c.args.clocked c.args.other.now))) c.new-keys.ensures.items)
