use Rattle.std.proofs.Common.{◌∙◌, ap}
use Rattle.exec_core.specs.Block.{body_assigns}
use Rattle.block_net.specs.Source.{body_in}
use Rattle.block_net.specs.Walks.{among, either}
use Rattle.block_net.proofs.keys.assigned_by.Goals as goal

pub returns : goal.returns
returns c = c.in_ok-collect.ensures ∙ ap (λ l. either (among l) (body_assigns (body_in c.args.clocked c.args.stmts.now))) c.new-keys.ensures.items
