use Rattle.std.proofs.Common.{◌∙◌, ap}
use Rattle.block_net.specs.Walks.{among, either}
use Rattle.block_net.proofs.key_set.distinct.Goals as goal

pub returns : goal.returns
returns c = c.in_ok-add_all.ensures.keys ∙ ap (λ l. either (among l) (among c.args.keys.now)) c.new-set.ensures.keys
