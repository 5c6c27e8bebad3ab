use Rattle.std.proofs.Common.{Some, ap}
use Rattle.tree_core.specs.Tree.{Leaf}
use Rattle.block_net.proofs.TermLists.{stands_as}
use Rattle.block_net.proofs.WalkSteps.{is_leaf}
use Rattle.block_net.proofs.walk.leaf.Goals as goal

pub returns-clause-stands : goal.returns-clause-stands
returns-clause-stands c = is_leaf _ _ c.args.name.now (stands_as _ _ _ _ (ap (λ x. Some (Leaf x)) c.in_ok-new.ensures) c.in_ok-id.ensures.stands)
