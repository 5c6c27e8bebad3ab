use Rattle.std.proofs.Common.{◌≡◌, ap, slice_get, Some, arith}
use Rattle.std.proofs.lemmas.Grind.{common_steps}
use Rattle.net_core.proofs.Entries.{tree_got}
use Rattle.net_core.proofs.net.Net.node.Goals as goal

pub returns-clause-tree : goal.returns-clause-tree
returns-clause-tree c =
    let at : slice_get c.self.inside.nodes.keys c.args.id.0 ≡ Some c.unwrap.result.now = grind (arith, common_steps) in
    tree_got c.self.inside.nodes.keys c.args.self.now.nodes c.args.id.0 c.unwrap.result.now c.self.invariant.entries (ap (λ p. p.nodes) c.self.view_is) at
