use Rattle.std.proofs.Common.{◌≡◌, ◌∙◌, slice_get, Some, arith}
use Rattle.std.proofs.lemmas.Grind.{common_steps}
use Rattle.net_core.proofs.Entries.{constant_is}
use Rattle.net_core.proofs.builder.NetBuilder.constant_at.Goals as goal

pub returns-clause-constant : goal.returns-clause-constant
returns-clause-constant c =
    let at : slice_get c.self.inside.nodes.keys c.args.id.0 ≡ Some c.unwrap-entry.result.now = grind (arith, common_steps) in
    c.constant_of.ensures
    ∙ constant_is c.self.inside.nodes.keys c.args.self.now c.args.id.0 c.unwrap-entry.result.now c.self.invariant c.self.view_is at
