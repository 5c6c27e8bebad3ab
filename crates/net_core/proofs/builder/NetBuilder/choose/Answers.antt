use Rattle.std.proofs.Common.{◌==◌, refl}
use Rattle.net_core.specs.Outcomes.{outcome_of}
use Rattle.net_core.proofs.Applying.{folds_mux}
use Rattle.net_core.proofs.builder.NetBuilder.choose.Goals as goal

pub settle-requires-clause-folds : goal.settle-requires-clause-folds
settle-requires-clause-folds c =
    folds_mux c.args.self.now c.constant_at-condition.ensures.shared (outcome_of c.mux_outcome-outcome.result) c.args.c.0 c.args.a.0 c.args.b.0 _ _ _ (c.args.a.0 == c.args.b.0)
    c.requires.condition c.requires.first c.requires.second
    c.constant_at-condition.ensures.constant c.constant_at-first.ensures.constant c.constant_at-second.ensures.constant
    refl c.mux_outcome-outcome.ensures
