use Rattle.std.proofs.Common.{refl, ap}
use Rattle.tree_core.specs.Fold as tree
use Rattle.net_core.specs.Outcomes.{outcome_of}
use Rattle.net_core.proofs.Applying.{adds_operand}
use Rattle.net_core.proofs.builder.NetBuilder.settle.Goals as goal

pub returns-in-First-clause-adds : goal.returns-in-First-clause-adds
returns-in-First-clause-adds c =
    adds_operand c.args.self.now (outcome_of c.args.outcome) tree.First c.args.a.0 c.args.b.0 c.args.c.0 c.args.a.0 _ _ c.requires.folds (ap outcome_of c.in-First.is) refl c.requires.first

pub returns-in-Second-clause-adds : goal.returns-in-Second-clause-adds
returns-in-Second-clause-adds c =
    adds_operand c.args.self.now (outcome_of c.args.outcome) tree.Second c.args.a.0 c.args.b.0 c.args.c.0 c.args.b.0 _ _ c.requires.folds (ap outcome_of c.in-Second.is) refl c.requires.second

pub returns-in-Third-clause-adds : goal.returns-in-Third-clause-adds
returns-in-Third-clause-adds c =
    adds_operand c.args.self.now (outcome_of c.args.outcome) tree.Third c.args.a.0 c.args.b.0 c.args.c.0 c.args.c.0 _ _ c.requires.folds (ap outcome_of c.in-Third.is) refl c.requires.third
