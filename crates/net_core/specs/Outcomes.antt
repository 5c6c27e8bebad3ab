-- What the code answers for what folding makes of a node.
use Rattle.tree_core.specs.Fold as tree
use Rattle.net_core.specs.declared.outcome.Outcome.{Outcome}
use Rattle.net_core.specs.declared.outcome.Outcome.TheVariants.{Value, First, Second, Third, Itself}

abbrev pub outcome_of : Outcome → tree.Outcome
outcome_of (Value v) = tree.Value v
outcome_of First = tree.First
outcome_of Second = tree.Second
outcome_of Third = tree.Third
outcome_of Itself = tree.Itself
