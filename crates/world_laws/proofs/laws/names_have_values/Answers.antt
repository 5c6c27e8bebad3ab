use Rattle.world_laws.proofs.Valued.{source_has_values, source_is_known}
use Rattle.world_laws.proofs.laws.names_have_values.Goals as goal

pub returns-clause-values : goal.returns-clause-values
returns-clause-values c = source_has_values

pub returns-clause-known : goal.returns-clause-known
returns-clause-known c = source_is_known
