use Rattle.std.proofs.Common.{refl}
use Rattle.std.specs.Fmt.{digits}
use Rattle.net_core.specs.Nodes.{trees_from}
use Rattle.trim_table.proofs.laws.tells_the_sample.Goals as goal

-- by computing
pub returns : goal.returns
unfolding digits trees_from
returns c = refl
