use Rattle.std.proofs.Common.{ℕ, Option, ap}
use Rattle.exec_core.specs.Block.{Name}
use Rattle.dep_order.specs.Blocks.{flat}
use Rattle.dep_order.proofs.maps.VersionMap.new.Goals as goal

pub returns : goal.returns
returns c = ap {B = Name → Option ℕ} (λ f y. flat (f y)) c.new.ensures
