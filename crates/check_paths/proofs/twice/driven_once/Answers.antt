use Rattle.std.proofs.Common.{subst, map}
use Rattle.design_core.specs.View.{block_of}
use Rattle.check_core.specs.Faults.{Tells}
use Rattle.check_core.specs.Drivers.{Lines, driven_twice}
use Rattle.check_paths.proofs.twice.driven_once.Goals as goal

pub returns : goal.returns
returns c = subst (λ (k : Lines). Tells c.driven_among.result (driven_twice k (map block_of c.args.blocks.now))) c.new-lines.ensures c.driven_among.ensures
