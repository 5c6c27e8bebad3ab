use Rattle.std.proofs.Common.{refl}
use Rattle.gen_tree.specs.View.{source_of}
use Rattle.design_judge.proofs.source.read_sources.Goals as goal

pub returns-in_ok-push-in-Ok : goal.returns-in_ok-push-in-Ok
returns-in_ok-push-in-Ok c = rw (c.in_ok-push-in-Ok.ensures.items, c.new-sources.ensures.items) (source_of c.in-Ok.tree, c.in-Ok.ensures.found, refl)
