use Rattle.std.proofs.Common.{◌∙◌}
use Rattle.hub_core.proofs.Telling.{told_none}
use Rattle.hub_core.proofs.hub.tell_all.Goals as goal

pub returns-in-None : goal.returns-in-None
returns-in-None c = rw c.in-None.is (c.new.ensures.items ∙ told_none 0 c.args.here.now)
