use Rattle.std.proofs.Common.{None}
use Rattle.std.proofs.lemmas.List.{map-set}
use Rattle.dbg_core.proofs.listeners.Listeners.drop_one.Goals as goal

pub returns : goal.returns
returns g c = map-set _ c.args.self.now.boxes.items c.args.k None
