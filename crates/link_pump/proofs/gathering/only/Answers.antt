use Rattle.std.proofs.Common.{rules}
use Rattle.link_pump.proofs.Joining.{only_one}
use Rattle.link_pump.proofs.gathering.only.Goals as goal

pub returns : goal.returns
returns c = only_one c.args.texts.items c.pop.new.self.items c.pop.result _ _ _ c.pop.ensures.items c.pop.ensures.cases (search rules) c.requires
