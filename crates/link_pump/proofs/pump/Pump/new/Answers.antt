use Rattle.std.proofs.Common.{rules, None, refl}
use Rattle.link_pump.proofs.Pumping.{outlet_fresh, pump_fresh}
use Rattle.link_pump.proofs.pump.Pump.new.Goals as goal

pub returns-clause-began : goal.returns-clause-began
returns-clause-began g c =
    pump_fresh _ _ c.requires.0 c.requires.1 refl refl refl refl (outlet_fresh _ (record { link = c.args.link; sent = c.new.result; unsent = c.new-2.result; over = None }) (search rules) (search rules) refl)
