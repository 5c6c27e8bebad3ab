use Rattle.std.proofs.Common.{◌≡◌, None, arith}
use Rattle.names.specs.Maps.{value_of}
use Rattle.std.proofs.lemmas.Grind.{common_steps}
use Rattle.vcd_trace.proofs.Finding.{added}
use Rattle.vcd_trace.proofs.signals.put_first.Goals as goal

pub returns-in_ok-put : goal.returns-in_ok-put
returns-in_ok-put c =
    let none : value_of c.args.map.now c.args.name.now ≡ None = grind (arith, common_steps) in
    added (value_of c.args.map.now) (value_of c.put.new.self) c.args.name.now c.args.found none c.in_ok-put.ensures.ok
