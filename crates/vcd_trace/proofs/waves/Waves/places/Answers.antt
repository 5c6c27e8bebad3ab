use Rattle.std.proofs.Common.{rules, ◌≡◌}
use Rattle.vcd_trace.specs.Kept.{places_of}
use Rattle.vcd_trace.proofs.Ordered.{rising_of}
use Rattle.vcd_trace.proofs.waves.Waves.places.Goals as goal

pub returns-clause-rising : goal.returns-clause-rising
returns-clause-rising c =
    let are : c.places_by.result.now ≡ places_of c.args.code c.args.self.now.changes = search rules in
    rising_of c.args.self.now c.args.code c.places_by.result.now are
