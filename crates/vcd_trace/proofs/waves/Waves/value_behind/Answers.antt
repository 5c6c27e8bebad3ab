use Rattle.std.proofs.Common.{◌-◌, arith}
use Rattle.vcd_trace.proofs.Ordered.{fits_there}
use Rattle.vcd_trace.proofs.waves.Waves.value_behind.Goals as goal

pub given-requires-clause-fits : goal.given-requires-clause-fits
given-requires-clause-fits c =
    fits_there c.args.self.now c.args.found c.args.places.now (c.args.front - 1) c.requires.kept c.requires.sampled c.requires.places (omega (arith, c.requires.within, c.if-front-eq0.false))
