use Rattle.std.proofs.Common.{ℕ, sym, ap, ◌∙◌, subst, arith}
use Rattle.std.proofs.lemmas.List.{length-map}
use Rattle.vcd_read.specs.Meaning.{Meaning}
use Rattle.std.proofs.Common.{None}
use Rattle.trace_world.specs.Fitting.{FitsTable}
use Rattle.vcd_samples.specs.Samples.{rises_of}
use Rattle.vcd_trace.specs.Kept.{change_at, times_at, AreFirst, IsSampled, IsTrace, samples_by, var_of}
use Rattle.vcd_trace.proofs.Whole.{clock_sampled, is_trace, samples_are, fits_table}
use Rattle.vcd_trace.proofs.trace.VcdTrace.over.Goals as goal

pub rises-requires : goal.rises-requires
rises-requires c = subst (λ (m : Meaning). IsSampled m c.in_ok-clock.clock) (sym c.in_ok-waves.ensures) (clock_sampled c.args.vcd c.args.table.now c.args.scope.now c.in_ok-clock.clock c.in_ok-clock.signals.items c.in_ok-clock.ensures.bound)

pub invariant_of-result : goal.invariant_of-result
invariant_of-result c =
    subst (λ (m : Meaning). IsTrace m c.in_ok-rises.rises.items c.in_ok-clock.signals.items None) (sym c.in_ok-waves.ensures)
    (is_trace c.args.vcd c.args.table.now c.args.scope.now c.in_ok-clock.clock c.in_ok-clock.signals.items c.in_ok-clock.ensures.bound c.in_ok-rises.rises.items
    (subst (λ (m : Meaning). AreFirst m.changes c.in_ok-rises.rises.items) c.in_ok-waves.ensures c.in_ok-rises.ensures.first))

pub returns-clause-ok : goal.returns-clause-ok
returns-clause-ok c =
    let places = c.in_ok-rises.rises.items in
    ap (λ (m : Meaning). samples_by m.changes (times_at m.changes places) c.in_ok-clock.signals.items) c.in_ok-waves.ensures
    ∙ samples_are c.args.vcd c.args.table.now c.args.scope.now c.in_ok-clock.clock c.in_ok-clock.signals.items c.in_ok-clock.ensures.bound (times_at c.args.vcd.changes places)
    (ap (λ (m : Meaning). times_at m.changes places) (sym c.in_ok-waves.ensures) ∙ c.in_ok-rises.ensures.rises ∙ ap (λ (m : Meaning). rises_of m.changes (var_of c.in_ok-clock.clock)) c.in_ok-waves.ensures)

pub returns-clause-fits : goal.returns-clause-fits
returns-clause-fits c =
    let places = c.in_ok-rises.rises.items in
    let count = length-map places (λ (p : ℕ). (change_at c.args.vcd.changes p).time) in
    subst (λ (m : Meaning). FitsTable c.args.table.now (samples_by m.changes (times_at m.changes places) c.in_ok-clock.signals.items)) (sym c.in_ok-waves.ensures)
    (fits_table c.args.vcd c.args.table.now c.args.scope.now c.in_ok-clock.clock c.in_ok-clock.signals.items c.in_ok-clock.ensures.bound (times_at c.args.vcd.changes places)
    (omega (arith, count, c.in_ok-rises.ensures.few)))
