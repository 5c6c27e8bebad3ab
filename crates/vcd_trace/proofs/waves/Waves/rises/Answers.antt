use Rattle.std.proofs.Common.{ℕ, ◌+◌, ◌<◌, List, length, sym, ◌∙◌, subst, rules}
use Rattle.vcd_trace.specs.Kept.{Divides, var_of}
use Rattle.vcd_trace.proofs.Times.{RisesWalked, walked_on}
use Rattle.vcd_trace.proofs.waves.Waves.rises.Goals as goal

pub loop-place-preserved : goal.loop-place-preserved
loop-place-preserved c =
    let within : c.loop-place.place < length c.args.self.now.changes = search rules in
    let divides = subst (λ (t : ℕ). Divides c.args.self.now.changes c.places-places.result.now t c.passed-front.result) (c.from.ensures ∙ c.time.ensures) c.passed-front.ensures in
    subst (λ (ps : List ℕ). RisesWalked c.args.self.now.changes (var_of c.args.clock) c.places-places.result.now c.passed-front.result (c.loop-place.place + 1) ps) (sym c.in_ok-put_if.ensures)
    (walked_on c.args.self.now c.places-places.ensures.kept (var_of c.args.clock) c.places-places.result.now c.passed-front.result c.loop-place.front c.loop-place.place c.loop-place.rises.items
    within divides c.loop-place.invariant c.is_rise_place-rises_here.result c.is_rise_place-rises_here.ensures)
