use Rattle.std.proofs.Common.{◌≡◌, ℕ, ◌+◌, ◌-◌, ◌<◌, ◌≤◌, true, false, find, sym, ap, ◌∙◌, subst, arith}
use Rattle.trace_core.specs.Samples.{Samples}
use Rattle.slot_sched.specs.Spots.{IsSpot}
use Rattle.slot_sched.specs.Scan.{position_stops}
use Rattle.site_core.specs.Positions.{down_from}
use Rattle.site_core.proofs.Nearest.{down_here, down_over}
use Rattle.slot_sched.proofs.schedule.Schedule.backward.Goals as goal

pub returns-then-passed-eq0-clause-value : goal.returns-then-passed-eq0-clause-value
returns-then-passed-eq0-clause-value g c =
    let next = c.previous-here.ensures.position in
    let test = c.loop-spot-test.true in
    let low : c.args.lowest ≤ c.previous-here.result.position = omega (arith, next, test) in
    let here : position_stops c.args.table.now (g.T.Trace.samples c.args.trace.now) c.args.self.now.armed.items c.args.want c.previous-here.result.position ≡ true =
    subst (λ (s : Samples). position_stops c.args.table.now s c.args.self.now.armed.items c.args.want c.previous-here.result.position ≡ true) c.loop-spot.invariant.0 (c.look_down-passed.ensures.here c.if-passed-eq0.true) in
    sym (c.loop-spot.invariant.1
    ∙ ap (λ p. find (position_stops c.args.table.now (g.T.Trace.samples c.args.trace.now) c.args.self.now.armed.items c.args.want) (down_from p (p - c.args.lowest))) (sym next)
    ∙ down_here (position_stops c.args.table.now (g.T.Trace.samples c.args.trace.now) c.args.self.now.armed.items c.args.want) c.previous-here.result.position c.args.lowest low here)

pub loop-spot-preserved : goal.loop-spot-preserved
loop-spot-preserved g c =
    let some = c.if-passed-eq0.false in
    let down = c.down-spot.ensures.position in
    let next = c.previous-here.ensures.position in
    let below = c.loop-spot.invariant.2 in
    let within : c.look_down-passed.result ≤ c.loop-spot.spot.position = grind (arith, some, down, next) in
    let at : c.loop-spot.spot.position - c.look_down-passed.result ≡ c.down-spot.result.position = grind (arith, some, down, next) in
    let none : (p : ℕ) → p < c.loop-spot.spot.position → c.loop-spot.spot.position ≤ p + c.look_down-passed.result
    → position_stops c.args.table.now (g.T.Trace.samples c.args.trace.now) c.args.self.now.armed.items c.args.want p ≡ false =
    λ p high low. subst (λ (s : Samples). position_stops c.args.table.now s c.args.self.now.armed.items c.args.want p ≡ false) c.loop-spot.invariant.0
    (c.look_down-passed.ensures.none p (omega (arith, high, next)) (omega (arith, low, next))) in (
      c.look_down-passed.ensures.kept ∙ c.loop-spot.invariant.0,
      c.loop-spot.invariant.1
          ∙ down_over (position_stops c.args.table.now (g.T.Trace.samples c.args.trace.now) c.args.self.now.armed.items c.args.want) c.loop-spot.spot.position c.args.lowest c.look_down-passed.result within none
          ∙ ap (λ p. find (position_stops c.args.table.now (g.T.Trace.samples c.args.trace.now) c.args.self.now.armed.items c.args.want) (down_from p (p - c.args.lowest))) at,
      omega (arith, below, at),
      c.look_down-passed.ensures.set,
      subst (λ (n : ℕ). IsSpot n c.down-spot.result) c.slots-slots.ensures c.down-spot.ensures.spot,
    )
