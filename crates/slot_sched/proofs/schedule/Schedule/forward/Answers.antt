use Rattle.std.proofs.Common.{◌≡◌, ℕ, ◌+◌, ◌-◌, ◌<◌, ◌≤◌, true, false, find, sym, ap, ◌∙◌, subst, arith}
use Rattle.list_core.specs.Lists.{from}
use Rattle.trace_core.specs.Samples.{Samples}
use Rattle.slot_sched.specs.Spots.{IsSpot}
use Rattle.slot_sched.specs.Scan.{position_stops}
use Rattle.site_core.proofs.Nearest.{up_here, up_over}
use Rattle.slot_sched.proofs.schedule.Schedule.forward.Goals as goal

pub returns-then-passed-eq0-clause-value : goal.returns-then-passed-eq0-clause-value
returns-then-passed-eq0-clause-value g c =
    let here : position_stops c.args.table.now (g.T.Trace.samples c.args.trace.now) c.args.self.now.armed.items c.args.want c.loop-spot.spot.position ≡ true =
    subst (λ (s : Samples). position_stops c.args.table.now s c.args.self.now.armed.items c.args.want c.loop-spot.spot.position ≡ true) c.loop-spot.invariant.0 (c.look_up-passed.ensures.here c.if-passed-eq0.true) in
    sym (c.loop-spot.invariant.1 ∙ up_here (position_stops c.args.table.now (g.T.Trace.samples c.args.trace.now) c.args.self.now.armed.items c.args.want) c.loop-spot.spot.position c.args.end c.loop-spot-test.true here)

pub loop-spot-preserved : goal.loop-spot-preserved
loop-spot-preserved g c =
    let some = c.if-passed-eq0.false in
    let up = c.up.ensures.position in
    let next = c.next-spot.ensures.position in
    let at : c.loop-spot.spot.position + c.look_up-passed.result ≡ c.next-spot.result.position = grind (arith, some, up, next) in
    let none : (p : ℕ) → c.loop-spot.spot.position ≤ p → p < c.loop-spot.spot.position + c.look_up-passed.result
    → position_stops c.args.table.now (g.T.Trace.samples c.args.trace.now) c.args.self.now.armed.items c.args.want p ≡ false =
    λ p low high. subst (λ (s : Samples). position_stops c.args.table.now s c.args.self.now.armed.items c.args.want p ≡ false) c.loop-spot.invariant.0 (c.look_up-passed.ensures.none p low high) in (
      c.look_up-passed.ensures.kept ∙ c.loop-spot.invariant.0,
      c.loop-spot.invariant.1
          ∙ up_over (position_stops c.args.table.now (g.T.Trace.samples c.args.trace.now) c.args.self.now.armed.items c.args.want) c.loop-spot.spot.position c.args.end c.look_up-passed.result none
          ∙ ap (λ p. find (position_stops c.args.table.now (g.T.Trace.samples c.args.trace.now) c.args.self.now.armed.items c.args.want) (from p (c.args.end - p))) at,
      c.look_up-passed.ensures.set,
      subst (λ (n : ℕ). IsSpot n c.next-spot.result) c.slots-slots.ensures c.next-spot.ensures.spot,
    )
