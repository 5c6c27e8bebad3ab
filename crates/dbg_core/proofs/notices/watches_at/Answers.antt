use Rattle.std.proofs.Common.{rules, ◌≡◌, ◌<◌, ◌≤◌, length, map, sym, ap, ◌∙◌, subst}
use Rattle.std.specs.Prelude.{slice_get}
use Rattle.trace_core.specs.Samples.{Samples}
use Rattle.machine_core.specs.Matching.{Watch, watches_at}
use Rattle.watch.specs.Watching.{watches}
use Rattle.dbg_core.specs.World.{world_of}
use Rattle.dbg_core.proofs.Told.{copied_more}
use Rattle.dbg_core.proofs.Watches.{none_at_slot, none_in_cycle}
use Rattle.dbg_core.proofs.notices.watches_at.Goals as goal

pub returns-then-slot-slots-clause-numbers : goal.returns-then-slot-slots-clause-numbers
returns-then-slot-slots-clause-numbers g c = λ m same.
    let past : length c.args.table.now.slots ≤ c.args.slot = search rules in
    c.new-numbers.ensures.items ∙ sym (none_at_slot c.args.table.now (g.T.Trace.samples c.args.trace.now) c.args.cycle c.args.slot m.watches past)

pub returns-then-cycle-cycles-clause-numbers : goal.returns-then-cycle-cycles-clause-numbers
returns-then-cycle-cycles-clause-numbers g c = λ m same.
    let past : (g.T.Trace.samples c.args.trace.now).cycles ≤ c.args.cycle = search rules in
    c.new-numbers.ensures.items ∙ sym (none_in_cycle c.args.table.now (g.T.Trace.samples c.args.trace.now) c.args.cycle c.args.slot m.watches past)

pub nth_matching_at-requires-clause-there : goal.nth_matching_at-requires-clause-there
nth_matching_at-requires-clause-there g c =
    subst (λ (x : Samples). c.loop-i.i < length (watches_at (world_of c.args.table.now x) c.args.cycle c.args.slot (watches c.args.watch.now))) (sym c.loop-i.invariant.0)
    (subst (λ n. c.loop-i.i < n) c.matching_at-i-end.ensures.value c.loop-i-test.true)

pub loop-i-preserved : goal.loop-i-preserved
loop-i-preserved g c =
    let s = g.T.Trace.samples c.args.trace.now in (
      c.nth_matching_at.ensures.kept ∙ c.loop-i.invariant.0,
      copied_more (map (λ (watch : Watch). watch.number) (watches_at (world_of c.args.table.now s) c.args.cycle c.args.slot (watches c.args.watch.now))) c.loop-i.numbers.items c.push.new.self.items c.loop-i.i
          c.nth_matching_at.result
          (ap (λ (x : Samples). slice_get (map (λ (watch : Watch). watch.number) (watches_at (world_of c.args.table.now x) c.args.cycle c.args.slot (watches c.args.watch.now))) c.loop-i.i) (sym c.loop-i.invariant.0)
          ∙ c.nth_matching_at.ensures.value) c.loop-i.invariant.1 c.in_ok-push.ensures.items,
    )
