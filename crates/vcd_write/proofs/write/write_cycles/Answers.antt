use Rattle.std.proofs.Common.{◌≡◌, ◌+◌, ◌<◌, ◌≤◌, ◌++◌, List, ℕ, length, sym, ap, ap₂, ◌∙◌, subst, arith}
use Rattle.std.proofs.lemmas.Result.{err_from_is_err_and}
use Rattle.io_edge.specs.Taken.{AppendsFront}
use Rattle.io_edge.specs.Waiting.{Passes}
use Rattle.io_edge.proofs.Passing.{more_passes, front_passes}
use Rattle.net_core.specs.Nets.{NetParts}
use Rattle.stim_text.specs.Stimulus.{Stimulus}
use Rattle.verilog_out.proofs.Numbers.{number_next, number_of}
use Rattle.vcd_write.specs.Run.{shown_of, row_of}
use Rattle.vcd_write.specs.Written.{AreNodes, cycle_text}
use Rattle.vcd_write.proofs.write.write_cycles.Goals as goal

pub write_cycle-requires-clause-shown : goal.write_cycle-requires-clause-shown
write_cycle-requires-clause-shown g c = c.requires.shown ∙ ap shown_of (sym c.loop-cycle.invariant.net)

pub write_cycle-requires-clause-nodes : goal.write_cycle-requires-clause-nodes
write_cycle-requires-clause-nodes g c = subst (λ (net : NetParts). AreNodes (length net.nodes) c.args.nodes.now) (sym c.loop-cycle.invariant.net) c.requires.nodes

pub write_cycle-requires-clause-values : goal.write_cycle-requires-clause-values
write_cycle-requires-clause-values g c =
    let inside : c.loop-cycle.cycle < length c.args.trace.now.stim.rows = omega (arith, c.cycles-cycle-end.ensures, c.loop-cycle-test.true) in
    c.loop-cycle.invariant.values inside ∙ ap₂ (λ (net : NetParts) (s : Stimulus). row_of net s c.loop-cycle.cycle) (sym c.loop-cycle.invariant.net) (sym c.loop-cycle.invariant.stim)

pub write_cycle-requires-clause-cycle : goal.write_cycle-requires-clause-cycle
write_cycle-requires-clause-cycle g c =
    let inside : c.loop-cycle.cycle < length c.args.trace.now.stim.rows = omega (arith, c.cycles-cycle-end.ensures, c.loop-cycle-test.true) in
    subst (λ (s : Stimulus). c.loop-cycle.cycle < length s.rows) (sym c.loop-cycle.invariant.stim) inside

pub write_cycle-requires-clause-few : goal.write_cycle-requires-clause-few
write_cycle-requires-clause-few g c = subst (λ (s : Stimulus). length s.rows ≤ 1000000) (sym c.loop-cycle.invariant.stim) c.requires.few

pub returns-in_err-write_cycle-clause-front : goal.returns-in_err-write_cycle-clause-front
returns-in_err-write_cycle-clause-front g c =
    let p = err_from_is_err_and c.from_residual.result c.from_residual.ensures.1 in
    let f = cycle_text c.args.trace.now.net c.args.trace.now.stim in
    let inside : c.loop-cycle.cycle < length c.args.trace.now.stim.rows = omega (arith, c.cycles-cycle-end.ensures, c.loop-cycle-test.true) in
    let piece = ap₂ (λ (net : NetParts) (s : Stimulus). cycle_text net s c.loop-cycle.cycle) c.loop-cycle.invariant.net c.loop-cycle.invariant.stim in
    let front = subst (λ (l : List ℕ). AppendsFront (g.S.Sink.taken c.loop-cycle.out) (g.S.Sink.taken c.write_cycle.new.out) (c.loop-cycle.text.items ++ l)) piece c.in_err-write_cycle.ensures.front in
    let behind = number_of f c.loop-cycle.cycle (length c.args.trace.now.stim.rows) inside in
    rw (p.1) (front_passes _ _ _ _ _ _ _ _ _ behind.is c.loop-cycle.invariant.passes front)

pub loop-cycle-preserved : goal.loop-cycle-preserved
loop-cycle-preserved g c =
    let f = cycle_text c.args.trace.now.net c.args.trace.now.stim in
    let piece = ap₂ (λ (net : NetParts) (s : Stimulus). cycle_text net s c.loop-cycle.cycle) c.loop-cycle.invariant.net c.loop-cycle.invariant.stim in
    let ok = subst (λ (l : List ℕ). Passes (g.S.Sink.taken c.loop-cycle.out) (g.S.Sink.taken c.write_cycle.new.out) c.loop-cycle.text.items c.write_cycle.new.text.items l) piece c.in_ok-write_cycle.ensures.ok in
    record {
      passes = more_passes _ _ _ _ _ _ _ _ _ (number_next f c.loop-cycle.cycle) c.loop-cycle.invariant.passes ok;
      net = c.in_ok-write_cycle.ensures.net ∙ c.loop-cycle.invariant.net;
      stim = c.in_ok-write_cycle.ensures.stim ∙ c.loop-cycle.invariant.stim;
      values = λ l.
          c.in_ok-write_cycle.ensures.values (subst (λ (s : Stimulus). c.loop-cycle.cycle + 1 < length s.rows) (sym c.loop-cycle.invariant.stim) l)
          ∙ ap₂ (λ (net : NetParts) (s : Stimulus). row_of net s (c.loop-cycle.cycle + 1)) c.loop-cycle.invariant.net c.loop-cycle.invariant.stim;
      later = omega (arith, c.in_ok-write_cycle.ensures.later);
    }
