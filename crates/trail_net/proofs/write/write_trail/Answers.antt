use Rattle.std.proofs.Common.{◌≡◌, ◌≤◌, length, refl, ap, subst, arith}
use Rattle.std.proofs.lemmas.Result.{err_from_is_err_and, on_ok_weaker, on_err_weaker}
use Rattle.io_edge.specs.Taken.{Appends, AppendsFront}
use Rattle.design_core.specs.DesignView.{design_of}
use Rattle.stim_text.specs.Stimulus.{IsStimulus}
use Rattle.sim_hist.specs.Run.{Traced, run_samples}
use Rattle.check_exec.specs.Premises.{IsSound}
use Rattle.world_core.specs.World.{trail_text}
use Rattle.trace_world.specs.TraceWorld.{trace_world}
use Rattle.trail_net.proofs.Called.{inputs_are_ports, as_many_nodes, trail_taken, front_taken, none_taken}
use Rattle.trail_net.proofs.write.write_trail.Goals as goal

pub trace_of-requires : goal.trace_of-requires
trace_of-requires g c =
    let sound : IsSound (design_of c.args.design.now) = record { kept = c.args.design.now.kept; accepted = c.requires.accepted } in
    record { inputs = inputs_are_ports (design_of c.args.design.now) (length c.args.order.now) c.args.mode c.in_ok-net.field-0.net c.in_ok-net.field-0.table c.args.stim.ports sound c.in_ok-net.ensures.ok c.requires.inputs }

pub returns-in_err-trace-clause-front : goal.returns-in_err-trace-clause-front
returns-in_err-trace-clause-front g c =
    let p = err_from_is_err_and c.from_residual-in_err-trace.result c.from_residual-in_err-trace.ensures.1 in
    rw (p.1) (none_taken _ _ _ _ _ _ refl)

pub write_trail-requires : goal.write_trail-requires
write_trail-requires g c =
    let net : c.in_ok-trace.trace.net ≡ c.in_ok-net.field-0.net = ap (λ (t : Traced). t.net) c.in_ok-trace.ensures.ok in
    let many = as_many_nodes (design_of c.args.design.now) (length c.args.order.now) c.args.mode c.in_ok-net.field-0.net c.in_ok-net.field-0.table c.in_ok-net.ensures.ok in
    let fits : length c.in_ok-net.field-0.table.nodes ≤ length c.in_ok-trace.trace.net.nodes = rw (many, net) (grind (arith)) in
    record { nodes = fits }

pub returns-clause-ok : goal.returns-clause-ok
returns-clause-ok g c =
    let sound : IsSound (design_of c.args.design.now) = record { kept = c.args.design.now.kept; accepted = c.requires.accepted } in
    let net : c.in_ok-trace.trace.net ≡ c.in_ok-net.field-0.net = ap (λ (t : Traced). t.net) c.in_ok-trace.ensures.ok in
    let stim : c.in_ok-trace.trace.stim ≡ c.args.stim = ap (λ (t : Traced). t.stim) c.in_ok-trace.ensures.ok in
    let text : trail_text (trace_world c.in_ok-net.field-0.table (run_samples c.in_ok-trace.trace.net c.in_ok-trace.trace.stim)) ≡ trail_text (trace_world c.in_ok-net.field-0.table (run_samples c.in_ok-net.field-0.net c.args.stim)) =
    (λ i. trail_text (trace_world c.in_ok-net.field-0.table (run_samples (net i) (stim i)))) in
    on_ok_weaker c.write_trail.result (λ taken. trail_taken (design_of c.args.design.now) c.args.order.now c.args.mode c.in_ok-net.field-0.net c.in_ok-net.field-0.table c.args.stim sound c.requires.order c.in_ok-net.ensures.ok (subst IsStimulus c.stim.view_is c.stim.invariant.0) c.requires.inputs
    (g.S.Sink.taken c.args.out.now) (g.S.Sink.taken c.write_trail.new.out) (subst (Appends (g.S.Sink.taken c.args.out.now) (g.S.Sink.taken c.write_trail.new.out)) text taken)) c.write_trail.ensures.ok

pub returns-clause-front : goal.returns-clause-front
returns-clause-front g c =
    let sound : IsSound (design_of c.args.design.now) = record { kept = c.args.design.now.kept; accepted = c.requires.accepted } in
    let net : c.in_ok-trace.trace.net ≡ c.in_ok-net.field-0.net = ap (λ (t : Traced). t.net) c.in_ok-trace.ensures.ok in
    let stim : c.in_ok-trace.trace.stim ≡ c.args.stim = ap (λ (t : Traced). t.stim) c.in_ok-trace.ensures.ok in
    let text : trail_text (trace_world c.in_ok-net.field-0.table (run_samples c.in_ok-trace.trace.net c.in_ok-trace.trace.stim)) ≡ trail_text (trace_world c.in_ok-net.field-0.table (run_samples c.in_ok-net.field-0.net c.args.stim)) =
    (λ i. trail_text (trace_world c.in_ok-net.field-0.table (run_samples (net i) (stim i)))) in
    on_err_weaker c.write_trail.result (λ taken. front_taken (design_of c.args.design.now) c.args.order.now c.args.mode c.in_ok-net.field-0.net c.in_ok-net.field-0.table c.args.stim sound c.requires.order c.in_ok-net.ensures.ok (subst IsStimulus c.stim.view_is c.stim.invariant.0) c.requires.inputs
    (g.S.Sink.taken c.args.out.now) (g.S.Sink.taken c.write_trail.new.out) (subst (AppendsFront (g.S.Sink.taken c.args.out.now) (g.S.Sink.taken c.write_trail.new.out)) text taken)) c.write_trail.ensures.front
