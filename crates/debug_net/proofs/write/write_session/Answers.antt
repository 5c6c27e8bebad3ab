use Rattle.std.proofs.Common.{◌≡◌, length, refl, sym, ap, subst}
use Rattle.std.proofs.lemmas.Result.{err_from_is_err_and, on_ok_weaker, on_err_weaker}
use Rattle.design_core.specs.DesignView.{design_of}
use Rattle.net_core.specs.Nets.{NetParts}
use Rattle.stim_text.specs.Stimulus.{Stimulus, IsStimulus}
use Rattle.sim_hist.specs.Run.{Traced, run_samples}
use Rattle.check_exec.specs.Premises.{IsSound}
use Rattle.trace_world.specs.TraceWorld.{trace_world}
use Rattle.trace_world.specs.Fitting.{FitsTable}
use Rattle.trim_laws.proofs.Fitted.{simulated_fit}
use Rattle.trail_net.proofs.Called.{inputs_are_ports}
use Rattle.debug_net.proofs.Called.{session_taken, front_taken, none_taken}
use Rattle.debug_net.proofs.write.write_session.Goals as goal

pub trace_of-requires : goal.trace_of-requires
trace_of-requires g c =
    let sound : IsSound (design_of c.args.design.now) = record { kept = c.args.design.now.kept; accepted = c.requires.accepted } in
    record { inputs = inputs_are_ports (design_of c.args.design.now) (length c.args.order.now) c.args.mode c.in_ok-net.field-0.net c.in_ok-net.field-0.table c.args.script.stim.ports sound c.in_ok-net.ensures.ok c.requires.inputs }

pub returns-in_err-trace-clause-front : goal.returns-in_err-trace-clause-front
returns-in_err-trace-clause-front g c =
    let p = err_from_is_err_and c.from_residual-in_err-trace.result c.from_residual-in_err-trace.ensures.1 in
    rw (p.1) (none_taken _ _ _ _ _ _ _ _ refl)

pub write_batch-requires-clause-fits : goal.write_batch-requires-clause-fits
write_batch-requires-clause-fits g c =
    let net : c.in_ok-trace.trace.net ≡ c.in_ok-net.field-0.net = ap (λ (t : Traced). t.net) c.in_ok-trace.ensures.ok in
    let stim : c.in_ok-trace.trace.stim ≡ c.args.script.stim = ap (λ (t : Traced). t.stim) c.in_ok-trace.ensures.ok in
    let kept : IsStimulus c.args.script.stim = subst IsStimulus c.stim.view_is c.stim.invariant.0 in
    let fit : FitsTable c.in_ok-net.field-0.table (run_samples c.in_ok-net.field-0.net c.args.script.stim) =
    simulated_fit (design_of c.args.design.now) (length c.args.order.now) c.args.mode c.in_ok-net.field-0.net c.in_ok-net.field-0.table c.args.script.stim c.in_ok-net.ensures.ok kept in
    subst (λ (n : NetParts). FitsTable c.in_ok-net.field-0.table (run_samples n c.in_ok-trace.trace.stim)) (sym net)
    (subst (λ (s : Stimulus). FitsTable c.in_ok-net.field-0.table (run_samples c.in_ok-net.field-0.net s)) (sym stim) fit)

pub returns-clause-ok : goal.returns-clause-ok
returns-clause-ok g c =
    let sound : IsSound (design_of c.args.design.now) = record { kept = c.args.design.now.kept; accepted = c.requires.accepted } in
    let net : c.in_ok-trace.trace.net ≡ c.in_ok-net.field-0.net = ap (λ (t : Traced). t.net) c.in_ok-trace.ensures.ok in
    let stim : c.in_ok-trace.trace.stim ≡ c.args.script.stim = ap (λ (t : Traced). t.stim) c.in_ok-trace.ensures.ok in
    let kept : IsStimulus c.args.script.stim = subst IsStimulus c.stim.view_is c.stim.invariant.0 in
    on_ok_weaker c.write_batch.result
    (λ h. session_taken (design_of c.args.design.now) c.args.order.now c.args.mode c.in_ok-net.field-0.net c.in_ok-net.field-0.table c.args.script.stim sound c.requires.order c.in_ok-net.ensures.ok kept c.requires.inputs
    _ (λ i. trace_world c.in_ok-net.field-0.table (run_samples (net i) (stim i))) _ c.args.script.requests.now _ _ h) c.write_batch.ensures.ok

pub returns-clause-front : goal.returns-clause-front
returns-clause-front g c =
    let sound : IsSound (design_of c.args.design.now) = record { kept = c.args.design.now.kept; accepted = c.requires.accepted } in
    let net : c.in_ok-trace.trace.net ≡ c.in_ok-net.field-0.net = ap (λ (t : Traced). t.net) c.in_ok-trace.ensures.ok in
    let stim : c.in_ok-trace.trace.stim ≡ c.args.script.stim = ap (λ (t : Traced). t.stim) c.in_ok-trace.ensures.ok in
    let kept : IsStimulus c.args.script.stim = subst IsStimulus c.stim.view_is c.stim.invariant.0 in
    on_err_weaker c.write_batch.result
    (λ h. front_taken (design_of c.args.design.now) c.args.order.now c.args.mode c.in_ok-net.field-0.net c.in_ok-net.field-0.table c.args.script.stim sound c.requires.order c.in_ok-net.ensures.ok kept c.requires.inputs
    _ (λ i. trace_world c.in_ok-net.field-0.table (run_samples (net i) (stim i))) _ c.args.script.requests.now _ _ h) c.write_batch.ensures.front

pub returns-clause-compiled : goal.returns-clause-compiled
returns-clause-compiled g c = on_ok_weaker c.write_batch.result (λ taken. (c.in_ok-net.field-0.net, c.in_ok-net.field-0.table, c.in_ok-net.ensures.ok)) c.write_batch.ensures.ok
