use Rattle.std.proofs.Common.{◌≡◌, length, sym, ap, subst}
use Rattle.std.proofs.lemmas.Result.{IfOk-weaker}
use Rattle.design_core.specs.DesignView.{design_of}
use Rattle.net_core.specs.Nets.{NetParts}
use Rattle.stim_text.specs.Stimulus.{Stimulus, IsStimulus}
use Rattle.sim_hist.specs.Run.{Traced, run_samples}
use Rattle.check_exec.specs.Premises.{IsSound}
use Rattle.trace_world.specs.TraceWorld.{trace_world}
use Rattle.trace_world.specs.Fitting.{FitsTable}
use Rattle.trim_laws.proofs.Fitted.{simulated_fit}
use Rattle.trail_net.proofs.Called.{inputs_are_ports}
use Rattle.demo_run.proofs.Called.{session_told}
use Rattle.demo_run.proofs.session.count_session.Goals as goal

pub trace_of-requires : goal.trace_of-requires
trace_of-requires g c =
    let sound : IsSound (design_of c.args.design.now) = record { kept = c.args.design.now.kept; accepted = c.requires.accepted } in
    record { inputs = inputs_are_ports (design_of c.args.design.now) (length c.args.order.now) c.args.mode c.in_ok-net.field-0.net c.in_ok-net.field-0.table c.args.script.stim.ports sound c.in_ok-net.ensures.ok c.requires.inputs }

pub count_trace-requires-clause-fits : goal.count_trace-requires-clause-fits
count_trace-requires-clause-fits g c =
    let net : c.in_ok-trace.trace.net ≡ c.in_ok-net.field-0.net = ap (λ (t : Traced). t.net) c.in_ok-trace.ensures.ok in
    let stim : c.in_ok-trace.trace.stim ≡ c.args.script.stim = ap (λ (t : Traced). t.stim) c.in_ok-trace.ensures.ok in
    let kept : IsStimulus c.args.script.stim = subst IsStimulus c.stim.view_is c.stim.invariant.0 in
    let fit : FitsTable c.in_ok-net.field-0.table (run_samples c.in_ok-net.field-0.net c.args.script.stim) =
    simulated_fit (design_of c.args.design.now) (length c.args.order.now) c.args.mode c.in_ok-net.field-0.net c.in_ok-net.field-0.table c.args.script.stim c.in_ok-net.ensures.ok kept in
    subst (λ (n : NetParts). FitsTable c.in_ok-net.field-0.table (run_samples n c.in_ok-trace.trace.stim)) (sym net)
    (subst (λ (s : Stimulus). FitsTable c.in_ok-net.field-0.table (run_samples c.in_ok-net.field-0.net s)) (sym stim) fit)

pub returns : goal.returns
returns g c =
    let sound : IsSound (design_of c.args.design.now) = record { kept = c.args.design.now.kept; accepted = c.requires.accepted } in
    let net : c.in_ok-trace.trace.net ≡ c.in_ok-net.field-0.net = ap (λ (t : Traced). t.net) c.in_ok-trace.ensures.ok in
    let stim : c.in_ok-trace.trace.stim ≡ c.args.script.stim = ap (λ (t : Traced). t.stim) c.in_ok-trace.ensures.ok in
    let kept : IsStimulus c.args.script.stim = subst IsStimulus c.stim.view_is c.stim.invariant.0 in
    IfOk-weaker c.count_trace.result _ _
    (λ summary h. session_told (design_of c.args.design.now) c.args.order.now c.args.mode c.in_ok-net.field-0.net c.in_ok-net.field-0.table c.args.script.stim sound c.requires.order c.in_ok-net.ensures.ok kept c.requires.inputs
    _ (λ i. trace_world c.in_ok-net.field-0.table (run_samples (net i) (stim i))) _ c.args.script.requests.now summary h) c.count_trace.ensures
