use Rattle.std.proofs.Common.{◌≡◌, ℕ, List, Result, Ok, length, sym, ap, subst}
use Rattle.design_core.specs.DesignView.{design_of}
use Rattle.net_core.specs.Nets.{NetParts}
use Rattle.stim_text.specs.Stimulus.{Stimulus}
use Rattle.stim_text.specs.declared.StimFault.{StimFault}
use Rattle.design_judge.specs.Judging.{IsWhole, JudgesRows}
use Rattle.sim_hist.specs.Run.{Traced, run_samples}
use Rattle.trace_world.specs.Fitting.{FitsTable}
use Rattle.trim_laws.proofs.Fitted.{simulated_fit}
use Rattle.trail_net.proofs.Called.{inputs_are_ports}
use Rattle.show_net.specs.Readied.{TellsRuns}
use Rattle.show_net.proofs.Readying.{readied, inputs_of}
use Rattle.show_net.proofs.service.ready_for.Goals as goal

pub trace_of-requires : goal.trace_of-requires
trace_of-requires c =
    let found : IsWhole c.args.service.now.accepted.ports (Ok c.in-Ok.stim) = subst (λ (r : Result Stimulus StimFault). IsWhole c.args.service.now.accepted.ports r) c.in-Ok.is c.in_ok-stim.ensures.whole in
    let shows = c.requires.shows.1 in
    record {
      inputs = inputs_are_ports (design_of c.args.service.now.accepted.design) (length c.args.service.now.accepted.order) c.args.service.now.mode c.in_ok-net-in-Ok.field-0.net c.in_ok-net-in-Ok.field-0.table c.in-Ok.stim.ports shows.kept.sound c.in_ok-net-in-Ok.ensures.ok
          (inputs_of c.args.service.now c.requires.shows.0 c.in-Ok.stim.ports shows found.0);
    }

pub returns-clause-fits : goal.returns-clause-fits
returns-clause-fits c =
    let found : IsWhole c.args.service.now.accepted.ports (Ok c.in-Ok.stim) = subst (λ (r : Result Stimulus StimFault). IsWhole c.args.service.now.accepted.ports r) c.in-Ok.is c.in_ok-stim.ensures.whole in
    let net : c.in_ok-trace-in-Ok.trace.net ≡ c.in_ok-net-in-Ok.field-0.net = ap (λ (t : Traced). t.net) c.in_ok-trace-in-Ok.ensures.ok in
    let stim : c.in_ok-trace-in-Ok.trace.stim ≡ c.in-Ok.stim = ap (λ (t : Traced). t.stim) c.in_ok-trace-in-Ok.ensures.ok in
    let fit : FitsTable c.in_ok-net-in-Ok.field-0.table (run_samples c.in_ok-net-in-Ok.field-0.net c.in-Ok.stim) =
    simulated_fit (design_of c.args.service.now.accepted.design) (length c.args.service.now.accepted.order) c.args.service.now.mode c.in_ok-net-in-Ok.field-0.net c.in_ok-net-in-Ok.field-0.table c.in-Ok.stim c.in_ok-net-in-Ok.ensures.ok found.1 in
    subst (λ (n : NetParts). FitsTable c.in_ok-net-in-Ok.field-0.table (run_samples n c.in_ok-trace-in-Ok.trace.stim)) (sym net)
    (subst (λ (s : Stimulus). FitsTable c.in_ok-net-in-Ok.field-0.table (run_samples c.in_ok-net-in-Ok.field-0.net s)) (sym stim) fit)

pub returns-clause-tells : goal.returns-clause-tells
returns-clause-tells c =
    let found : IsWhole c.args.service.now.accepted.ports (Ok c.in-Ok.stim) = subst (λ (r : Result Stimulus StimFault). IsWhole c.args.service.now.accepted.ports r) c.in-Ok.is c.in_ok-stim.ensures.whole in
    let rows : JudgesRows c.args.service.now.stimulus.items c.args.service.now.accepted.ports (Ok c.in-Ok.stim) =
    subst (λ (text : List ℕ). JudgesRows text c.args.service.now.accepted.ports (Ok c.in-Ok.stim)) c.deref.ensures.value
    (subst (λ (r : Result Stimulus StimFault). JudgesRows c.deref.result.now c.args.service.now.accepted.ports r) c.in-Ok.is c.in_ok-stim.ensures.rows) in
    let net : c.in_ok-trace-in-Ok.trace.net ≡ c.in_ok-net-in-Ok.field-0.net = ap (λ (t : Traced). t.net) c.in_ok-trace-in-Ok.ensures.ok in
    let stim : c.in_ok-trace-in-Ok.trace.stim ≡ c.in-Ok.stim = ap (λ (t : Traced). t.stim) c.in_ok-trace-in-Ok.ensures.ok in
    λ over shows.
    subst (λ (n : NetParts). TellsRuns over c.in_ok-net-in-Ok.field-0.table (run_samples n c.in_ok-trace-in-Ok.trace.stim)) (sym net)
    (subst (λ (s : Stimulus). TellsRuns over c.in_ok-net-in-Ok.field-0.table (run_samples c.in_ok-net-in-Ok.field-0.net s)) (sym stim)
    (readied c.args.service.now over c.in_ok-net-in-Ok.field-0.net c.in_ok-net-in-Ok.field-0.table c.in-Ok.stim shows c.in_ok-net-in-Ok.ensures.ok found.1 found.0 rows))
