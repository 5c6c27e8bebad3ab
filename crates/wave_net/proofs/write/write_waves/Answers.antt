use Rattle.std.proofs.Common.{◌≡◌, List, ℕ, length, refl, sym, ap, subst, ◌∙◌}
use Rattle.std.proofs.lemmas.Result.{err_from_is_err_and, on_ok_weaker, on_err_weaker}
use Rattle.io_edge.specs.Taken.{Appends, AppendsFront}
use Rattle.io_edge.proofs.Growth.{no_growth}
use Rattle.design_core.specs.DesignView.{design_of}
use Rattle.net_core.specs.Nets.{NetParts}
use Rattle.stim_text.specs.Stimulus.{Stimulus}
use Rattle.sim_hist.specs.Run.{Traced}
use Rattle.check_exec.specs.Premises.{IsSound}
use Rattle.trim_core.specs.KeptNet.{kept_net}
use Rattle.verilog_out.specs.Printed.{FitsPorts}
use Rattle.verilog_net.proofs.Fits.{fits_ports}
use Rattle.trail_net.proofs.Called.{inputs_are_ports}
use Rattle.vcd_write.specs.Run.{waves_text}
use Rattle.wave_net.proofs.Alike.{compiled_waves}
use Rattle.wave_net.proofs.write.write_waves.Goals as goal

pub trace_of-requires : goal.trace_of-requires
trace_of-requires g c =
    let sound : IsSound (design_of c.args.design.now) = record { kept = c.args.design.now.kept; accepted = c.requires.accepted } in
    record { inputs = inputs_are_ports (design_of c.args.design.now) (length c.args.order.now) c.args.mode c.in_ok-net.field-0.net c.in_ok-net.field-0.table c.args.stim.ports sound c.in_ok-net.ensures.ok c.requires.ports.inputs }

pub write_vcd-requires : goal.write_vcd-requires
write_vcd-requires g c =
    let sound : IsSound (design_of c.args.design.now) = record { kept = c.args.design.now.kept; accepted = c.requires.accepted } in
    let net : c.in_ok-trace.trace.net ≡ c.in_ok-net.field-0.net = ap (λ (t : Traced). t.net) c.in_ok-trace.ensures.ok in
    let stim : c.in_ok-trace.trace.stim ≡ c.args.stim = ap (λ (t : Traced). t.stim) c.in_ok-trace.ensures.ok in
    let fits : FitsPorts c.in_ok-net.field-0.net c.args.stim.ports = fits_ports (design_of c.args.design.now) (length c.args.order.now) c.args.mode c.in_ok-net.field-0.net c.args.stim.ports sound c.in_ok-net.ensures.ok.is_kept c.requires.ports in
    subst (λ (v : NetParts). FitsPorts v c.in_ok-trace.trace.stim.ports) (sym net) (subst (λ (s : Stimulus). FitsPorts c.in_ok-net.field-0.net s.ports) (sym stim) fits)

pub returns-in_err-trace-clause-front : goal.returns-in_err-trace-clause-front
returns-in_err-trace-clause-front g c =
    let p = err_from_is_err_and c.from_residual-in_err-trace.result c.from_residual-in_err-trace.ensures.1 in
    rw (p.1) (no_growth _ _ _ refl)

pub returns-clause-ok : goal.returns-clause-ok
returns-clause-ok g c =
    let sound : IsSound (design_of c.args.design.now) = record { kept = c.args.design.now.kept; accepted = c.requires.accepted } in
    let net : c.in_ok-trace.trace.net ≡ c.in_ok-net.field-0.net = ap (λ (t : Traced). t.net) c.in_ok-trace.ensures.ok in
    let stim : c.in_ok-trace.trace.stim ≡ c.args.stim = ap (λ (t : Traced). t.stim) c.in_ok-trace.ensures.ok in
    let text : waves_text c.in_ok-trace.trace.net c.in_ok-trace.trace.stim ≡ waves_text (kept_net (design_of c.args.design.now) (length c.args.order.now) c.args.mode) c.args.stim =
    (λ i. waves_text (net i) (stim i)) ∙ compiled_waves (design_of c.args.design.now) (length c.args.order.now) c.args.mode c.in_ok-net.field-0.net c.args.stim sound c.in_ok-net.ensures.ok.is_kept in
    on_ok_weaker c.write_vcd.result (λ taken. subst (λ (l : List ℕ). Appends (g.S.Sink.taken c.args.out.now) (g.S.Sink.taken c.write_vcd.new.out) l) text taken) c.write_vcd.ensures.ok

pub returns-clause-front : goal.returns-clause-front
returns-clause-front g c =
    let sound : IsSound (design_of c.args.design.now) = record { kept = c.args.design.now.kept; accepted = c.requires.accepted } in
    let net : c.in_ok-trace.trace.net ≡ c.in_ok-net.field-0.net = ap (λ (t : Traced). t.net) c.in_ok-trace.ensures.ok in
    let stim : c.in_ok-trace.trace.stim ≡ c.args.stim = ap (λ (t : Traced). t.stim) c.in_ok-trace.ensures.ok in
    let text : waves_text c.in_ok-trace.trace.net c.in_ok-trace.trace.stim ≡ waves_text (kept_net (design_of c.args.design.now) (length c.args.order.now) c.args.mode) c.args.stim =
    (λ i. waves_text (net i) (stim i)) ∙ compiled_waves (design_of c.args.design.now) (length c.args.order.now) c.args.mode c.in_ok-net.field-0.net c.args.stim sound c.in_ok-net.ensures.ok.is_kept in
    on_err_weaker c.write_vcd.result (λ taken. subst (λ (l : List ℕ). AppendsFront (g.S.Sink.taken c.args.out.now) (g.S.Sink.taken c.write_vcd.new.out) l) text taken) c.write_vcd.ensures.front

pub returns-clause-compiled : goal.returns-clause-compiled
returns-clause-compiled g c = on_ok_weaker c.write_vcd.result (λ taken. (c.in_ok-net.field-0.net, c.in_ok-net.field-0.table, c.in_ok-net.ensures.ok)) c.write_vcd.ensures.ok
