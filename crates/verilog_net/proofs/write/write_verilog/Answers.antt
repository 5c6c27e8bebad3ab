use Rattle.std.proofs.Common.{List, ℕ, length, subst}
use Rattle.std.proofs.lemmas.Result.{on_ok_weaker, on_err_weaker}
use Rattle.io_edge.specs.Taken.{Appends, AppendsFront}
use Rattle.design_core.specs.DesignView.{design_of}
use Rattle.check_exec.specs.Premises.{IsSound}
use Rattle.verilog_net.proofs.Alike.{compiled_text}
use Rattle.verilog_net.proofs.Fits.{fits_ports}
use Rattle.verilog_net.proofs.write.write_verilog.Goals as goal

pub print_net-requires : goal.print_net-requires
print_net-requires g c =
    let sound : IsSound (design_of c.args.design.now) = record { kept = c.args.design.now.kept; accepted = c.requires.accepted } in
    fits_ports (design_of c.args.design.now) (length c.args.order.now) c.args.mode c.in_ok-compiled.compiled.net c.args.ports.now sound c.in_ok-compiled.ensures.ok.is_kept c.requires.ports

pub returns-clause-ok : goal.returns-clause-ok
returns-clause-ok g c =
    let sound : IsSound (design_of c.args.design.now) = record { kept = c.args.design.now.kept; accepted = c.requires.accepted } in
    let text = compiled_text (design_of c.args.design.now) (length c.args.order.now) c.args.mode c.in_ok-compiled.compiled.net c.args.ports.now sound c.in_ok-compiled.ensures.ok.is_kept in
    on_ok_weaker c.print_net.result (λ taken. subst (λ (l : List ℕ). Appends (g.S.Sink.taken c.args.out.now) (g.S.Sink.taken c.print_net.new.out) l) text taken) c.print_net.ensures.ok

pub returns-clause-front : goal.returns-clause-front
returns-clause-front g c =
    let sound : IsSound (design_of c.args.design.now) = record { kept = c.args.design.now.kept; accepted = c.requires.accepted } in
    let text = compiled_text (design_of c.args.design.now) (length c.args.order.now) c.args.mode c.in_ok-compiled.compiled.net c.args.ports.now sound c.in_ok-compiled.ensures.ok.is_kept in
    on_err_weaker c.print_net.result (λ taken. subst (λ (l : List ℕ). AppendsFront (g.S.Sink.taken c.args.out.now) (g.S.Sink.taken c.print_net.new.out) l) text taken) c.print_net.ensures.front
