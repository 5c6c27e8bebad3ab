use Rattle.std.proofs.Common.{◌++◌, refl, ap, ◌∙◌}
use Rattle.std.proofs.lemmas.Result.{err_from_is_err_and}
use Rattle.io_edge.proofs.Growth.{no_growth}
use Rattle.verilog_out.specs.Spelling.{front_text}
use Rattle.verilog_out.proofs.Gathered.{front_of_body, front_of_end, all_taken}
use Rattle.verilog_out.proofs.print.print_net.Goals as goal

pub returns-in_err-nexts-clause-front : goal.returns-in_err-nexts-clause-front
returns-in_err-nexts-clause-front g c =
    let p = err_from_is_err_and c.from_residual.result c.from_residual.ensures.1 in
    rw (p.1) (no_growth _ _ _ refl)

pub returns-in_err-push_front-clause-front : goal.returns-in_err-push_front-clause-front
returns-in_err-push_front-clause-front g c =
    let p = err_from_is_err_and c.from_residual-in_err-push_front.result c.from_residual-in_err-push_front.ensures.1 in
    rw (p.1) (no_growth _ _ _ refl)

pub returns-in_err-write_body-clause-front : goal.returns-in_err-write_body-clause-front
returns-in_err-write_body-clause-front g c =
    let p = err_from_is_err_and c.from_residual-in_err-write_body.result c.from_residual-in_err-write_body.ensures.1 in
    let start = c.in_ok-push_front.ensures ∙ ap (λ l. l ++ front_text c.args.ports.now.module c.args.ports.now.inputs c.args.ports.now.outputs) c.new-text.ensures.items in
    rw (p.1) (front_of_body c.args.net.now c.args.ports.now (g.S.Sink.taken c.args.out.now) (g.S.Sink.taken c.write_body.new.out) c.push_front.new.text.items start c.in_err-write_body.ensures.front)

pub returns-in_err-write_end-clause-front : goal.returns-in_err-write_end-clause-front
returns-in_err-write_end-clause-front g c =
    let p = err_from_is_err_and c.from_residual-in_err-write_end.result c.from_residual-in_err-write_end.ensures.1 in
    let start = c.in_ok-push_front.ensures ∙ ap (λ l. l ++ front_text c.args.ports.now.module c.args.ports.now.inputs c.args.ports.now.outputs) c.new-text.ensures.items in
    rw (p.1)
    (front_of_end c.args.net.now c.args.ports.now (g.S.Sink.taken c.args.out.now) (g.S.Sink.taken c.write_end.new.out) c.push_front.new.text.items start
    (g.S.Sink.taken c.write_body.new.out) c.write_body.new.text.items c.in_ok-write_body.ensures.ok c.in_err-write_end.ensures.front)

pub returns-clause-ok : goal.returns-clause-ok
returns-clause-ok g c =
    let start = c.in_ok-push_front.ensures ∙ ap (λ l. l ++ front_text c.args.ports.now.module c.args.ports.now.inputs c.args.ports.now.outputs) c.new-text.ensures.items in
    all_taken c.args.net.now c.args.ports.now (g.S.Sink.taken c.args.out.now) (g.S.Sink.taken c.write_end.new.out) c.push_front.new.text.items start
    (g.S.Sink.taken c.write_body.new.out) c.write_body.new.text.items c.in_ok-write_body.ensures.ok c.in_ok-write_end.ensures.ok
