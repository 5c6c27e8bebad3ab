use Rattle.std.proofs.Common.{◌≡◌, List, ℕ, length, subst, ap, ◌∙◌, refl, rules}
use Rattle.std.proofs.lemmas.Result.{err_from_is_err_and, on_ok_weaker, on_err_weaker}
use Rattle.io_edge.specs.Taken.{Appends, AppendsFront}
use Rattle.io_edge.proofs.Growth.{no_growth}
use Rattle.design_core.specs.DesignView.{design_of}
use Rattle.trim_core.specs.KeptTable.{kept_table}
use Rattle.trim_table.proofs.KeptTables.{compiled_tables_are_kept}
use Rattle.symbol_net.specs.Line.{symbols_line}
use Rattle.symbol_net.proofs.write.write_symbols.Goals as goal

pub returns-in_err-line-clause-front : goal.returns-in_err-line-clause-front
returns-in_err-line-clause-front g c =
    let p = err_from_is_err_and c.from_residual-in_err-line.result c.from_residual-in_err-line.ensures.1 in
    rw (p.1) (no_growth _ _ _ refl)

pub returns-clause-ok : goal.returns-clause-ok
returns-clause-ok g c =
    let whole : c.deref.result.now ≡ c.in_ok-line.line.items = search rules in
    let text : c.deref.result.now ≡ symbols_line (kept_table (design_of c.args.design.now) (length c.args.order.now) c.args.mode) =
    whole ∙ c.in_ok-line.ensures ∙ ap symbols_line (compiled_tables_are_kept (design_of c.args.design.now) (length c.args.order.now) c.args.mode c.in_ok-compiled.compiled.net c.in_ok-compiled.compiled.table c.in_ok-compiled.ensures.ok) in
    on_ok_weaker c.put_all.result (λ taken. subst (λ (l : List ℕ). Appends (g.S.Sink.taken c.args.out.now) (g.S.Sink.taken c.put_all.new.out) l) text taken) c.put_all.ensures.ok

pub returns-clause-front : goal.returns-clause-front
returns-clause-front g c =
    let whole : c.deref.result.now ≡ c.in_ok-line.line.items = search rules in
    let text : c.deref.result.now ≡ symbols_line (kept_table (design_of c.args.design.now) (length c.args.order.now) c.args.mode) =
    whole ∙ c.in_ok-line.ensures ∙ ap symbols_line (compiled_tables_are_kept (design_of c.args.design.now) (length c.args.order.now) c.args.mode c.in_ok-compiled.compiled.net c.in_ok-compiled.compiled.table c.in_ok-compiled.ensures.ok) in
    on_err_weaker c.put_all.result (λ taken. subst (λ (l : List ℕ). AppendsFront (g.S.Sink.taken c.args.out.now) (g.S.Sink.taken c.put_all.new.out) l) text taken) c.put_all.ensures.front

pub returns-clause-compiled : goal.returns-clause-compiled
returns-clause-compiled g c = on_ok_weaker c.put_all.result (λ taken. (c.in_ok-compiled.compiled.net, c.in_ok-compiled.compiled.table, c.in_ok-compiled.ensures.ok)) c.put_all.ensures.ok
