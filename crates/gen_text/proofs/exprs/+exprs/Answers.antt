use Rattle.std.proofs.lemmas.Result.{err_from_is_err_and}
use Rattle.gen_token.specs.Words.{placed}
use Rattle.gen_text.proofs.Piles.{no_operator}
use Rattle.gen_text.proofs.exprs.+exprs.Goals as goal

pub bracket-returns-in_err-op-clause-reads : goal.bracket-returns-in_err-op-clause-reads
bracket-returns-in_err-op-clause-reads t c =
    let p = err_from_is_err_and c.from_residual-in_err-op.result c.from_residual-in_err-op.ensures.1 in
    rw (p.1, p.2) (no_operator c.in_err-op.field-0.0 c.args.dialect c.args.room (placed c.args.tokens.now) (placed c.in_ok-rest.rest.now) (placed c.in_ok-rest-2.rest.now) _ c.in_ok-rest.ensures.room c.in_ok-rest.ensures.exact c.in_ok-rest-2.ensures.reads c.in_err-op.ensures)
