use Rattle.gen_token.specs.Words.{placed}
use Rattle.gen_text.specs.Pieces.{exprs_of, top}
use Rattle.gen_text.proofs.Answers.{stops_at}
use Rattle.cond_lang.proofs.FirstPlace.{form_found, form_token, form_fault, left_fits}
use Rattle.cond_lang.proofs.read.read_form.Goals as goal

pub offset_at-requires : goal.offset_at-requires
offset_at-requires c =
    left_fits c.args.text.now (placed c.in_ok-found.found.tokens.items) c.in_ok-found.found.offsets.items c.in_ok-found.found.end c.in-Err-At.left c.in_ok-found.found.is_whole c.in_ok-found.ensures
    (rw c.deref.ensures.value at (stops_at c.in-Err-At.field-0 c.in-Err-At.left _ c.in-Err-At.field-0-is c.in-Err-At.ensures.reads))

pub returns-in-Err-At-clause-refused : goal.returns-in-Err-At-clause-refused
returns-in-Err-At-clause-refused c = rw (c.fault_at.ensures, c.offset_at.ensures) (
    form_fault c.args.text.now (placed c.in_ok-found.found.tokens.items) c.in_ok-found.found.offsets.items c.in_ok-found.found.end c.in-Err-At.left c.in_ok-found.found.is_whole c.in_ok-found.ensures
    (rw c.deref.ensures.value at (stops_at c.in-Err-At.field-0 c.in-Err-At.left _ c.in-Err-At.field-0-is c.in-Err-At.ensures.reads)))

pub returns-then-not-found-clause-refused : goal.returns-then-not-found-clause-refused
returns-then-not-found-clause-refused c = rw c.fault_at-then-not-found.ensures (
    form_token c.args.text.now (placed c.in_ok-found.found.tokens.items) c.in_ok-found.found.offsets.items c.in_ok-found.found.end (top (exprs_of c.in-Ok.pieces.items)) (rw c.if-not-found.true at c.in_ok-found.ensures)
    (rw c.deref.ensures.value at c.in-Ok.ensures.reads))

pub returns-clause-found : goal.returns-clause-found
returns-clause-found c =
    form_found c.args.text.now (placed c.in_ok-found.found.tokens.items) c.in_ok-found.found.offsets.items c.in_ok-found.found.end (top (exprs_of c.in-Ok.pieces.items)) (rw c.if-not-found.false at c.in_ok-found.ensures)
    (rw c.deref.ensures.value at c.in-Ok.ensures.reads)
