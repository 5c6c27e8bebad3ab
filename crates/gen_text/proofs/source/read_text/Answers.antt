use Rattle.std.proofs.lemmas.Result.{err_from_is_err_and}
use Rattle.gen_token.specs.Words.{placed}
use Rattle.gen_tree.specs.View.{source_of}
use Rattle.gen_text.proofs.Answers.{token_cause, refused_so, found_so}
use Rattle.gen_text.proofs.source.read_text.Goals as goal

pub returns-in_err-tokens-clause-refused : goal.returns-in_err-tokens-clause-refused
returns-in_err-tokens-clause-refused c =
    let p = err_from_is_err_and c.from_residual.result c.from_residual.ensures.1 in
    rw (p.1, p.2) (token_cause c.args.file c.args.text.now c.in_err-tokens.field-0.0 c.requires.is_text c.in_err-tokens.ensures.refused)

pub returns-clause-found : goal.returns-clause-found
returns-clause-found c =
    found_so source_of c.args.file c.args.text.now (placed c.in_ok-tokens.tokens.items) c.read_tokens.result c.requires.is_text c.in_ok-tokens.ensures.found (rw c.deref.ensures.value at c.read_tokens.ensures.found)

pub returns-clause-refused : goal.returns-clause-refused
returns-clause-refused c =
    refused_so c.args.file c.args.text.now (placed c.in_ok-tokens.tokens.items) c.read_tokens.result c.requires.is_text c.in_ok-tokens.ensures.found (rw (c.deref.ensures.value, c.end_line.ensures) at c.read_tokens.ensures.refused)
