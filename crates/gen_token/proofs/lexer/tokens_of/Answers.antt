use Rattle.std.proofs.Common.{sym, arith, rules}
use Rattle.std.proofs.lemmas.List.{map-append}
use Rattle.gen_token.specs.Words.{word_of}
use Rattle.gen_token.proofs.Runs.{one_more, whole, stuck}
use Rattle.gen_token.proofs.lexer.tokens_of.Goals as goal

pub returns-in_default-clause-refused : goal.returns-in_default-clause-refused
returns-in_default-clause-refused c =
    (_, stuck _ _ _ c.loop-rest.rest.now (search rules) (sym c.in_default.ensures.token) c.loop-rest.invariant.reached)

pub loop-rest-preserved : goal.loop-rest-preserved
loop-rest-preserved c = record {
  reached = rw
      (c.skip.ensures.skipped, c.in_ok-push.ensures.items, map-append)
      (one_more _ _ c.loop-rest.line c.loop-rest.rest.now (word_of c.in-Some.token) c.in-Some.after.now (sym c.in-Some.ensures.token) c.loop-rest.invariant.reached);
  fits = omega (arith, c.in-Some.ensures.shorter, c.skip.ensures.lines);
}

pub returns-clause-found : goal.returns-clause-found
returns-clause-found c = whole _ _ c.loop-rest.line c.loop-rest.rest.now (search rules) c.loop-rest.invariant.reached
