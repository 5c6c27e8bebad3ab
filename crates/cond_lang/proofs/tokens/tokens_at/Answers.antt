use Rattle.std.proofs.Common.{length, sym, arith}
use Rattle.std.proofs.lemmas.List.{map-append}
use Rattle.gen_token.specs.Words.{placed, word_of}
use Rattle.gen_token.proofs.Runs.{one_more}
use Rattle.cond_lang.specs.Reading.{start}
use Rattle.cond_lang.proofs.Offsets.{behind_next, offsets_next, taken_so}
use Rattle.cond_lang.proofs.tokens.tokens_at.Goals as goal

pub loop-token-preserved : goal.loop-token-preserved
loop-token-preserved c = record {
  reached = rw
      (c.skip.ensures.skipped, c.in_ok-push.ensures.items, map-append)
      (one_more _ _ c.loop-token.line c.loop-token.rest.now (word_of c.in-Some.token) c.in-Some.after.now (sym c.in-Some.ensures.token) c.loop-token.invariant.reached);
  behind = rw
      (c.skip.ensures.skipped, c.in_ok-push.ensures.items, map-append)
      (behind_next (start c.args.text.now) (placed c.loop-token.tokens.items) c.loop-token.line c.loop-token.rest.now (word_of c.in-Some.token) c.in-Some.after.now (sym c.in-Some.ensures.token) c.loop-token.invariant.behind);
  places = rw
      (c.in_ok-push-2.ensures.items, c.in_ok-push.ensures.items, map-append)
      (offsets_next (length c.args.text.now) (start c.args.text.now) (placed c.loop-token.tokens.items) c.loop-token.line c.loop-token.rest.now c.loop-token.offsets.items _ c.loop-token.invariant.behind c.loop-token.invariant.places);
  fits = omega (arith, c.in-Some.ensures.shorter, c.skip.ensures.lines);
  shorter = omega (arith, c.in-Some.ensures.shorter, c.skip.ensures.shorter);
}

pub returns : goal.returns
returns c = taken_so c.args.text.now (placed c.loop-token.tokens.items) c.loop-token.offsets.items c.loop-token.line c.loop-token.rest.now c.is_empty.result c.loop-token.invariant.reached c.loop-token.invariant.behind c.loop-token.invariant.places (sym c.in_default.ensures.token) c.is_empty.ensures
