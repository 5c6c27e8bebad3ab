use Rattle.std.proofs.Common.{◌≤◌, ◌<◌, ◌+◌, ◌^◌, length, false}
use Rattle.places.specs.Places.{place}
use Rattle.gen_token.specs.Tokens.{skip}
use Rattle.gen_token.specs.Words.{placed}
use Rattle.gen_token.proofs.Runs.{Reaches}
use Rattle.gen_token.proofs.lexer.tokens_of.Given as goal

abbrev pub invariant-loop-rest : goal.invariant-loop-rest
invariant-loop-rest l = record {
  reached : Reaches (skip false (place l.file 1) l.text) (placed l.tokens.items) (l.line, l.rest);
  fits : l.line + length l.rest < 2 ^ 32;
}

abbrev pub decreases-loop-rest : goal.decreases-loop-rest
decreases-loop-rest l = length l.rest
