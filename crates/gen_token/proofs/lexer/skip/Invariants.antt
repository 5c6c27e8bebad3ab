use Rattle.std.proofs.Common.{◌≡◌, ◌≤◌, ◌<◌, ◌^◌, ◌+◌, length, false}
use Rattle.gen_token.specs.Tokens.{skip}
use Rattle.gen_token.proofs.lexer.skip.Given as goal

abbrev pub invariant-loop-rest : goal.invariant-loop-rest
invariant-loop-rest l = record {
  same : skip l.comment l.line l.rest ≡ skip false l.fn.line l.fn.text;
  lines : l.line + length l.rest ≤ l.fn.line + length l.fn.text;
  shorter : length l.rest ≤ length l.fn.text;
  fits : l.fn.line + length l.fn.text < 2 ^ 32;
}

abbrev pub decreases-loop-rest : goal.decreases-loop-rest
decreases-loop-rest l = length l.rest
