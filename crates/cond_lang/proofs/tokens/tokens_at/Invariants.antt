use Rattle.std.proofs.Common.{◌≡◌, ◌≤◌, ◌+◌, length}
use Rattle.gen_token.specs.Words.{placed}
use Rattle.gen_token.proofs.Runs.{Reaches}
use Rattle.cond_lang.specs.Reading.{start, behind, offsets_from}
use Rattle.cond_lang.proofs.tokens.tokens_at.Given as goal

abbrev pub invariant-loop-token : goal.invariant-loop-token
invariant-loop-token l = record {
  reached : Reaches (start l.text) (placed l.tokens.items) (l.line, l.rest);
  behind : behind (start l.text) (placed l.tokens.items) ≡ (l.line, l.rest);
  places : l.offsets.items ≡ offsets_from (length l.text) (start l.text) (placed l.tokens.items);
  fits : l.line + length l.rest ≤ 1 + length l.text;
  shorter : length l.rest ≤ length l.text;
}

abbrev pub decreases-loop-token : goal.decreases-loop-token
decreases-loop-token l = length l.rest
