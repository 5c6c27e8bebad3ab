use Rattle.std.proofs.Common.{◌≡◌, take, reverse}
use Rattle.gen_text.specs.Pieces.{exprs_of}
use Rattle.cond_lang.specs.Form.{all_names, seats, seats_of}
use Rattle.cond_lang.proofs.spelled.parts_of.Given as goal

abbrev pub invariant-loop-piece : goal.invariant-loop-piece
invariant-loop-piece l = record {
  parts : seats (reverse l.parts.items) ≡ seats_of (exprs_of (take l.piece-index l.pieces));
  known : l.names.known ≡ all_names (exprs_of (take l.piece-index l.pieces));
  same : l.names.list.items ≡ l.names.known;
}
