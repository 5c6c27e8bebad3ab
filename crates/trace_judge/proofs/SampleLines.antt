-- The lines of the samples, computed; and that a text has one judgement.
use Rattle.std.proofs.Common.{refl, sym, ◌∙◌}
use Rattle.std.specs.Fmt.{digits}
use Rattle.trace_judge.specs.Laws.{LinesAreSo, TextsHaveOneJudgement}

pub lines : LinesAreSo
unfolding digits
lines = record {
  no_json = refl;
  path = refl;
  whole = refl;
  reference = refl;
  version = refl;
  long_table = refl;
  long = refl;
  word = refl;
  cut = refl;
  code = refl;
  wide = refl;
  back = refl;
  no_end = refl;
  scope = refl;
  missing = refl;
  size = refl;
}

pub one_judgement : TextsHaveOneJudgement
one_judgement text parts scope a b h k = sym h ∙ k
