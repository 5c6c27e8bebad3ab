-- The lines of the samples, computed.
use Rattle.std.proofs.Common.{refl}
use Rattle.std.specs.Fmt.{digits}
use Rattle.design_judge.specs.Laws.{LinesAreSo}

pub lines : LinesAreSo
unfolding digits
lines = record { bare = refl; offset = refl; bare_in = refl; offset_in = refl; line_there = refl; too_many = refl; name = refl; what = refl; place = refl; widths = refl; first = refl; paths = refl; column = refl }
