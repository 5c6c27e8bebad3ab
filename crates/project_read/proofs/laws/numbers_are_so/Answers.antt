use Rattle.std.proofs.Common.{refl}
use Rattle.project_read.proofs.laws.numbers_are_so.Goals as goal

-- by computing
pub returns : goal.returns
returns c = record { folder = refl; no_folder = refl; root = refl; file = refl; two = refl; itself = refl; other = refl; too_many = refl }
