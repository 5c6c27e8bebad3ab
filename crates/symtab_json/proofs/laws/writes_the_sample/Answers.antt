use Rattle.std.proofs.Common.{refl}
use Rattle.std.specs.Fmt.{digits}
use Rattle.bv_core.specs.Text.{hex_digits}
use Rattle.json.specs.Print.{escape_byte}
use Rattle.symtab_json.proofs.laws.writes_the_sample.Goals as goal

-- by computing
pub returns : goal.returns
unfolding digits hex_digits escape_byte
returns c = refl
