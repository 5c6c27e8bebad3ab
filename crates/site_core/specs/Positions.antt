-- The positions of a table over samples, as they are counted and gone through.
use Rattle.std.specs.Prelude.{ℕ, zero, suc, ◌*◌, List, [], ◌∷◌, length}
use Rattle.symtab.specs.declared.parts.TableParts.{TableParts}
use Rattle.trace_core.specs.Samples.{Samples}

-- how many positions a table has over these samples
abbrev pub total_of : TableParts → Samples → ℕ
total_of parts s = s.cycles * length parts.slots

-- n positions below this one, the nearest first
abbrev pub down_from : ℕ → ℕ → List ℕ
down_from p zero = []
down_from zero (suc n) = []
down_from (suc p) (suc n) = p ∷ down_from p n
