-- What is kept of a value change dump file.
use Rattle.std.specs.Prelude.{◌≡◌, ◌≤◌, Bool, length, All, nat_le, ◌==◌, ◌&&◌}
use Rattle.std.specs.List.{AllPass, list_any}
use Rattle.std.specs.List.Sorted.{IsNonDecreasingBy}
use Rattle.vcd_read.specs.Head.{Var}
use Rattle.vcd_read.specs.Changes.{Change, are_digits}
use Rattle.vcd_read.specs.Meaning.{Meaning}

-- a change of a variable's code: its digits are value characters, at least one, and no more than the variable's size
abbrev pub is_change_of : Change → Var → Bool
is_change_of change var = var.code == change.code && are_digits change.digits && nat_le (length change.digits) var.size

-- there are at most 2^26 changes, their times do not fall, variables of one code have one size, and each change is one
-- of a variable's code
pub record IsVcd (m : Meaning) : Type 0 where
  pub few : length m.changes ≤ 67108864
  pub rising : IsNonDecreasingBy (λ change. change.time) m.changes
  pub sizes : All (λ var. All (λ other. var.code ≡ other.code → var.size ≡ other.size) m.vars) m.vars
  pub declared : AllPass (λ change. list_any (is_change_of change) m.vars) m.changes
