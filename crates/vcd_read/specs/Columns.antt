-- How changes are kept: a list of times, a list of digits, and a row for each change.
use Rattle.std.specs.Prelude.{◌≡◌, ◌≤◌, ◌<◌, ℕ, zero, suc, ◌-◌, List, [], ◌∷◌, length, slice_get, slice_index, slice_range, Some}
use Rattle.vcd_read.specs.declared.changes.Row.{Row}
use Rattle.vcd_read.specs.Changes.{Change}

-- the changes that rows are, of which the first has its digits from this place on
abbrev pub changes_of : List ℕ → List ℕ → ℕ → List Row → List Change
changes_of times digits start [] = []
changes_of times digits start (row ∷ rows) =
    record { time = slice_index times row.step; code = row.code; digits = slice_range digits start row.end } ∷ changes_of times digits row.end rows

-- rows over so many times and digits: each has a time, and the digits of all lie one behind the other
abbrev pub AreRows : ℕ → ℕ → ℕ → List Row → Type 0
AreRows times digits start [] = start ≡ digits
AreRows times digits start (row ∷ rows) = (row.step < times) × (start ≤ row.end) × AreRows times digits row.end rows

-- where the digits of a row begin
abbrev pub start_at : ℕ → List Row → ℕ → ℕ
start_at start rows zero = start
start_at start [] (suc i) = start
start_at start (row ∷ rows) (suc i) = start_at row.end rows i

-- these times, digits and rows are kept, and this is the time now
pub record AreColumns (time : ℕ) (times digits : List ℕ) (rows : List Row) : Type 0 where
  pub now : slice_get times (length times - 1) ≡ Some time
  pub whole : AreRows (length times) (length digits) 0 rows
