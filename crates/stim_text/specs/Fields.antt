-- The fields of a line, and the numbers that they are.
use Rattle.std.specs.Prelude.{ℕ, Bool, true, false, List, [], ◌∷◌, filter, drop, codes, nat_eq, ◌==◌, ◌&&◌, ◌||◌, if◌then◌else◌}
use Rattle.std.specs.List.{list_all, slice_split, starts_with}
use Rattle.text_core.specs.Digits.{is_digit_of, number_of}

-- a blank or a tab, which separate the fields of a line
abbrev pub is_gap : ℕ → Bool
is_gap byte = byte == 32 || byte == 9

abbrev pub has_bytes : List ℕ → Bool
has_bytes [] = false
has_bytes (byte ∷ bytes) = true

-- the runs of other bytes, which are what stands between gaps and is not empty
abbrev pub fields : List ℕ → List (List ℕ)
fields line = filter has_bytes (slice_split is_gap line)

-- the base of a field's digits, and the digits: hexadecimal after `0x`, else decimal
abbrev pub numeral : List ℕ → ℕ × List ℕ
numeral field = if starts_with nat_eq field (codes "0x") then (16, drop 2 field) else (10, field)

-- a field is a number: at least one digit, and digits alone
abbrev pub is_number : List ℕ → Bool
is_number field = has_bytes (numeral field).1 && list_all (is_digit_of (numeral field).0) (numeral field).1

-- the number, of any size
abbrev pub number_in : List ℕ → ℕ
number_in field = number_of (numeral field).0 (numeral field).1
