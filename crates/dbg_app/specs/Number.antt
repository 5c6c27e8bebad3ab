-- Small numbers among the words.
use Rattle.std.specs.Prelude.{ℕ, ◌==◌, ◌&&◌, not, Bool, List, [], length, Option, Some, None, bytes_eq, if◌then◌else◌, nat_le}
use Rattle.std.specs.List.{prefix_len}
use Rattle.text_core.specs.Digits.{is_digit_of, number_of}

-- decimal digits, at least one, of a number from 1 to this most
abbrev pub is_number_to : ℕ → List ℕ → Bool
is_number_to most digits =
    not (bytes_eq digits []) && prefix_len (is_digit_of 10) digits == length digits && nat_le 1 (number_of 10 digits) && nat_le (number_of 10 digits) most

abbrev pub number_to : ℕ → List ℕ → Option ℕ
number_to most digits = if is_number_to most digits then Some (number_of 10 digits) else None
