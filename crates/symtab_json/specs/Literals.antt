-- Literals, as they are printed.
use Rattle.std.specs.Prelude.{ℕ, ◌^◌, ◌&&◌, List, Bool, nat_eq, nat_le, nat_lt, take, drop, codes, bytes_eq, Option, Some, None, option_and_then, if◌then◌else◌}
use Rattle.std.specs.List.{prefix_len, starts_with}
use Rattle.text_core.specs.Digits.{is_digit_of, number_of}
use Rattle.bv_core.specs.Value.{Bits}
use Rattle.bv_core.specs.Text.{shown}

-- the width is 1 to 128, and the number has no more digits in base 2
abbrev pub is_bits : Bits → Bool
is_bits b = nat_le 1 b.width && nat_le b.width 128 && nat_lt b.value (2 ^ b.width)

-- how many decimal digits a text begins with
abbrev pub width_len : List ℕ → ℕ
width_len text = prefix_len (is_digit_of 10) text

-- the value of this width that digits to base 16 stand for, where it is one
abbrev pub literal_of_width : ℕ → List ℕ → Option Bits
literal_of_width width digits =
    if is_bits (record { width = width; value = number_of 16 digits }) then Some (record { width = width; value = number_of 16 digits }) else None

-- the value whose width stands before 'h, and whose number stands behind it
abbrev pub literal_around : List ℕ → List ℕ → Option Bits
literal_around digits tail = if starts_with nat_eq tail (codes "'h") then literal_of_width (number_of 10 digits) (drop 2 tail) else None

abbrev pub literal_in : List ℕ → Option Bits
literal_in text = literal_around (take (width_len text) text) (drop (width_len text) text)

-- a value, if it is printed as this text
abbrev pub if_shown : List ℕ → Bits → Option Bits
if_shown text b = if bytes_eq (shown b) text then Some b else None

-- the value that is printed as this text
abbrev pub told_literal : List ℕ → Option Bits
told_literal text = option_and_then (if_shown text) (literal_in text)
