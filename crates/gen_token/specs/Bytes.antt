-- The bytes that texts and tokens are made of.
use Rattle.std.specs.Prelude.{ℕ, Bool, false, List, [], ◌∷◌, Option, Some, None, nat_le, ◌&&◌, ◌||◌, ◌==◌, if◌then◌else◌}
use Rattle.text_core.specs.Digits.{is_digit}

-- a byte that only separates tokens
abbrev pub is_blank : ℕ → Bool
is_blank byte = byte == 9 || byte == 10 || byte == 13 || byte == 32

-- a byte that a text may hold
abbrev pub is_text_byte : ℕ → Bool
is_text_byte byte = byte == 9 || byte == 10 || byte == 13 || nat_le 32 byte && nat_le byte 126

-- a letter of either case
abbrev pub is_letter : ℕ → Bool
is_letter byte = nat_le 65 byte && nat_le byte 90 || nat_le 97 byte && nat_le byte 122

-- a byte that a name may go on with: a letter, a digit or _
abbrev pub is_name_byte : ℕ → Bool
is_name_byte byte = is_letter byte || is_digit byte || byte == 95

-- a letter or _
abbrev pub is_word_start : ℕ → Bool
is_word_start byte = is_letter byte || byte == 95

-- a byte that passes the test stands in front
abbrev pub begins : (ℕ → Bool) → List ℕ → Bool
begins test [] = false
begins test (byte ∷ bytes) = test byte

-- the base that a literal's letter says: h or d
abbrev pub base_of : ℕ → Option ℕ
base_of letter = if letter == 104 then Some 16 else if letter == 100 then Some 10 else None
