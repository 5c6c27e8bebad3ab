-- The words of a text.
use Rattle.std.specs.Prelude.{ℕ, ◌+◌, Bool, true, false, List, [], ◌∷◌, take, codes, bytes_eq, nat_le, ◌==◌, ◌&&◌, ◌||◌, if◌then◌else◌}
use Rattle.std.specs.List.{position_or_len}

-- a byte that stands between words: the control characters 9 to 13, and the blank
abbrev pub is_blank : ℕ → Bool
is_blank byte = nat_le 9 byte && nat_le byte 13 || byte == 32

-- a word, and how many bytes of the text stand before it
pub record Word : Type 0 where
  pub at : ℕ
  pub bytes : List ℕ

-- the bytes up to the next blank
abbrev pub word_in_front : List ℕ → List ℕ
word_in_front bytes = take (position_or_len is_blank bytes) bytes

-- the words from a place on, inside a word or not: a word begins at each byte that is no blank and stands inside none,
-- and goes as far as the next blank
abbrev pub words_from : Bool → ℕ → List ℕ → List Word
words_from inside at [] = []
words_from inside at (byte ∷ bytes) =
    if is_blank byte then words_from false (at + 1) bytes
    else if inside then words_from true (at + 1) bytes
    else record { at = at; bytes = word_in_front (byte ∷ bytes) } ∷ words_from true (at + 1) bytes

-- the words of a text
abbrev pub words_of : List ℕ → List Word
words_of bytes = words_from false 0 bytes

-- a word is this keyword
abbrev pub is_keyword : List ℕ → Word → Bool
is_keyword keyword word = bytes_eq word.bytes keyword

-- the keyword that ends a command
abbrev pub is_end : Word → Bool
is_end word = is_keyword (codes "$end") word

abbrev pub has_bytes : List ℕ → Bool
has_bytes [] = false
has_bytes (byte ∷ bytes) = true

-- the first byte is this one
abbrev pub begins_with : ℕ → List ℕ → Bool
begins_with first [] = false
begins_with first (byte ∷ bytes) = byte == first
