-- How words are spelled, whatever stands around them.
use Rattle.std.specs.Prelude.{◌≡◌, ◌≢◌, ◌<◌, ◌≤◌, ◌-◌, ◌^◌, ℕ, Bool, true, false, List, [], ◌∷◌, ◌++◌, length, Some, is_none, ◌&&◌, ◌||◌, ◌==◌}
use Rattle.std.specs.List.{list_all}
use Rattle.text_core.specs.Digits.{is_digit_of, number_of}
use Rattle.gen_token.specs.declared.keyword.Keyword.{Keyword}
use Rattle.gen_token.specs.Bytes.{begins, is_letter, is_name_byte, base_of}
use Rattle.gen_token.specs.Keywords.{keyword_text, keyword_of}
use Rattle.gen_token.specs.Marks.{mark_text}
use Rattle.gen_token.specs.Words.{Word, Name, Number, Literal, Reserved, Sign}

-- a letter, then letters, digits and _
abbrev pub is_name_text : List ℕ → Bool
is_name_text [] = false
is_name_text (byte ∷ bytes) = is_letter byte && list_all is_name_byte bytes

-- a name's text, and no keyword's
pub record IsName (bytes : List ℕ) : Type 0 where
  pub text : is_name_text bytes ≡ true
  pub free : (keyword : Keyword) → bytes ≢ keyword_text keyword

-- the test of it
unfoldable pub is_name : List ℕ → Bool
is_name bytes = is_name_text bytes && is_none (keyword_of bytes)

-- one or more digits to this base, which stand for this number
pub record AreDigits (base number : ℕ) (bytes : List ℕ) : Type 0 where
  pub some : 0 < length bytes
  pub digits : list_all (is_digit_of base) bytes ≡ true
  pub value : number ≡ number_of base bytes

-- a width, a quote, the letter of a base, and a value to that base
pub record IsLiteral (width value : ℕ) (bytes : List ℕ) : Type 0 where
  pub front : List ℕ
  pub letter : ℕ
  pub base : ℕ
  pub back : List ℕ
  pub parts : bytes ≡ front ++ 39 ∷ letter ∷ back
  pub says : base_of letter ≡ Some base
  pub width_digits : AreDigits 10 width front
  pub value_digits : AreDigits base value back
  pub width_fits : width ≤ 2 ^ 62
  pub value_fits : value ≤ 2 ^ 128 - 1

-- these bytes spell the word
abbrev pub Spells : Word → List ℕ → Type 0
Spells (Name name) bytes = (bytes ≡ name) × IsName bytes
Spells (Number number) bytes = AreDigits 10 number bytes × (number ≤ 2 ^ 62)
Spells (Literal width value) bytes = IsLiteral width value bytes
Spells (Reserved keyword) bytes = bytes ≡ keyword_text keyword
Spells (Sign mark) bytes = bytes ≡ mark_text mark

-- a word in front of a text, and what follows it: no longer front of the text spells any word
pub record IsLongest (text : List ℕ) (word : Word) (rest : List ℕ) : Type 0 where
  pub lexeme : List ℕ
  pub split : text ≡ lexeme ++ rest
  pub spelled : Spells word lexeme
  pub longest : (other : Word) (front more : List ℕ) → text ≡ front ++ more → Spells other front → length front ≤ length lexeme

-- a byte that may not stand directly behind a word: behind a number a letter, a digit, _ or a quote, behind a literal a
-- letter, a digit or _
abbrev pub goes_on : Word → ℕ → Bool
goes_on (Number number) byte = is_name_byte byte || byte == 39
goes_on (Literal width value) byte = is_name_byte byte
goes_on (Name name) byte = false
goes_on (Reserved keyword) byte = false
goes_on (Sign mark) byte = false

-- the token in front of a text, and what follows it: the longest word there, with nothing behind it that goes on
pub record IsTokenOf (text : List ℕ) (word : Word) (rest : List ℕ) : Type 0 where
  pub longest : IsLongest text word rest
  pub apart : begins (goes_on word) rest ≡ false
