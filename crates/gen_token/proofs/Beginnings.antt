-- What the spellings of words begin with.
use Rattle.std.proofs.Common.{◌≡◌, ℕ, Bool, true, not, ◌||◌, List, [], ◌∷◌, ◌++◌, refl, arith, ◌≤◌, cond, Some, None, false, ◌==◌}
use Rattle.std.specs.List.{list_all}
use Rattle.std.proofs.lemmas.Bool.Decides.{nat_tests}
use Rattle.text_core.specs.Digits.{is_digit, is_digit_of}
use Rattle.gen_token.specs.declared.keyword.Keyword.{Keyword}
use Rattle.gen_token.specs.declared.keyword.Keyword.TheVariants as keyword
use Rattle.gen_token.specs.declared.mark.Mark.{Mark}
use Rattle.gen_token.specs.declared.mark.Mark.TheVariants as mark
use Rattle.gen_token.specs.Bytes.{is_letter, is_name_byte, is_word_start, begins, base_of}
use Rattle.gen_token.specs.Keywords.{keyword_text}
use Rattle.gen_token.specs.Marks.{mark_text}
use Rattle.gen_token.specs.Spelling.{is_name_text, AreDigits, Spells}
use Rattle.gen_token.specs.Words.{Word, Name, Number, Literal, Reserved, Sign}
use Rattle.gen_token.proofs.Fronts.{both_true, begins_front, begins_all}

-- neither a letter nor a digit
abbrev pub is_sign : ℕ → Bool
is_sign byte = not (is_letter byte || is_digit byte)

-- what the first byte of a word's spelling is
abbrev pub first_of : Word → ℕ → Bool
first_of (Name name) = is_letter
first_of (Number number) = is_digit
first_of (Literal width value) = is_digit
first_of (Reserved keyword) = is_letter
first_of (Sign mark) = is_sign

pub digit_is : (byte : ℕ) → is_digit_of 10 byte ≡ true → is_digit byte ≡ true
digit_is byte h = grind (arith, nat_tests)

pub letter_or_digit : (byte : ℕ) → is_letter byte ≡ true → is_digit byte ≡ true → ⊥
letter_or_digit byte h e = grind (arith, nat_tests)

pub letter_or_sign : (byte : ℕ) → is_letter byte ≡ true → is_sign byte ≡ true → ⊥
letter_or_sign byte h e = grind (arith, nat_tests)

pub digit_or_sign : (byte : ℕ) → is_digit byte ≡ true → is_sign byte ≡ true → ⊥
digit_or_sign byte h e = grind (arith, nat_tests)

pub name_letter : (byte : ℕ) → is_letter byte ≡ true → is_name_byte byte ≡ true
name_letter byte h = grind (arith, nat_tests)

keyword_begins : (keyword : Keyword) → begins is_letter (keyword_text keyword) ≡ true
keyword_begins keyword.Module = refl
keyword_begins keyword.Input = refl
keyword_begins keyword.Output = refl
keyword_begins keyword.Wire = refl
keyword_begins keyword.Reg = refl
keyword_begins keyword.Inst = refl
keyword_begins keyword.Comb = refl
keyword_begins keyword.Ff = refl
keyword_begins keyword.For = refl
keyword_begins keyword.In = refl
keyword_begins keyword.Gen = refl
keyword_begins keyword.If = refl
keyword_begins keyword.Else = refl
keyword_begins keyword.Let = refl
keyword_begins keyword.Bits = refl
keyword_begins keyword.Cat = refl
keyword_begins keyword.Zext = refl
keyword_begins keyword.Mux = refl
keyword_begins keyword.All = refl
keyword_begins keyword.Any = refl
keyword_begins keyword.Parity = refl
keyword_begins keyword.Clk = refl
keyword_begins keyword.Case = refl
keyword_begins keyword.Default = refl
keyword_begins keyword.Import = refl

-- a keyword is made of name bytes
pub keyword_passes : (keyword : Keyword) → list_all is_name_byte (keyword_text keyword) ≡ true
keyword_passes keyword.Module = refl
keyword_passes keyword.Input = refl
keyword_passes keyword.Output = refl
keyword_passes keyword.Wire = refl
keyword_passes keyword.Reg = refl
keyword_passes keyword.Inst = refl
keyword_passes keyword.Comb = refl
keyword_passes keyword.Ff = refl
keyword_passes keyword.For = refl
keyword_passes keyword.In = refl
keyword_passes keyword.Gen = refl
keyword_passes keyword.If = refl
keyword_passes keyword.Else = refl
keyword_passes keyword.Let = refl
keyword_passes keyword.Bits = refl
keyword_passes keyword.Cat = refl
keyword_passes keyword.Zext = refl
keyword_passes keyword.Mux = refl
keyword_passes keyword.All = refl
keyword_passes keyword.Any = refl
keyword_passes keyword.Parity = refl
keyword_passes keyword.Clk = refl
keyword_passes keyword.Case = refl
keyword_passes keyword.Default = refl
keyword_passes keyword.Import = refl

mark_begins : (mark : Mark) → begins is_sign (mark_text mark) ≡ true
mark_begins mark.DotDot = refl
mark_begins mark.EqualsEquals = refl
mark_begins mark.NotEquals = refl
mark_begins mark.LessEquals = refl
mark_begins mark.LessLess = refl
mark_begins mark.GreaterGreater = refl
mark_begins mark.LeftBrace = refl
mark_begins mark.RightBrace = refl
mark_begins mark.LeftParen = refl
mark_begins mark.RightParen = refl
mark_begins mark.LeftBracket = refl
mark_begins mark.RightBracket = refl
mark_begins mark.Semicolon = refl
mark_begins mark.Colon = refl
mark_begins mark.Comma = refl
mark_begins mark.Dot = refl
mark_begins mark.Equals = refl
mark_begins mark.Less = refl
mark_begins mark.Plus = refl
mark_begins mark.Minus = refl
mark_begins mark.Star = refl
mark_begins mark.Ampersand = refl
mark_begins mark.Bar = refl
mark_begins mark.Caret = refl
mark_begins mark.Tilde = refl
mark_begins mark.Hash = refl

name_begins : (bytes : List ℕ) → is_name_text bytes ≡ true → begins is_letter bytes ≡ true
name_begins [] h = absurd (cc)
name_begins (byte ∷ bytes) h = (both_true (is_letter byte) (list_all is_name_byte bytes) h).0

-- a name is made of name bytes
pub name_passes : (bytes : List ℕ) → is_name_text bytes ≡ true → list_all is_name_byte bytes ≡ true
name_passes [] h = refl
name_passes (byte ∷ bytes) h =
    let b = both_true (is_letter byte) (list_all is_name_byte bytes) h in
    rw (name_letter byte b.0) (b.1)

digits_begin_by : (bytes : List ℕ) → begins (is_digit_of 10) bytes ≡ true → begins is_digit bytes ≡ true
digits_begin_by [] h = h
digits_begin_by (byte ∷ bytes) h = digit_is byte h

digits_begin : (number : ℕ) (bytes : List ℕ) → AreDigits 10 number bytes → begins is_digit bytes ≡ true
digits_begin number bytes h = digits_begin_by bytes (begins_all (is_digit_of 10) bytes h.some h.digits)

-- a word's spelling begins as its kind does
spelled_begins : (word : Word) (bytes : List ℕ) → Spells word bytes → begins (first_of word) bytes ≡ true
spelled_begins (Name name) bytes h = name_begins bytes (h.1.text)
spelled_begins (Number number) bytes h = digits_begin number bytes (h.0)
spelled_begins (Literal width value) bytes h =
    rw (h.parts) (begins_front is_digit h.front (39 ∷ h.letter ∷ h.back) (digits_begin width h.front h.width_digits))
spelled_begins (Reserved keyword) bytes h = rw h (keyword_begins keyword)
spelled_begins (Sign mark) bytes h = rw h (mark_begins mark)

-- so does the text that it is a front of
pub text_begins : (word : Word) (text front more : List ℕ) → text ≡ front ++ more → Spells word front → begins (first_of word) text ≡ true
text_begins word text front more e h = rw e (begins_front (first_of word) front more (spelled_begins word front h))

-- a digit to a base of at most 16 is a name byte
pub digit_goes_on : (base : ℕ) → base ≤ 16 → (byte : ℕ) → is_digit_of base byte ≡ true → is_name_byte byte ≡ true
digit_goes_on base most byte h = grind (arith, nat_tests)

-- a letter or _ is a name byte
pub start_goes_on : (byte : ℕ) → is_word_start byte ≡ true → is_name_byte byte ≡ true
start_goes_on byte h = grind (arith, nat_tests)

-- no letter, no _ and no digit to a base of at least 10: no name byte
no_name_byte : (base : ℕ) → 10 ≤ base → (byte : ℕ) → is_word_start byte ≡ false → is_digit_of base byte ≡ false → is_name_byte byte ≡ false
no_name_byte base least byte h e = grind (arith, nat_tests)

pub no_name : (base : ℕ) → 10 ≤ base → (rest : List ℕ) → begins is_word_start rest ≡ false → begins (is_digit_of base) rest ≡ false → begins is_name_byte rest ≡ false
no_name base least [] h e = refl
no_name base least (byte ∷ bytes) h e = no_name_byte base least byte h e

bounds_by : (h d : Bool) (base : ℕ) → cond h (Some 16) (cond d (Some 10) None) ≡ Some base → (10 ≤ base) × (base ≤ 16)
bounds_by true d base e = let same : 16 ≡ base = cc in (omega arith, omega arith)
bounds_by false true base e = let same : 10 ≡ base = cc in (omega arith, omega arith)
bounds_by false false base e = absurd (cc)

-- the bases of literals
pub base_bounds : (letter base : ℕ) → base_of letter ≡ Some base → (10 ≤ base) × (base ≤ 16)
base_bounds letter base h = bounds_by (letter == 104) (letter == 100) base h
