-- The tokens of a text, each as long as it can be.
use Rattle.std.specs.Prelude.{◌≡◌, ◌<◌, ℕ, ◌+◌, ◌-◌, ◌^◌, Bool, true, false, List, [], ◌∷◌, length, take, drop, Option, Some, None, IsSomeAnd, option_and_then, nat_le, ◌&&◌, ◌||◌, ◌==◌, if◌then◌else◌}
use Rattle.std.specs.List.{prefix_len}
use Rattle.std.specs.Option.{option_map}
use Rattle.places.specs.Places.{place}
use Rattle.text_core.specs.Digits.{is_digit, is_digit_of, number_of}
use Rattle.gen_token.specs.declared.fault.TokenFault.{TokenFault}
use Rattle.gen_token.specs.declared.fault.TokenFault.TheVariants as faults
use Rattle.gen_token.specs.declared.keyword.Keyword.{Keyword}
use Rattle.gen_token.specs.Bytes.{is_blank, is_letter, is_name_byte, is_word_start, begins, base_of}
use Rattle.gen_token.specs.Keywords.{keyword_of}
use Rattle.gen_token.specs.Marks.{mark_text, mark_of}
use Rattle.gen_token.specs.Words.{Word, Name, Number, Literal, Reserved, Sign, Tok}

-- the keyword that a word is; else it is a name
abbrev pub word_or : Option Keyword → List ℕ → Word
word_or None word = Name word
word_or (Some keyword) word = Reserved keyword

-- a name or a keyword, as far as name bytes go
unfoldable pub name_at : List ℕ → Word × List ℕ
name_at text =
    let word = take (prefix_len is_name_byte text) text in
    (word_or (keyword_of word) word, drop (prefix_len is_name_byte text) text)

-- the number that all digits in front stand for, if it is at most this, and what follows them
unfoldable pub digits_at : ℕ → ℕ → List ℕ → Option (ℕ × List ℕ)
digits_at base most text =
    let count = prefix_len (is_digit_of base) text in
    let number = number_of base (take count text) in
    if count == 0 then None else if nat_le number most then Some (number, drop count text) else None

-- a token, unless a letter or _ follows it
abbrev pub apart : Word → List ℕ → Option (Word × List ℕ)
apart word rest = if begins is_word_start rest then None else Some (word, rest)

-- a literal of this width, from the letter after its quote on
unfoldable pub value_at : ℕ → List ℕ → Option (Word × List ℕ)
value_at width [] = None
value_at width (letter ∷ text) =
    option_and_then (λ base.
    option_and_then (λ value. apart (Literal width value.0) value.1)
    (digits_at base (2 ^ 128 - 1) text)) (base_of letter)

-- a literal, if a quote follows the digits; else a number
unfoldable pub after_digits : ℕ → List ℕ → Option (Word × List ℕ)
after_digits number [] = Some (Number number, [])
after_digits number (byte ∷ text) = if byte == 39 then value_at number text else apart (Number number) (byte ∷ text)

-- a number or a literal
unfoldable pub number_at : List ℕ → Option (Word × List ℕ)
number_at text = option_and_then (λ found. after_digits found.0 found.1) (digits_at 10 (2 ^ 62) text)

-- the longest mark
unfoldable pub mark_at : List ℕ → Option (Word × List ℕ)
mark_at text = option_map (λ mark. (Sign mark, drop (length (mark_text mark)) text)) (mark_of text)

-- the token in front, and what follows it
unfoldable pub token_at : List ℕ → Option (Word × List ℕ)
token_at [] = None
token_at (byte ∷ bytes) =
    if is_letter byte then Some (name_at (byte ∷ bytes))
    else if is_digit byte then number_at (byte ∷ bytes)
    else mark_at (byte ∷ bytes)

-- the line and the text behind blanks and comments; at first in a comment, or in none
unfoldable pub skip : Bool → ℕ → List ℕ → ℕ × List ℕ
skip comment line [] = (line, [])
skip comment line (byte ∷ bytes) =
    if byte == 10 then skip false (line + 1) bytes
    else if comment || is_blank byte then skip comment line bytes
    else if byte == 47 && begins (λ next. next == 47) bytes then skip true line bytes
    else (line, byte ∷ bytes)

-- how a text ends. None: nothing is left. Some line: something is left on this line, and no token begins there
abbrev pub EndsAt : ℕ × List ℕ → Option ℕ → Type 0
EndsAt at None = at.1 ≡ []
EndsAt at (Some line) = (line ≡ at.0) × (0 < length at.1) × (token_at at.1 ≡ None)

-- from this line and text on, these are the tokens, and the text ends so
abbrev pub TokensFrom : ℕ × List ℕ → List Tok → Option ℕ → Type 0
TokensFrom at [] end = EndsAt at end
TokensFrom at (tok ∷ toks) end =
    (tok.line ≡ at.0) × IsSomeAnd (token_at at.1) (λ found. (found.0 ≡ tok.word) × TokensFrom (skip false at.0 found.1) toks end)

-- these are the text's tokens
abbrev pub AreTokens : List ℕ → List Tok → Type 0
AreTokens text toks = TokensFrom (skip false 1 text) toks None

-- the same in a file, where tokens have places: the first line is the file's first place. In file 0 they are the text's tokens
abbrev pub AreTokensIn : ℕ → List ℕ → List Tok → Type 0
AreTokensIn file text toks = TokensFrom (skip false (place file 1) text) toks None

-- this is the place, in this file, of the first line on which somewhere no token begins
abbrev pub IsBadIn : ℕ → List ℕ → ℕ → Type 0
IsBadIn file text line = (toks : List Tok) × TokensFrom (skip false (place file 1) text) toks (Some line)

-- the text of a file is the cause of this fault; want of memory has no cause
abbrev pub IsCause : ℕ → List ℕ → TokenFault → Type 0
IsCause file text (faults.BadToken line) = IsBadIn file text line
IsCause file text faults.NoMemory = Unit {0}
