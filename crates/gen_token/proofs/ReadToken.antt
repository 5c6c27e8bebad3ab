-- What is read in front of a text is the token there.
use Rattle.std.proofs.Common.{◌≡◌, ◌↔◌, ℕ, Bool, true, false, cond, List, [], ◌∷◌, Some, refl, ap, subst}
use Rattle.text_core.specs.Digits.{is_digit}
use Rattle.gen_token.specs.Bytes.{is_letter, begins}
use Rattle.gen_token.specs.Spelling.{IsTokenOf}
use Rattle.gen_token.specs.Tokens.{name_at, number_at, mark_at, token_at}
use Rattle.gen_token.specs.Words.{Word, Name, Number, Literal, Reserved, Sign}
use Rattle.gen_token.proofs.Beginnings.{is_sign, first_of, text_begins, letter_or_digit, letter_or_sign, digit_or_sign}
use Rattle.gen_token.proofs.ReadMark.{mark_is_token, mark_again}
use Rattle.gen_token.proofs.ReadName.{name_is_token, name_again, keyword_is_again}
use Rattle.gen_token.proofs.ReadNumber.{number_is_token, number_again, literal_again}

by_first : (byte : ℕ) (bytes : List ℕ) (letter digit : Bool) → is_letter byte ≡ letter → is_digit byte ≡ digit → (word : Word) (rest : List ℕ)
    → cond letter (Some (name_at (byte ∷ bytes))) (cond digit (number_at (byte ∷ bytes)) (mark_at (byte ∷ bytes))) ≡ Some (word, rest) → IsTokenOf (byte ∷ bytes) word rest
by_first byte bytes true digit l d word rest h =
    let same : name_at (byte ∷ bytes) ≡ (word, rest) = cc in
    subst (λ (at : Word × List ℕ). IsTokenOf (byte ∷ bytes) at.0 at.1) same (name_is_token byte bytes l)
by_first byte bytes false true l d word rest h = number_is_token (byte ∷ bytes) d word rest h
by_first byte bytes false false l d word rest h = mark_is_token byte bytes l d word rest h

is_token : (text : List ℕ) (word : Word) (rest : List ℕ) → token_at text ≡ Some (word, rest) → IsTokenOf text word rest
unfolding token_at
is_token [] word rest h = absurd (cc)
is_token (byte ∷ bytes) word rest h = by_first byte bytes (is_letter byte) (is_digit byte) refl refl word rest h

no_letter : (byte : ℕ) (letter : Bool) → is_letter byte ≡ letter → is_digit byte ≡ true → is_letter byte ≡ false
no_letter byte false e h = e
no_letter byte true e h = absurd (letter_or_digit byte e h)

not_letter : (byte : ℕ) (letter : Bool) → is_letter byte ≡ letter → is_sign byte ≡ true → is_letter byte ≡ false
not_letter byte false e h = e
not_letter byte true e h = absurd (letter_or_sign byte e h)

not_digit : (byte : ℕ) (digit : Bool) → is_digit byte ≡ digit → is_sign byte ≡ true → is_digit byte ≡ false
not_digit byte false e h = e
not_digit byte true e h = absurd (digit_or_sign byte e h)

by_word : (byte : ℕ) (bytes : List ℕ) (word : Word) (rest : List ℕ) → IsTokenOf (byte ∷ bytes) word rest → begins (first_of word) (byte ∷ bytes) ≡ true → token_at (byte ∷ bytes) ≡ Some (word, rest)
unfolding token_at
by_word byte bytes (Name name) rest t first = rw first (ap (λ (at : Word × List ℕ). Some at) (name_again byte bytes name rest first t.longest))
by_word byte bytes (Reserved keyword) rest t first = rw first (ap (λ (at : Word × List ℕ). Some at) (keyword_is_again byte bytes keyword rest first t.longest))
by_word byte bytes (Number number) rest t first = rw (no_letter byte (is_letter byte) refl first, first) (number_again (byte ∷ bytes) number rest t)
by_word byte bytes (Literal width value) rest t first = rw (no_letter byte (is_letter byte) refl first, first) (literal_again (byte ∷ bytes) width value rest t)
by_word byte bytes (Sign mark) rest t first = rw (not_letter byte (is_letter byte) refl first, not_digit byte (is_digit byte) refl first) (mark_again (byte ∷ bytes) mark rest t.longest)

is_read : (text : List ℕ) (word : Word) (rest : List ℕ) → IsTokenOf text word rest → token_at text ≡ Some (word, rest)
is_read [] word rest t = absurd (let first : begins (first_of word) [] ≡ true = text_begins word [] t.longest.lexeme rest t.longest.split t.longest.spelled in cc)
is_read (byte ∷ bytes) word rest t = by_word byte bytes word rest t (text_begins word (byte ∷ bytes) t.longest.lexeme rest t.longest.split t.longest.spelled)

pub exact : (text : List ℕ) (word : Word) (rest : List ℕ) → (token_at text ≡ Some (word, rest)) ↔ IsTokenOf text word rest
exact text word rest = (is_token text word rest, is_read text word rest)
