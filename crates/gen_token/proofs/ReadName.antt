-- The name or the keyword that is read in front of a text is the token there.
use Rattle.std.proofs.Common.{[], ◌≡◌, ℕ, ◌+◌, ◌≤◌, suc, true, List, ◌∷◌, ◌++◌, Bool, ◌&&◌, is_none, Option, Some, None, bytes_eq, refl, sym, length, take, arith, ◌∙◌, ap, drop, false}
use Rattle.std.specs.List.{prefix_len, list_all}
use Rattle.std.proofs.lemmas.List.{take-append-drop}
use Rattle.std.proofs.Math.Seq.{drop-append_seam, take-append_seam}
use Rattle.std.proofs.lemmas.List.Folds.{length-prefix_len}
use Rattle.std.proofs.lemmas.Slice.Eq.{bytes_eq-Decides}
use Rattle.gen_token.specs.declared.keyword.Keyword.{Keyword}
use Rattle.gen_token.specs.declared.keyword.Keyword.TheVariants as keyword
use Rattle.gen_token.specs.Bytes.{is_letter, is_name_byte, begins}
use Rattle.gen_token.specs.Keywords.{keyword_text, keywords, keyword_of}
use Rattle.gen_token.specs.Spelling.{is_name, is_name_text, Spells, IsLongest, IsName, goes_on, IsTokenOf}
use Rattle.gen_token.specs.Tokens.{word_or, name_at}
use Rattle.gen_token.specs.Words.{Word, Name, Number, Literal, Reserved, Sign}
use Rattle.gen_token.proofs.Beginnings.{text_begins, letter_or_digit, letter_or_sign, name_letter, name_passes, keyword_passes}
use Rattle.gen_token.proofs.Fronts.{front_of, passes}
use Rattle.gen_token.proofs.Searches.{find_passes}

-- a keyword's text is that keyword
keyword_again : (keyword : Keyword) → keyword_of (keyword_text keyword) ≡ Some keyword
keyword_again keyword.Module = refl
keyword_again keyword.Input = refl
keyword_again keyword.Output = refl
keyword_again keyword.Wire = refl
keyword_again keyword.Reg = refl
keyword_again keyword.Inst = refl
keyword_again keyword.Comb = refl
keyword_again keyword.Ff = refl
keyword_again keyword.For = refl
keyword_again keyword.In = refl
keyword_again keyword.Gen = refl
keyword_again keyword.If = refl
keyword_again keyword.Else = refl
keyword_again keyword.Let = refl
keyword_again keyword.Bits = refl
keyword_again keyword.Cat = refl
keyword_again keyword.Zext = refl
keyword_again keyword.Mux = refl
keyword_again keyword.All = refl
keyword_again keyword.Any = refl
keyword_again keyword.Parity = refl
keyword_again keyword.Clk = refl
keyword_again keyword.Case = refl
keyword_again keyword.Default = refl
keyword_again keyword.Import = refl

-- a keyword that is found is spelled
keyword_spelled : (word : List ℕ) (keyword : Keyword) → keyword_of word ≡ Some keyword → word ≡ keyword_text keyword
keyword_spelled word keyword e =
    sym ((bytes_eq-Decides (keyword_text keyword) word).0 (find_passes (λ keyword. bytes_eq (keyword_text keyword) word) keywords keyword e))

-- the word up to where no name byte follows is a name or a keyword
word_spelled : (word : List ℕ) (keyword : Option Keyword) → keyword_of word ≡ keyword → is_name_text word ≡ true → Spells (word_or keyword word) word
word_spelled word (Some keyword) e h = keyword_spelled word keyword e
word_spelled word None e h = (
  refl,
  record {
    text = h;
    free = λ keyword same. let found : keyword_of word ≡ Some keyword = rw same (keyword_again keyword) in cc;
  },
)

-- no other word goes on further than name bytes do
name_longest : (byte : ℕ) (bytes : List ℕ) → is_letter byte ≡ true → (other : Word) (front more : List ℕ) → byte ∷ bytes ≡ front ++ more → Spells other front → length front ≤ prefix_len is_name_byte (byte ∷ bytes)
name_longest byte bytes letter (Name name) front more e h = front_of is_name_byte (byte ∷ bytes) front more e (name_passes front h.1.text)
name_longest byte bytes letter (Reserved keyword) front more e h = front_of is_name_byte (byte ∷ bytes) front more e (rw h (keyword_passes keyword))
name_longest byte bytes letter (Number number) front more e h = absurd (letter_or_digit byte letter (text_begins (Number number) (byte ∷ bytes) front more e h))
name_longest byte bytes letter (Literal width value) front more e h = absurd (letter_or_digit byte letter (text_begins (Literal width value) (byte ∷ bytes) front more e h))
name_longest byte bytes letter (Sign mark) front more e h = absurd (letter_or_sign byte letter (text_begins (Sign mark) (byte ∷ bytes) front more e h))

name_text : (byte : ℕ) (bytes : List ℕ) → is_letter byte ≡ true → is_name_text (take (prefix_len is_name_byte (byte ∷ bytes)) (byte ∷ bytes)) ≡ true
name_text byte bytes letter =
    let more : 1 + prefix_len is_name_byte bytes ≡ suc (prefix_len is_name_byte bytes) = omega arith in
    rw (name_letter byte letter, more, letter) (passes is_name_byte bytes)

apart_word : (keyword : Option Keyword) (word rest : List ℕ) → begins (goes_on (word_or keyword word)) rest ≡ false
apart_word None word [] = refl
apart_word None word (byte ∷ bytes) = refl
apart_word (Some keyword) word [] = refl
apart_word (Some keyword) word (byte ∷ bytes) = refl

pub name_is_token : (byte : ℕ) (bytes : List ℕ) → is_letter byte ≡ true → IsTokenOf (byte ∷ bytes) (name_at (byte ∷ bytes)).0 (name_at (byte ∷ bytes)).1
unfolding name_at
name_is_token byte bytes letter =
    let text = byte ∷ bytes in
    let count = prefix_len is_name_byte text in
    let longest : IsLongest text (word_or (keyword_of (take count text)) (take count text)) (drop count text) = record {
      lexeme = take count text;
      split = sym (take-append-drop count text);
      spelled = word_spelled (take count text) (keyword_of (take count text)) refl (name_text byte bytes letter);
      longest = λ other front more e h. rw (length-prefix_len is_name_byte text) (name_longest byte bytes letter other front more e h);
    } in
    record { longest = longest; apart = apart_word (keyword_of (take count text)) (take count text) (drop count text) }

-- the token in front of a text, where it is a name or a keyword, is what is read
word_again : (byte : ℕ) (bytes : List ℕ) → is_letter byte ≡ true → (word : Word) (rest : List ℕ) (l : IsLongest (byte ∷ bytes) word rest) → list_all is_name_byte l.lexeme ≡ true → word_or (keyword_of l.lexeme) l.lexeme ≡ word → name_at (byte ∷ bytes) ≡ (word, rest)
unfolding name_at
word_again byte bytes letter word rest l passed is =
    let text = byte ∷ bytes in
    let count = prefix_len is_name_byte text in
    let least : length l.lexeme ≤ count = front_of is_name_byte text l.lexeme rest l.split passed in
    let size : length (take count text) ≡ count = length-prefix_len is_name_byte text in
    let most : length (take count text) ≤ length l.lexeme =
    l.longest (word_or (keyword_of (take count text)) (take count text)) (take count text) (drop count text) (sym (take-append-drop count text))
    (word_spelled (take count text) (keyword_of (take count text)) refl (name_text byte bytes letter)) in
    let same : count ≡ length l.lexeme = omega (arith, least, size, most) in
    let front : take count text ≡ l.lexeme = ap (λ (n : ℕ). take n text) same ∙ ap (take (length l.lexeme)) l.split ∙ take-append_seam l.lexeme rest in
    let back : drop count text ≡ rest = ap (λ (n : ℕ). drop n text) same ∙ ap (drop (length l.lexeme)) l.split ∙ drop-append_seam l.lexeme rest in
    let here : word_or (keyword_of (take count text)) (take count text) ≡ word = ap (λ (w : List ℕ). word_or (keyword_of w) w) front ∙ is in
    λ i. (here i, back i)

no_keyword : (word : List ℕ) (keyword : Option Keyword) → keyword_of word ≡ keyword → IsName word → keyword_of word ≡ None
no_keyword word None e h = e
no_keyword word (Some keyword) e h = absurd (h.free keyword (keyword_spelled word keyword e))

pub name_again : (byte : ℕ) (bytes name rest : List ℕ) → is_letter byte ≡ true → (l : IsLongest (byte ∷ bytes) (Name name) rest) → name_at (byte ∷ bytes) ≡ (Name name, rest)
name_again byte bytes name rest letter l =
    let none : keyword_of l.lexeme ≡ None = no_keyword l.lexeme (keyword_of l.lexeme) refl (l.spelled.1) in
    let is : word_or (keyword_of l.lexeme) l.lexeme ≡ Name name = rw none (ap (λ (n : List ℕ). Name n) l.spelled.0) in
    word_again byte bytes letter (Name name) rest l (name_passes l.lexeme l.spelled.1.text) is

pub keyword_is_again : (byte : ℕ) (bytes : List ℕ) (keyword : Keyword) (rest : List ℕ) → is_letter byte ≡ true → (l : IsLongest (byte ∷ bytes) (Reserved keyword) rest) → name_at (byte ∷ bytes) ≡ (Reserved keyword, rest)
keyword_is_again byte bytes keyword rest letter l =
    let spelled : l.lexeme ≡ keyword_text keyword = l.spelled in
    let found : keyword_of l.lexeme ≡ Some keyword = ap keyword_of spelled ∙ keyword_again keyword in
    let is : word_or (keyword_of l.lexeme) l.lexeme ≡ Reserved keyword = rw found refl in
    let passed : list_all is_name_byte l.lexeme ≡ true = ap (list_all is_name_byte) spelled ∙ keyword_passes keyword in
    word_again byte bytes letter (Reserved keyword) rest l passed is

-- the test of a name tells
name_by : (a b : Bool) → (a && b) ≡ true → (a ≡ true) × (b ≡ true)
name_by true b e = (refl, e)
name_by false b e = absurd cc

none_by : (o : Option Keyword) → is_none o ≡ true → o ≡ None
none_by None e = refl
none_by (Some keyword) e = absurd cc

pub name_from_test : (bytes : List ℕ) → is_name bytes ≡ true → IsName bytes
unfolding is_name
name_from_test bytes e =
    let both = name_by (is_name_text bytes) (is_none (keyword_of bytes)) e in
    (word_spelled bytes None (none_by (keyword_of bytes) both.1) both.0).1

pub test_from_name : (bytes : List ℕ) → IsName bytes → is_name bytes ≡ true
unfolding is_name
test_from_name bytes h = rw (h.text, no_keyword bytes (keyword_of bytes) refl h) refl
