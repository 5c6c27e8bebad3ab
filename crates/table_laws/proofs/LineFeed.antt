-- A line feed behind a printed JSON value is no token.
use Rattle.std.proofs.Common.{◌≡◌, ℕ, Bool, true, false, cond, ◌&&◌, List, [], ◌∷◌, ◌++◌, refl, sym, ap, ap₂, ◌∙◌, append_assoc, append-nil}
use Rattle.json.specs.Token.{Token, begin_object, end_object, begin_array, end_array, key, string, number, boolean, null, bad}
use Rattle.json.specs.Word.{ends_word, word}
use Rattle.json.specs.Lex.{token, comma, colon, string_token, lex, between, fresh, punctuate, tokens}
use Rattle.json.specs.Print.{escape, quoted, token_text, begins, ends, print_from, print, IsPrintable, ArePrintable}
use Rattle.json.proofs.Printed.Strings.{content-escape, lex-escape}
use Rattle.json.proofs.Printed.Numbers.{lex-number, in_word-ended}

-- behind what is printed of some tokens may stand either of two texts
record AreEnds (r s : List ℕ) : Type 0 where
  first : ends_word r ≡ true
  second : ends_word s ≡ true
  alike : lex between r ≡ lex between s

string_read : (x r : List ℕ) → lex between (quoted x ++ r) ≡ token (string x) ∷ lex between r
unfolding lex
string_read x r =
    let split : lex between (34 ∷ ((escape x ++ 34 ∷ []) ++ r)) ≡ lex between (34 ∷ (escape x ++ 34 ∷ r)) = ap (λ l. lex between (34 ∷ l)) (append_assoc (escape x) (34 ∷ []) r) in
    split ∙ (λ i. token (string_token (content-escape x r i)) ∷ lex-escape x r i)

strings_alike : (x r s : List ℕ) → lex between r ≡ lex between s → lex between (quoted x ++ r) ≡ lex between (quoted x ++ s)
strings_alike x r s e = string_read x r ∙ ap (λ l. token (string x) ∷ l) e ∙ sym (string_read x s)

keys_alike : (x r s : List ℕ) → lex between r ≡ lex between s → lex between ((quoted x ++ 58 ∷ []) ++ r) ≡ lex between ((quoted x ++ 58 ∷ []) ++ s)
unfolding lex
keys_alike x r s e =
    ap (lex between) (append_assoc (quoted x) (58 ∷ []) r) ∙ strings_alike x (58 ∷ r) (58 ∷ s) (ap (λ l. colon ∷ l) e) ∙ sym (ap (lex between) (append_assoc (quoted x) (58 ∷ []) s))

tokens_alike : (t : Token) (r s : List ℕ) → IsPrintable t → (ends t ≡ true → AreEnds r s) → lex between r ≡ lex between s → lex between (token_text t ++ r) ≡ lex between (token_text t ++ s)
unfolding lex word
tokens_alike begin_object r s h w e = ap (λ l. token begin_object ∷ l) e
tokens_alike end_object r s h w e = ap (λ l. token end_object ∷ l) e
tokens_alike begin_array r s h w e = ap (λ l. token begin_array ∷ l) e
tokens_alike end_array r s h w e = ap (λ l. token end_array ∷ l) e
tokens_alike (key x) r s h w e = keys_alike x r s e
tokens_alike (string x) r s h w e = strings_alike x r s e
tokens_alike (number x) r s h w e = lex-number x r h (w refl).first ∙ ap (λ l. token (number x) ∷ l) e ∙ sym (lex-number x s h (w refl).second)
tokens_alike (boolean true) r s h w e =
    ap₂ (λ b l. token (cond b (boolean true) bad) ∷ l) ((w refl).first ∙ sym (w refl).second) (in_word-ended r (w refl).first ∙ e ∙ sym (in_word-ended s (w refl).second))
tokens_alike (boolean false) r s h w e =
    ap₂ (λ b l. token (cond b (boolean false) bad) ∷ l) ((w refl).first ∙ sym (w refl).second) (in_word-ended r (w refl).first ∙ e ∙ sym (in_word-ended s (w refl).second))
tokens_alike null r s h w e =
    ap₂ (λ b l. token (cond b null bad) ∷ l) ((w refl).first ∙ sym (w refl).second) (in_word-ended r (w refl).first ∙ e ∙ sym (in_word-ended s (w refl).second))
tokens_alike bad r s h w e = absurd h

commas_alike : (b : Bool) (r s : List ℕ) → lex between r ≡ lex between s → lex between (cond b (44 ∷ []) [] ++ r) ≡ lex between (cond b (44 ∷ []) [] ++ s)
unfolding lex
commas_alike true r s e = ap (λ l. comma ∷ l) e
commas_alike false r s e = e

-- a value ends before a comma, a closing bracket and what ends a word
value_ends : (ts : List Token) (r : List ℕ) → ends_word r ≡ true → ends_word (print_from true ts ++ r) ≡ true
unfolding print_from
value_ends [] r h = h
value_ends (begin_object ∷ ts) r h = refl
value_ends (end_object ∷ ts) r h = refl
value_ends (begin_array ∷ ts) r h = refl
value_ends (end_array ∷ ts) r h = refl
value_ends (key x ∷ ts) r h = refl
value_ends (string x ∷ ts) r h = refl
value_ends (number x ∷ ts) r h = refl
value_ends (boolean b ∷ ts) r h = refl
value_ends (null ∷ ts) r h = refl
value_ends (bad ∷ ts) r h = refl

three : (a b c r : List ℕ) → (a ++ (b ++ c)) ++ r ≡ a ++ (b ++ (c ++ r))
three a b c r = append_assoc a (b ++ c) r ∙ ap (λ l. a ++ l) (append_assoc b c r)

printed_alike : (behind : Bool) (ts : List Token) (r s : List ℕ) → ArePrintable ts → AreEnds r s → lex between (print_from behind ts ++ r) ≡ lex between (print_from behind ts ++ s)
unfolding print_from ArePrintable
printed_alike behind [] r s h w = w.alike
printed_alike behind (t ∷ ts) r s h w =
    let comma = cond (behind && begins t) (44 ∷ []) [] in
    let rest = print_from (ends t) ts in
    ap (lex between) (three comma (token_text t) rest r)
    ∙ commas_alike (behind && begins t) (token_text t ++ (rest ++ r)) (token_text t ++ (rest ++ s))
    (tokens_alike t (rest ++ r) (rest ++ s) h.0 (λ e. record {
      first = ap (λ b. ends_word (print_from b ts ++ r)) e ∙ value_ends ts r w.first;
      second = ap (λ b. ends_word (print_from b ts ++ s)) e ∙ value_ends ts s w.second;
      alike = printed_alike (ends t) ts r s h.1 w;
    }) (printed_alike (ends t) ts r s h.1 w))
    ∙ sym (ap (lex between) (three comma (token_text t) rest s))

line_or_end : AreEnds (10 ∷ []) []
unfolding lex
line_or_end = record { first = refl; second = refl; alike = refl }

-- the tokens of a printed text with a line feed behind it are those of the text
pub tokens_line : (ts : List Token) → ArePrintable ts → tokens (print ts ++ 10 ∷ []) ≡ tokens (print ts)
tokens_line ts h = ap (punctuate fresh) (printed_alike false ts (10 ∷ []) [] h line_or_end ∙ ap (lex between) (append-nil (print ts)))
