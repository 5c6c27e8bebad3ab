-- The words of a text, from left to right.
use Rattle.std.proofs.Common.{◌≡◌, ℕ, suc, ◌+◌, ◌<◌, ◌≤◌, Bool, true, false, cond, List, [], ◌∷◌, length, take, drop, get_or, refl, sym, ◌∙◌, ap, arith}
use Rattle.std.specs.Prelude.{not}
use Rattle.std.specs.List.{prefix_len, position_or_len}
use Rattle.std.proofs.Math.Numerals.{one-add}
use Rattle.std.proofs.lemmas.Grind.{common_steps}
use Rattle.std.proofs.lemmas.List.{get_or-drop}
use Rattle.std.proofs.lemmas.List.Sums.{prefix_len_stops}
use Rattle.vcd_read.specs.Words.{Word, is_blank, word_in_front, words_from}

-- one byte more is passed over
further : (inside : Bool) (at n : ℕ) (byte : ℕ) (bytes : List ℕ) → words_from inside (at + 1 + n) (drop n bytes) ≡ words_from inside (at + (1 + n)) (drop (1 + n) (byte ∷ bytes))
further inside at n byte bytes =
    ap (λ m. words_from inside m (drop n bytes)) (omega arith) ∙ ap (λ m. words_from inside (at + (1 + n)) (drop m (byte ∷ bytes))) (sym (one-add n))

none_passed : (at : ℕ) (inside : Bool) (bytes : List ℕ) → words_from inside at bytes ≡ words_from inside (at + 0) bytes
none_passed at inside bytes = ap (λ m. words_from inside m bytes) (omega arith)

blank_by : (at byte : ℕ) (bytes : List ℕ) (b : Bool) → is_blank byte ≡ b
    → words_from false (at + 1) bytes ≡ words_from false (at + 1 + prefix_len is_blank bytes) (drop (prefix_len is_blank bytes) bytes)
    → words_from false at (byte ∷ bytes) ≡ words_from false (at + cond b (1 + prefix_len is_blank bytes) 0) (drop (cond b (1 + prefix_len is_blank bytes) 0) (byte ∷ bytes))
blank_by at byte bytes true e more =
    let one : words_from false at (byte ∷ bytes) ≡ words_from false (at + 1) bytes = rw e refl in
    one ∙ more ∙ further false at (prefix_len is_blank bytes) byte bytes
blank_by at byte bytes false e more = none_passed at false (byte ∷ bytes)

-- blanks in front hold no word
pub behind_blanks : (at : ℕ) (bytes : List ℕ) → words_from false at bytes ≡ words_from false (at + prefix_len is_blank bytes) (drop (prefix_len is_blank bytes) bytes)
behind_blanks at [] = refl
behind_blanks at (byte ∷ bytes) = blank_by at byte bytes (is_blank byte) refl (behind_blanks (at + 1) bytes)

inside_by : (at byte : ℕ) (bytes : List ℕ) (b : Bool) → is_blank byte ≡ b
    → words_from true (at + 1) bytes ≡ words_from false (at + 1 + position_or_len is_blank bytes) (drop (position_or_len is_blank bytes) bytes)
    → words_from true at (byte ∷ bytes) ≡ words_from false (at + cond (not b) (1 + position_or_len is_blank bytes) 0) (drop (cond (not b) (1 + position_or_len is_blank bytes) 0) (byte ∷ bytes))
inside_by at byte bytes true e more =
    let one : words_from true at (byte ∷ bytes) ≡ words_from false (at + 1) bytes = rw e refl in
    let same : words_from false (at + 0) (byte ∷ bytes) ≡ words_from false (at + 0 + 1) bytes = rw e refl in
    one ∙ ap (λ m. words_from false m bytes) (omega arith) ∙ sym same
inside_by at byte bytes false e more =
    let one : words_from true at (byte ∷ bytes) ≡ words_from true (at + 1) bytes = rw e refl in
    one ∙ more ∙ further false at (position_or_len is_blank bytes) byte bytes

-- a word goes on up to the next blank
pub behind_word : (at : ℕ) (bytes : List ℕ) → words_from true at bytes ≡ words_from false (at + position_or_len is_blank bytes) (drop (position_or_len is_blank bytes) bytes)
behind_word at [] = refl
behind_word at (byte ∷ bytes) = inside_by at byte bytes (is_blank byte) refl (behind_word (at + 1) bytes)

begins_by : (at byte : ℕ) (bytes : List ℕ) → is_blank byte ≡ false → words_from false at (byte ∷ bytes) ≡ record { at = at; bytes = word_in_front (byte ∷ bytes) } ∷ words_from true (at + 1) bytes
begins_by at byte bytes e = rw e refl

-- the same byte read inside a word
inside : (at byte : ℕ) (bytes : List ℕ) → is_blank byte ≡ false → words_from true (at + 1) bytes ≡ words_from true at (byte ∷ bytes)
inside at byte bytes e = rw e refl

-- what begins with no blank begins with a word
word_first : (at : ℕ) (text : List ℕ) → 0 < length text → is_blank (get_or text 0 0) ≡ false
    → words_from false at text ≡ record { at = at; bytes = word_in_front text } ∷ words_from false (at + position_or_len is_blank text) (drop (position_or_len is_blank text) text)
word_first at [] some e = absurd (omega arith)
word_first at (byte ∷ bytes) some e =
    begins_by at byte bytes e ∙ ap (λ (words : List Word). record { at = at; bytes = word_in_front (byte ∷ bytes) } ∷ words) (inside at byte bytes e ∙ behind_word at (byte ∷ bytes))

-- what is left behind the blanks begins with no blank
blanks_stop : (text : List ℕ) → 0 < length (drop (prefix_len is_blank text) text) → is_blank (get_or (drop (prefix_len is_blank text) text) 0 0) ≡ false
blanks_stop text some =
    let n = prefix_len is_blank text in
    let within : n < length text = grind (arith, common_steps) in
    let first : get_or (drop n text) 0 0 ≡ get_or text n 0 = get_or-drop n text 0 0 ∙ ap (λ i. get_or text i 0) (omega arith) in
    rw first (prefix_len_stops is_blank text 0 within)

-- the first word, and what follows it
pub first_word : (at : ℕ) (rest text : List ℕ) → text ≡ drop (prefix_len is_blank rest) rest → 0 < length text
    → words_from false at rest ≡ record { at = at + prefix_len is_blank rest; bytes = take (position_or_len is_blank text) text }
    ∷ words_from false (at + prefix_len is_blank rest + position_or_len is_blank text) (drop (position_or_len is_blank text) text)
first_word at rest text is some =
    let some' : 0 < length (drop (prefix_len is_blank rest) rest) = rw is at some in
    let stops : is_blank (get_or text 0 0) ≡ false = rw is (blanks_stop rest some') in
    behind_blanks at rest ∙ ap (words_from false (at + prefix_len is_blank rest)) (sym is) ∙ word_first (at + prefix_len is_blank rest) text some stops

-- blanks alone are no word
pub no_word : (at : ℕ) (rest text : List ℕ) → text ≡ drop (prefix_len is_blank rest) rest → length text ≡ 0 → words_from false at rest ≡ []
no_word at rest [] is none = behind_blanks at rest ∙ ap (words_from false (at + prefix_len is_blank rest)) (sym is)
no_word at rest (byte ∷ text) is none = absurd (omega arith)

fewer_by : (inside b : Bool) (word : Word) (m n : ℕ) (others ins : List Word) → length others ≤ n → length ins ≤ n → length (cond b others (cond inside ins (word ∷ ins))) ≤ suc n
fewer_by inside true word m n others ins p q = omega arith
fewer_by true false word m n others ins p q = omega arith
fewer_by false false word m n others ins p q = omega arith

-- there are no more words than bytes
pub length-words_from : (inside : Bool) (at : ℕ) (bytes : List ℕ) → length (words_from inside at bytes) ≤ length bytes
length-words_from inside at [] = omega arith
length-words_from inside at (byte ∷ bytes) =
    fewer_by inside (is_blank byte) (record { at = at; bytes = word_in_front (byte ∷ bytes) }) 0 (length bytes) (words_from false (at + 1) bytes) (words_from true (at + 1) bytes) (length-words_from false (at + 1) bytes) (length-words_from true (at + 1) bytes)
