-- Words of a text that is read word by word.
use Rattle.std.proofs.Common.{◌≡◌, ℕ, suc, ◌+◌, Bool, true, false, true≢false, cond, List, [], ◌∷◌, ◌++◌, length, take, Result, Ok, refl, sym, ap, ap₂, ◌∙◌, arith, append_assoc}
use Rattle.std.specs.Prelude.{not, ◌&&◌}
use Rattle.std.specs.List.{list_all, position_or_len}
use Rattle.std.proofs.Math.Seq.{take-append_seam}
use Rattle.vcd_read.specs.declared.fault.VcdFault.{VcdFault}
use Rattle.vcd_read.specs.Words.{Word, is_blank, word_in_front, words_from, has_bytes}
use Rattle.vcd_read.specs.Meaning.{Meaning, Place, State, step, told_by}

-- a byte of a word
abbrev pub solid : ℕ → Bool
solid byte = not (is_blank byte)

pub record IsWord (word : List ℕ) : Type 0 where
  pub some : has_bytes word ≡ true
  pub all : list_all solid word ≡ true

pub and_left : (b c : Bool) → (b && c) ≡ true → b ≡ true
and_left true c e = refl
and_left false c e = e

pub and_right : (b c : Bool) → (b && c) ≡ true → c ≡ true
and_right true c e = e
and_right false c e = absurd (true≢false (sym e))

pub both : (b c : Bool) → b ≡ true → c ≡ true → (b && c) ≡ true
both true c e f = f
both false c e f = e

pub not_true : (b : Bool) → not b ≡ true → b ≡ false
not_true true e = sym e
not_true false e = refl

inside : (at : ℕ) (word : List ℕ) (sep : ℕ) (rest : List ℕ) → list_all solid word ≡ true → is_blank sep ≡ true → words_from true at (word ++ sep ∷ rest) ≡ words_from false (at + length word + 1) rest
inside at [] sep rest all blank =
    let one : words_from true at (sep ∷ rest) ≡ words_from false (at + 1) rest = rw blank refl in
    one ∙ ap (λ n. words_from false n rest) (let e : at + 1 ≡ at + 0 + 1 = omega arith in e)
inside at (byte ∷ word) sep rest all blank =
    let here : is_blank byte ≡ false = not_true (is_blank byte) (and_left (solid byte) (list_all solid word) all) in
    let one : words_from true at (byte ∷ (word ++ sep ∷ rest)) ≡ words_from true (at + 1) (word ++ sep ∷ rest) = rw here refl in
    one ∙ inside (at + 1) word sep rest (and_right (solid byte) (list_all solid word) all) blank
    ∙ ap (λ n. words_from false n rest) (let e : at + 1 + length word + 1 ≡ at + suc (length word) + 1 = omega arith in e)

stops : (word : List ℕ) (sep : ℕ) (rest : List ℕ) → list_all solid word ≡ true → is_blank sep ≡ true → position_or_len is_blank (word ++ sep ∷ rest) ≡ length word
stops [] sep rest all blank = ap (λ b. cond (not b) (1 + position_or_len is_blank rest) 0) blank
stops (byte ∷ word) sep rest all blank =
    ap (λ b. cond b (1 + position_or_len is_blank (word ++ sep ∷ rest)) 0) (and_left (solid byte) (list_all solid word) all)
    ∙ ap (λ n. 1 + n) (stops word sep rest (and_right (solid byte) (list_all solid word) all) blank)
    ∙ (let e : 1 + length word ≡ suc (length word) = omega arith in e)

in_front : (word : List ℕ) (sep : ℕ) (rest : List ℕ) → list_all solid word ≡ true → is_blank sep ≡ true → word_in_front (word ++ sep ∷ rest) ≡ word
in_front word sep rest all blank = ap (λ n. take n (word ++ sep ∷ rest)) (stops word sep rest all blank) ∙ take-append_seam word (sep ∷ rest)

-- a word, and what stands behind the blank that ends it
word_first : (at : ℕ) (word : List ℕ) (sep : ℕ) (rest : List ℕ) → IsWord word → is_blank sep ≡ true
    → words_from false at (word ++ sep ∷ rest) ≡ record { at = at; bytes = word } ∷ words_from false (at + length word + 1) rest
word_first at [] sep rest is blank = absurd (true≢false (sym is.some))
word_first at (byte ∷ word) sep rest is blank =
    let here : is_blank byte ≡ false = not_true (is_blank byte) (and_left (solid byte) (list_all solid word) is.all) in
    let one : words_from false at (byte ∷ (word ++ sep ∷ rest)) ≡ record { at = at; bytes = word_in_front (byte ∷ (word ++ sep ∷ rest)) } ∷ words_from true (at + 1) (word ++ sep ∷ rest) = rw here refl in
    one
    ∙ ap₂ (λ (bytes : List ℕ) (words : List Word). record { at = at; bytes = bytes } ∷ words) (in_front (byte ∷ word) sep rest is.all blank)
    (inside (at + 1) word sep rest (and_right (solid byte) (list_all solid word) is.all) blank
    ∙ ap (λ n. words_from false n rest) (let e : at + 1 + length word + 1 ≡ at + suc (length word) + 1 = omega arith in e))

-- what a text tells that is read at a place, where so many bytes were passed
abbrev pub reads : Place → State → ℕ → List ℕ → Result Meaning VcdFault
reads place state at text = told_by place state (words_from false at text)

-- a text leads from a place to another
pub record Goes (p : Place) (s : State) (text : List ℕ) (q : Place) (t : State) : Type 0 where
  pub behind : ℕ → ℕ
  pub goes : (at : ℕ) (rest : List ℕ) → reads p s at (text ++ rest) ≡ reads q t (behind at) rest

pub none_goes : (p : Place) (s : State) → Goes p s [] p s
none_goes p s = record { behind = λ at. at; goes = λ at rest. refl }

pub then_goes : (p q r : Place) (s t u : State) (a b : List ℕ) → Goes p s a q t → Goes q t b r u → Goes p s (a ++ b) r u
then_goes p q r s t u a b x y = record {
  behind = λ at. y.behind (x.behind at);
  goes = λ at rest. ap (reads p s at) (append_assoc a b rest) ∙ x.goes at (b ++ rest) ∙ y.goes (x.behind at) rest;
}

-- one word, and what follows on its line; the place behind it may depend on where it stands
pub word_goes : (p r : Place) (q : ℕ → Place) (s t u : State) (word tail : List ℕ) (sep : ℕ) → IsWord word → is_blank sep ≡ true
    → ((at : ℕ) → step p s (record { at = at; bytes = word }) ≡ Ok (q at, t)) → ((at : ℕ) → Goes (q at) t tail r u) → Goes p s (word ++ sep ∷ tail) r u
word_goes p r q s t u word tail sep is blank one more = record {
  behind = λ at. (more at).behind (at + length word + 1);
  goes = λ at rest.
      let split : (word ++ sep ∷ tail) ++ rest ≡ word ++ sep ∷ (tail ++ rest) = append_assoc word (sep ∷ tail) rest in
      let next : told_by p s (record { at = at; bytes = word } ∷ words_from false (at + length word + 1) (tail ++ rest)) ≡ told_by (q at) t (words_from false (at + length word + 1) (tail ++ rest)) = rw (one at) refl in
      ap (reads p s at) split ∙ ap (told_by p s) (word_first at word sep (tail ++ rest) is blank) ∙ next ∙ (more at).goes (at + length word + 1) rest;
}
