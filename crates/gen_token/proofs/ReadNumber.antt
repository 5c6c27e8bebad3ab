-- The number or the literal that is read in front of a text is the token there.
use Rattle.std.proofs.Common.{◌≡◌, ℕ, ◌+◌, ◌-◌, ◌^◌, ◌<◌, ◌≤◌, Bool, true, false, cond, ◌==◌, nat_le, List, [], ◌∷◌, ◌++◌, ◌⊎◌, inl, inr, Option, Some, None, refl, sym, ◌∙◌, ap, subst, length, take, drop, append_assoc, length-append, arith, lit≤, ◌||◌}
use Rattle.std.specs.Prelude.{option_and_then}
use Rattle.std.specs.List.{list_all, prefix_len}
use Rattle.std.proofs.lemmas.List.{take-append-drop}
use Rattle.std.proofs.lemmas.List.Folds.{length-prefix_len}
use Rattle.std.proofs.Math.Seq.{drop-append_seam, take-append_seam}
use Rattle.std.proofs.lemmas.Bool.Decides.{nat_tests}
use Rattle.text_core.specs.Digits.{is_digit, is_digit_of, number_of}
use Rattle.gen_token.specs.Bytes.{is_name_byte, is_word_start, begins, base_of}
use Rattle.gen_token.specs.Spelling.{AreDigits, IsLiteral, Spells, IsLongest, IsTokenOf}
use Rattle.gen_token.specs.Tokens.{digits_at, apart, value_at, after_digits, number_at}
use Rattle.gen_token.specs.Words.{Word, Name, Number, Literal, Reserved, Sign}
use Rattle.gen_token.proofs.Beginnings.{text_begins, letter_or_digit, digit_or_sign, no_name, base_bounds, digit_goes_on, start_goes_on}
use Rattle.gen_token.proofs.Fronts.{front_of, front_exact, front_stops, begins_less, passes, stops, neither}
use Rattle.gen_token.proofs.Searches.{bind_some}

-- digits that were read
record HasDigits (base most : ℕ) (text : List ℕ) (number : ℕ) (rest : List ℕ) : Type 0 where
  are : AreDigits base number (take (prefix_len (is_digit_of base) text) text)
  fits : number ≤ most
  follows : rest ≡ drop (prefix_len (is_digit_of base) text) text

-- the two tests of digits
tested : (none fits : Bool) (found : ℕ × List ℕ) (number : ℕ) (rest : List ℕ) → cond none None (cond fits (Some found) None) ≡ Some (number, rest) → (none ≡ false) × (fits ≡ true) × (found.0 ≡ number) × (found.1 ≡ rest)
tested true fits found number rest h = absurd (cc)
tested false true found number rest h = let same : found ≡ (number, rest) = cc in (refl, refl, ap (λ (at : ℕ × List ℕ). at.0) same, ap (λ (at : ℕ × List ℕ). at.1) same)
tested false false found number rest h = absurd (cc)

some_of : (count : ℕ) → (count == 0) ≡ false → 0 < count
some_of count h = grind (arith, nat_tests)

at_most : (number most : ℕ) → nat_le number most ≡ true → number ≤ most
at_most number most h = grind (arith, nat_tests)

digits_read : (base most : ℕ) (text : List ℕ) (number : ℕ) (rest : List ℕ) → digits_at base most text ≡ Some (number, rest) → HasDigits base most text number rest
unfolding digits_at
digits_read base most text number rest h =
    let count = prefix_len (is_digit_of base) text in
    let value = number_of base (take count text) in
    let t = tested (count == 0) (nat_le value most) (value, drop count text) number rest h in
    let some : 0 < count = some_of count t.0 in
    let len : length (take count text) ≡ count = length-prefix_len (is_digit_of base) text in
    let fits : value ≤ most = at_most value most t.1 in
    record {
      are = record { some = rw len some; digits = passes (is_digit_of base) text; value = sym (t.2) };
      fits = subst (λ (n : ℕ). n ≤ most) t.2 fits;
      follows = sym (t.3);
    }

-- a literal in front of a text, from the quote on
record GoesOn (text front more : List ℕ) : Type 0 where
  letter : ℕ
  base : ℕ
  back : List ℕ
  says : base_of letter ≡ Some base
  digits : list_all (is_digit_of base) back ≡ true
  follows : drop (prefix_len (is_digit_of 10) text) text ≡ 39 ∷ letter ∷ (back ++ more)
  len : length front ≡ prefix_len (is_digit_of 10) text + 2 + length back

goes_on : (text : List ℕ) (width value : ℕ) (front more : List ℕ) → text ≡ front ++ more → IsLiteral width value front → GoesOn text front more
goes_on text width value front more e h =
    let whole : text ≡ h.front ++ 39 ∷ h.letter ∷ (h.back ++ more) = e ∙ ap (λ (f : List ℕ). f ++ more) h.parts ∙ append_assoc h.front (39 ∷ h.letter ∷ h.back) more in
    let count : prefix_len (is_digit_of 10) text ≡ length h.front = ap (prefix_len (is_digit_of 10)) whole ∙ front_exact (is_digit_of 10) h.front 39 (h.letter ∷ (h.back ++ more)) h.width_digits.digits refl in
    let rest : drop (length h.front) text ≡ 39 ∷ h.letter ∷ (h.back ++ more) = ap (drop (length h.front)) whole ∙ drop-append_seam h.front (39 ∷ h.letter ∷ (h.back ++ more)) in
    let size : length front ≡ length h.front + length (39 ∷ h.letter ∷ h.back) = ap length h.parts ∙ length-append h.front (39 ∷ h.letter ∷ h.back) in
    record {
      letter = h.letter;
      base = h.base;
      back = h.back;
      says = h.says;
      digits = h.value_digits.digits;
      follows = ap (λ (n : ℕ). drop n text) count ∙ rest;
      len = omega (arith, size, count);
    }

-- a word in front of a text that begins with a digit ends with the digits, or is a literal
in_front : (text : List ℕ) → begins is_digit text ≡ true → (other : Word) (front more : List ℕ) → text ≡ front ++ more → Spells other front → (length front ≤ prefix_len (is_digit_of 10) text) ⊎ GoesOn text front more
in_front [] digit other front more e h = absurd (cc)
in_front (byte ∷ bytes) digit (Number number) front more e h = inl (front_of (is_digit_of 10) (byte ∷ bytes) front more e h.0.digits)
in_front (byte ∷ bytes) digit (Literal width value) front more e h = inr (goes_on (byte ∷ bytes) width value front more e h)
in_front (byte ∷ bytes) digit (Name name) front more e h = absurd (letter_or_digit byte (text_begins (Name name) (byte ∷ bytes) front more e h) digit)
in_front (byte ∷ bytes) digit (Reserved keyword) front more e h = absurd (letter_or_digit byte (text_begins (Reserved keyword) (byte ∷ bytes) front more e h) digit)
in_front (byte ∷ bytes) digit (Sign mark) front more e h = absurd (digit_or_sign byte digit (text_begins (Sign mark) (byte ∷ bytes) front more e h))

-- a number, where no quote follows
number_alone : (text : List ℕ) (number : ℕ) (rest : List ℕ) → begins is_digit text ≡ true → HasDigits 10 (2 ^ 62) text number rest → begins (λ byte. byte == 39) rest ≡ false → begins is_word_start rest ≡ false → IsTokenOf text (Number number) rest
number_alone text number rest digit h alone start =
    let count = prefix_len (is_digit_of 10) text in
    let ends : begins (is_digit_of 10) rest ≡ false = ap (begins (is_digit_of 10)) h.follows ∙ stops (is_digit_of 10) text in
    let longest : IsLongest text (Number number) rest = record {
      lexeme = take count text;
      split = sym (take-append-drop count text) ∙ ap (λ (r : List ℕ). take count text ++ r) (sym h.follows);
      spelled = (h.are, h.fits);
      longest = λ other front more e spelled. rw (length-prefix_len (is_digit_of 10) text) (
          elim (in_front text digit other front more e spelled) as (λ _. length front ≤ prefix_len (is_digit_of 10) text) [
            | inl within ↦ within
            | inr on ↦ absurd (let quote : begins (λ byte. byte == 39) rest ≡ true = ap (begins (λ byte. byte == 39)) (h.follows ∙ on.follows) in cc)
          ]);
    } in
    record { longest = longest; apart = neither is_name_byte (λ byte. byte == 39) rest (no_name 10 (lit≤ tt) rest start ends) alone }

-- a literal: its letter, and the digits that follow
literal : (text : List ℕ) (width letter base value : ℕ) (after rest : List ℕ) → begins is_digit text ≡ true → HasDigits 10 (2 ^ 62) text width (39 ∷ letter ∷ after) → base_of letter ≡ Some base → HasDigits base (2 ^ 128 - 1) after value rest → begins is_word_start rest ≡ false → IsTokenOf text (Literal width value) rest
literal text width letter base value after rest digit h says v start =
    let count = prefix_len (is_digit_of 10) text in
    let more = prefix_len (is_digit_of base) after in
    let after_is : after ≡ take more after ++ rest = sym (take-append-drop more after) ∙ ap (λ (r : List ℕ). take more after ++ r) (sym v.follows) in
    let front_len : length (take count text) ≡ count = length-prefix_len (is_digit_of 10) text in
    let back_len : length (take more after) ≡ more = length-prefix_len (is_digit_of base) after in
    let size : length (take count text ++ 39 ∷ letter ∷ take more after) ≡ count + 2 + more = length-append (take count text) (39 ∷ letter ∷ take more after) ∙ omega (arith, front_len, back_len) in
    let ends : begins (is_digit_of base) rest ≡ false = ap (begins (is_digit_of base)) v.follows ∙ stops (is_digit_of base) after in
    let longest : IsLongest text (Literal width value) rest = record {
      lexeme = take count text ++ 39 ∷ letter ∷ take more after;
      split = sym (take-append-drop count text) ∙ ap (λ (r : List ℕ). take count text ++ r) (sym h.follows ∙ ap (λ (a : List ℕ). 39 ∷ letter ∷ a) after_is) ∙ sym (append_assoc (take count text) (39 ∷ letter ∷ take more after) rest);
      spelled = record {
        front = take count text;
        letter = letter;
        base = base;
        back = take more after;
        parts = refl;
        says = says;
        width_digits = h.are;
        value_digits = v.are;
        width_fits = h.fits;
        value_fits = v.fits;
      };
      longest = λ other front others e spelled.
          elim (in_front text digit other front others e spelled) as (λ _. length front ≤ length (take count text ++ 39 ∷ letter ∷ take more after)) [
            | inl within ↦ omega (arith, within, size)
            | inr on ↦
                let same : 39 ∷ letter ∷ after ≡ 39 ∷ on.letter ∷ (on.back ++ others) = h.follows ∙ on.follows in
                let letters : letter ≡ on.letter = cc in
                let afters : after ≡ on.back ++ others = cc in
                let bases : on.base ≡ base = (let one : Some on.base ≡ Some base = sym on.says ∙ ap base_of (sym letters) ∙ says in cc) in
                let digits : list_all (is_digit_of base) on.back ≡ true = subst (λ (b : ℕ). list_all (is_digit_of b) on.back ≡ true) bases on.digits in
                let back : length on.back ≤ more = front_of (is_digit_of base) after on.back others afters digits in
                omega (arith, on.len, back, size)
          ];
    } in
    record { longest = longest; apart = no_name base (base_bounds letter base says).0 rest start ends }

-- a token with nothing of a word directly behind it
apart_by : (begun : Bool) (word found : Word) (after rest : List ℕ) → cond {A = Option (Word × List ℕ)} begun None (Some (word, after)) ≡ Some (found, rest) → (word ≡ found) × (after ≡ rest) × (begun ≡ false)
apart_by true word found after rest h = absurd (cc)
apart_by false word found after rest h =
    let same : (word, after) ≡ (found, rest) = cc in
    (ap (λ (at : Word × List ℕ). at.0) same, ap (λ (at : Word × List ℕ). at.1) same, refl)

literal_read : (text : List ℕ) (width : ℕ) (after : List ℕ) → begins is_digit text ≡ true → HasDigits 10 (2 ^ 62) text width (39 ∷ after) → (word : Word) (rest : List ℕ) → value_at width after ≡ Some (word, rest) → IsTokenOf text word rest
unfolding value_at
literal_read text width [] digit h word rest e = absurd (cc)
literal_read text width (letter ∷ after) digit h word rest e =
    let b = bind_some
    (λ (base : ℕ). option_and_then (λ (value : ℕ × List ℕ). apart (Literal width value.0) value.1) (digits_at base (2 ^ 128 - 1) after))
    (base_of letter) (word, rest) e in
    let v = bind_some (λ (value : ℕ × List ℕ). apart (Literal width value.0) value.1) (digits_at b.0 (2 ^ 128 - 1) after) (word, rest) b.2 in
    let a = apart_by (begins is_word_start v.0.1) (Literal width v.0.0) word v.0.1 rest v.2 in
    let read = digits_read b.0 (2 ^ 128 - 1) after v.0.0 v.0.1 v.1 in
    let token : IsTokenOf text (Literal width v.0.0) v.0.1 = literal text width letter b.0 v.0.0 after v.0.1 digit h b.1 read a.2 in
    subst (λ (at : Word × List ℕ). IsTokenOf text at.0 at.1) (λ i. (a.0 i, a.1 i)) token

quoted_by : (text : List ℕ) (number byte : ℕ) (after : List ℕ) (quoted : Bool) → (byte == 39) ≡ quoted → begins is_digit text ≡ true → HasDigits 10 (2 ^ 62) text number (byte ∷ after) → (word : Word) (rest : List ℕ) → cond quoted (value_at number after) (apart (Number number) (byte ∷ after)) ≡ Some (word, rest) → IsTokenOf text word rest
quoted_by text number byte after true q digit h word rest e =
    let quote : byte ≡ 39 = grind (arith, nat_tests) in
    literal_read text number after digit (subst (λ (b : ℕ). HasDigits 10 (2 ^ 62) text number (b ∷ after)) quote h) word rest e
quoted_by text number byte after false q digit h word rest e =
    let a = apart_by (begins is_word_start (byte ∷ after)) (Number number) word (byte ∷ after) rest e in
    subst (λ (at : Word × List ℕ). IsTokenOf text at.0 at.1) (λ i. (a.0 i, a.1 i)) (number_alone text number (byte ∷ after) digit h q a.2)

after_read : (text : List ℕ) (number : ℕ) (after : List ℕ) → begins is_digit text ≡ true → HasDigits 10 (2 ^ 62) text number after → (word : Word) (rest : List ℕ) → after_digits number after ≡ Some (word, rest) → IsTokenOf text word rest
unfolding after_digits
after_read text number [] digit h word rest e =
    let same : (Number number, []) ≡ (word, rest) = cc in
    subst (λ (at : Word × List ℕ). IsTokenOf text at.0 at.1) same (number_alone text number [] digit h refl refl)
after_read text number (byte ∷ after) digit h word rest e = quoted_by text number byte after (byte == 39) refl digit h word rest e

pub number_is_token : (text : List ℕ) → begins is_digit text ≡ true → (word : Word) (rest : List ℕ) → number_at text ≡ Some (word, rest) → IsTokenOf text word rest
unfolding number_at
number_is_token text digit word rest h =
    let b = bind_some (λ (found : ℕ × List ℕ). after_digits found.0 found.1) (digits_at 10 (2 ^ 62) text) (word, rest) h in
    after_read text b.0.0 b.0.1 digit (digits_read 10 (2 ^ 62) text b.0.0 b.0.1 b.1) word rest b.2

zero_not : (count : ℕ) → 0 < count → (count == 0) ≡ false
zero_not count h = grind (arith, nat_tests)

fits_so : (number most : ℕ) → number ≤ most → nat_le number most ≡ true
fits_so number most h = grind (arith, nat_tests)

-- digits, and then no digit, are read
digits_again : (base most number : ℕ) (front rest : List ℕ) → AreDigits base number front → number ≤ most → begins (is_digit_of base) rest ≡ false → digits_at base most (front ++ rest) ≡ Some (number, rest)
unfolding digits_at
digits_again base most number front rest h fits ends =
    let text = front ++ rest in
    let count : prefix_len (is_digit_of base) text ≡ length front = front_stops (is_digit_of base) front rest h.digits ends in
    let taken : take (prefix_len (is_digit_of base) text) text ≡ front = ap (λ (n : ℕ). take n text) count ∙ take-append_seam front rest in
    let left : drop (prefix_len (is_digit_of base) text) text ≡ rest = ap (λ (n : ℕ). drop n text) count ∙ drop-append_seam front rest in
    let value : number_of base (take (prefix_len (is_digit_of base) text) text) ≡ number = ap (number_of base) taken ∙ sym h.value in
    let some : (prefix_len (is_digit_of base) text == 0) ≡ false = ap (λ (n : ℕ). n == 0) count ∙ zero_not (length front) h.some in
    let within : nat_le (number_of base (take (prefix_len (is_digit_of base) text) text)) most ≡ true = ap (λ (n : ℕ). nat_le n most) value ∙ fits_so number most fits in
    rw (some, within) (λ i. Some (value i, left i))

or_true : (b : Bool) → (b || true) ≡ true
or_true true = refl
or_true false = refl

ends_by : (byte : ℕ) (bytes : List ℕ) (number : ℕ) (quoted begun : Bool) → (byte == 39) ≡ quoted → is_word_start byte ≡ begun → (is_name_byte byte || byte == 39) ≡ false → cond quoted (value_at number bytes) (cond {A = Option (Word × List ℕ)} begun None (Some (Number number, byte ∷ bytes))) ≡ Some (Number number, byte ∷ bytes)
ends_by byte bytes number false false q b h = refl
ends_by byte bytes number false true q b h = absurd (let name : is_name_byte byte ≡ true = start_goes_on byte b in let on : (is_name_byte byte || byte == 39) ≡ true = rw name refl in cc)
ends_by byte bytes number true begun q b h = absurd (let on : (is_name_byte byte || byte == 39) ≡ true = rw q (or_true (is_name_byte byte)) in cc)

number_ends : (number : ℕ) (rest : List ℕ) → begins (λ byte. is_name_byte byte || byte == 39) rest ≡ false → after_digits number rest ≡ Some (Number number, rest)
unfolding after_digits
number_ends number [] h = refl
number_ends number (byte ∷ bytes) h = ends_by byte bytes number (byte == 39) (is_word_start byte) refl refl h

-- the token in front of a text, where it is a number, is what is read
pub number_again : (text : List ℕ) (number : ℕ) (rest : List ℕ) → IsTokenOf text (Number number) rest → number_at text ≡ Some (Number number, rest)
unfolding number_at after_digits
number_again text number rest t =
    let l = t.longest in
    let spelled = l.spelled in
    let ends : begins (is_digit_of 10) rest ≡ false = begins_less (λ byte. is_name_byte byte || byte == 39) (is_digit_of 10) (λ byte h. rw (digit_goes_on 10 (lit≤ tt) byte h) refl) rest t.apart in
    let read : digits_at 10 (2 ^ 62) text ≡ Some (number, rest) = ap (digits_at 10 (2 ^ 62)) l.split ∙ digits_again 10 (2 ^ 62) number l.lexeme rest spelled.0 spelled.1 ends in
    ap (option_and_then (λ (found : ℕ × List ℕ). after_digits found.0 found.1)) read ∙ number_ends number rest t.apart

-- the token in front of a text, where it is a literal, is what is read
pub literal_again : (text : List ℕ) (width value : ℕ) (rest : List ℕ) → IsTokenOf text (Literal width value) rest → number_at text ≡ Some (Literal width value, rest)
unfolding number_at after_digits value_at
literal_again text width value rest t =
    let l = t.longest in
    let s : IsLiteral width value l.lexeme = l.spelled in
    let back = s.back ++ rest in
    let split : text ≡ s.front ++ 39 ∷ s.letter ∷ back = l.split ∙ ap (λ (f : List ℕ). f ++ rest) s.parts ∙ append_assoc s.front (39 ∷ s.letter ∷ s.back) rest in
    let bounds = base_bounds s.letter s.base s.says in
    let ends : begins (is_digit_of s.base) rest ≡ false = begins_less is_name_byte (is_digit_of s.base) (digit_goes_on s.base bounds.1) rest t.apart in
    let start : begins is_word_start rest ≡ false = begins_less is_name_byte is_word_start start_goes_on rest t.apart in
    let front_read : digits_at 10 (2 ^ 62) text ≡ Some (width, 39 ∷ s.letter ∷ back) = ap (digits_at 10 (2 ^ 62)) split ∙ digits_again 10 (2 ^ 62) width s.front (39 ∷ s.letter ∷ back) s.width_digits s.width_fits refl in
    let back_read : digits_at s.base (2 ^ 128 - 1) back ≡ Some (value, rest) = digits_again s.base (2 ^ 128 - 1) value s.back rest s.value_digits s.value_fits ends in
    let last : apart (Literal width value) rest ≡ Some (Literal width value, rest) = rw start refl in
    let valued : value_at width (s.letter ∷ back) ≡ Some (Literal width value, rest) =
    ap (option_and_then (λ (base : ℕ). option_and_then (λ (value : ℕ × List ℕ). apart (Literal width value.0) value.1) (digits_at base (2 ^ 128 - 1) back))) s.says
    ∙ ap (option_and_then (λ (value : ℕ × List ℕ). apart (Literal width value.0) value.1)) back_read ∙ last in
    ap (option_and_then (λ (found : ℕ × List ℕ). after_digits found.0 found.1)) front_read ∙ valued
