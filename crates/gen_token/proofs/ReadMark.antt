-- The mark that is read in front of a text is the token there.
use Rattle.std.proofs.Common.{◌≡◌, ℕ, ◌≤◌, Bool, true, false, nat_eq, nat_le, List, [], ◌∷◌, ◌++◌, ◌⊎◌, inl, inr, Option, Some, None, find, refl, sym, ◌∙◌, ap, subst, length, take, drop, lit≤, arith, option_map}
use Rattle.std.specs.List.{starts_with}
use Rattle.std.specs.Option.{option_or}
use Rattle.std.proofs.lemmas.List.{take-append-drop}
use Rattle.std.proofs.lemmas.List.Folds.{find-append}
use Rattle.std.proofs.Math.Seq.{take-append_seam, drop-append_seam}
use Rattle.std.proofs.lemmas.Bool.{cases_lt}
use Rattle.std.proofs.lemmas.Bool.Decides.{nat_tests}
use Rattle.std.proofs.lemmas.Slice.Eq.{bytes_eq-Decides}
use Rattle.text_core.specs.Digits.{is_digit}
use Rattle.gen_token.specs.declared.mark.Mark.{Mark}
use Rattle.gen_token.specs.declared.mark.Mark.TheVariants as mark
use Rattle.gen_token.specs.Bytes.{is_letter, begins}
use Rattle.gen_token.specs.Marks.{mark_text, marks, mark_of}
use Rattle.gen_token.specs.Spelling.{Spells, IsLongest, goes_on, IsTokenOf}
use Rattle.gen_token.specs.Tokens.{mark_at}
use Rattle.gen_token.specs.Words.{Word, Name, Number, Literal, Reserved, Sign}
use Rattle.gen_token.proofs.Beginnings.{text_begins}
use Rattle.gen_token.proofs.Searches.{find_passes, find_all, none_after, map_some}

-- the marks of two bytes
abbrev doubles : List Mark
doubles = mark.DotDot ∷ mark.EqualsEquals ∷ mark.NotEquals ∷ mark.LessEquals ∷ mark.LessLess ∷ mark.GreaterGreater ∷ []

-- the marks of one byte
abbrev singles : List Mark
singles = mark.LeftBrace ∷ mark.RightBrace ∷ mark.LeftParen ∷ mark.RightParen ∷ mark.LeftBracket ∷ mark.RightBracket ∷ mark.Semicolon ∷ mark.Colon ∷ mark.Comma ∷ mark.Dot ∷ mark.Equals ∷ mark.Less ∷ mark.Plus ∷ mark.Minus ∷ mark.Star ∷ mark.Ampersand ∷ mark.Bar ∷ mark.Caret ∷ mark.Tilde ∷ mark.Hash ∷ []

-- a mark is one of these
abbrev Among : Mark → List Mark → Type 0
Among mark [] = ⊥
Among mark (first ∷ others) = (mark ≡ first) ⊎ Among mark others

none_among : (p : Mark → Bool) (marks : List Mark) (mark : Mark) → Among mark marks → find p marks ≡ None → p mark ≡ true → ⊥
none_among p [] mark among none h = among
none_among p (first ∷ others) mark (inl e) none h = let passed : p first ≡ true = rw e at h in let found : find p (first ∷ others) ≡ Some first = rw passed refl in cc
none_among p (first ∷ others) mark (inr more) none h = none_among p others mark more (none_after p first others none) h

-- a mark of two bytes is among them
among_doubles : (mark : Mark) → 2 ≤ length (mark_text mark) → Among mark doubles
among_doubles mark.DotDot h = inl refl
among_doubles mark.EqualsEquals h = inr (inl refl)
among_doubles mark.NotEquals h = inr (inr (inl refl))
among_doubles mark.LessEquals h = inr (inr (inr (inl refl)))
among_doubles mark.LessLess h = inr (inr (inr (inr (inl refl))))
among_doubles mark.GreaterGreater h = inr (inr (inr (inr (inr (inl refl)))))
among_doubles mark.LeftBrace h = absurd (omega arith)
among_doubles mark.RightBrace h = absurd (omega arith)
among_doubles mark.LeftParen h = absurd (omega arith)
among_doubles mark.RightParen h = absurd (omega arith)
among_doubles mark.LeftBracket h = absurd (omega arith)
among_doubles mark.RightBracket h = absurd (omega arith)
among_doubles mark.Semicolon h = absurd (omega arith)
among_doubles mark.Colon h = absurd (omega arith)
among_doubles mark.Comma h = absurd (omega arith)
among_doubles mark.Dot h = absurd (omega arith)
among_doubles mark.Equals h = absurd (omega arith)
among_doubles mark.Less h = absurd (omega arith)
among_doubles mark.Plus h = absurd (omega arith)
among_doubles mark.Minus h = absurd (omega arith)
among_doubles mark.Star h = absurd (omega arith)
among_doubles mark.Ampersand h = absurd (omega arith)
among_doubles mark.Bar h = absurd (omega arith)
among_doubles mark.Caret h = absurd (omega arith)
among_doubles mark.Tilde h = absurd (omega arith)
among_doubles mark.Hash h = absurd (omega arith)

most_two : (mark : Mark) → length (mark_text mark) ≤ 2
most_two mark.DotDot = lit≤ tt
most_two mark.EqualsEquals = lit≤ tt
most_two mark.NotEquals = lit≤ tt
most_two mark.LessEquals = lit≤ tt
most_two mark.LessLess = lit≤ tt
most_two mark.GreaterGreater = lit≤ tt
most_two mark.LeftBrace = lit≤ tt
most_two mark.RightBrace = lit≤ tt
most_two mark.LeftParen = lit≤ tt
most_two mark.RightParen = lit≤ tt
most_two mark.LeftBracket = lit≤ tt
most_two mark.RightBracket = lit≤ tt
most_two mark.Semicolon = lit≤ tt
most_two mark.Colon = lit≤ tt
most_two mark.Comma = lit≤ tt
most_two mark.Dot = lit≤ tt
most_two mark.Equals = lit≤ tt
most_two mark.Less = lit≤ tt
most_two mark.Plus = lit≤ tt
most_two mark.Minus = lit≤ tt
most_two mark.Star = lit≤ tt
most_two mark.Ampersand = lit≤ tt
most_two mark.Bar = lit≤ tt
most_two mark.Caret = lit≤ tt
most_two mark.Tilde = lit≤ tt
most_two mark.Hash = lit≤ tt

some_text : (mark : Mark) → 1 ≤ length (mark_text mark)
some_text mark.DotDot = lit≤ tt
some_text mark.EqualsEquals = lit≤ tt
some_text mark.NotEquals = lit≤ tt
some_text mark.LessEquals = lit≤ tt
some_text mark.LessLess = lit≤ tt
some_text mark.GreaterGreater = lit≤ tt
some_text mark.LeftBrace = lit≤ tt
some_text mark.RightBrace = lit≤ tt
some_text mark.LeftParen = lit≤ tt
some_text mark.RightParen = lit≤ tt
some_text mark.LeftBracket = lit≤ tt
some_text mark.RightBracket = lit≤ tt
some_text mark.Semicolon = lit≤ tt
some_text mark.Colon = lit≤ tt
some_text mark.Comma = lit≤ tt
some_text mark.Dot = lit≤ tt
some_text mark.Equals = lit≤ tt
some_text mark.Less = lit≤ tt
some_text mark.Plus = lit≤ tt
some_text mark.Minus = lit≤ tt
some_text mark.Star = lit≤ tt
some_text mark.Ampersand = lit≤ tt
some_text mark.Bar = lit≤ tt
some_text mark.Caret = lit≤ tt
some_text mark.Tilde = lit≤ tt
some_text mark.Hash = lit≤ tt

is_double : (mark : Mark) → nat_le 2 (length (mark_text mark)) ≡ true → 2 ≤ length (mark_text mark)
is_double mark h = grind (arith, nat_tests)

longest_by : (p : Mark → Bool) (found : Option Mark) → find p doubles ≡ found → (mark other : Mark) → option_or found (find p singles) ≡ Some mark → p other ≡ true → length (mark_text other) ≤ length (mark_text mark)
longest_by p (Some first) e mark other h passed =
    let same : first ≡ mark = cc in
    let two : nat_le 2 (length (mark_text first)) ≡ true = find_all p (λ mark. nat_le 2 (length (mark_text mark))) doubles first refl e in
    let long : 2 ≤ length (mark_text mark) = subst (λ (m : Mark). 2 ≤ length (mark_text m)) same (is_double first two) in
    omega (arith, most_two other)
longest_by p None e mark other h passed =
    elim (cases_lt 1 (length (mark_text other))) as (λ _. length (mark_text other) ≤ length (mark_text mark)) [
      | inl long ↦ absurd (none_among p doubles other (among_doubles other (omega arith)) e passed)
      | inr short ↦ omega (arith, some_text mark)
    ]

-- of the marks in front, the one that is read is the longest
mark_longest : (p : Mark → Bool) (mark other : Mark) → find p marks ≡ Some mark → p other ≡ true → length (mark_text other) ≤ length (mark_text mark)
mark_longest p mark other h passed = longest_by p (find p doubles) refl mark other (sym (find-append p doubles singles) ∙ h) passed

-- the mark that is read stands in front
in_front : (text : List ℕ) (mark : Mark) → mark_of text ≡ Some mark → mark_text mark ≡ take (length (mark_text mark)) text
in_front text mark h =
    (bytes_eq-Decides (mark_text mark) (take (length (mark_text mark)) text)).0 (find_passes (λ mark. starts_with nat_eq text (mark_text mark)) marks mark h)

-- a mark that stands in front is found to
is_in_front : (text : List ℕ) (mark : Mark) (more : List ℕ) → text ≡ mark_text mark ++ more → starts_with nat_eq text (mark_text mark) ≡ true
is_in_front text mark more e =
    let front : take (length (mark_text mark)) text ≡ mark_text mark = ap (take (length (mark_text mark))) e ∙ take-append_seam (mark_text mark) more in
    (bytes_eq-Decides (mark_text mark) (take (length (mark_text mark)) text)).1 (sym front)

others : (byte : ℕ) (bytes : List ℕ) → is_letter byte ≡ false → is_digit byte ≡ false → (mark : Mark) → mark_of (byte ∷ bytes) ≡ Some mark → (other : Word) (front more : List ℕ) → byte ∷ bytes ≡ front ++ more → Spells other front → length front ≤ length (mark_text mark)
others byte bytes letter digit mark found (Name name) front more e h = absurd (let is : is_letter byte ≡ true = text_begins (Name name) (byte ∷ bytes) front more e h in cc)
others byte bytes letter digit mark found (Reserved keyword) front more e h = absurd (let is : is_letter byte ≡ true = text_begins (Reserved keyword) (byte ∷ bytes) front more e h in cc)
others byte bytes letter digit mark found (Number number) front more e h = absurd (let is : is_digit byte ≡ true = text_begins (Number number) (byte ∷ bytes) front more e h in cc)
others byte bytes letter digit mark found (Literal width value) front more e h = absurd (let is : is_digit byte ≡ true = text_begins (Literal width value) (byte ∷ bytes) front more e h in cc)
others byte bytes letter digit mark found (Sign other) front more e h =
    let same : byte ∷ bytes ≡ mark_text other ++ more = e ∙ ap (λ (f : List ℕ). f ++ more) h in
    rw h (mark_longest (λ mark. starts_with nat_eq (byte ∷ bytes) (mark_text mark)) mark other found (is_in_front (byte ∷ bytes) other more same))

apart_mark : (mark : Mark) (rest : List ℕ) → begins (goes_on (Sign mark)) rest ≡ false
apart_mark mark [] = refl
apart_mark mark (byte ∷ bytes) = refl

pub mark_is_token : (byte : ℕ) (bytes : List ℕ) → is_letter byte ≡ false → is_digit byte ≡ false → (word : Word) (rest : List ℕ) → mark_at (byte ∷ bytes) ≡ Some (word, rest) → IsTokenOf (byte ∷ bytes) word rest
unfolding mark_at
mark_is_token byte bytes letter digit word rest h =
    let text = byte ∷ bytes in
    let found = map_some (λ (mark : Mark). (Sign mark, drop (length (mark_text mark)) text)) (mark_of text) (word, rest) h in
    let mark = found.0 in
    let after = drop (length (mark_text mark)) text in
    let longest : IsLongest text (Sign mark) after = record {
      lexeme = mark_text mark;
      split = sym (take-append-drop (length (mark_text mark)) text) ∙ ap (λ (f : List ℕ). f ++ after) (sym (in_front text mark found.1));
      spelled = refl;
      longest = others byte bytes letter digit mark found.1;
    } in
    let token : IsTokenOf text (Sign mark) after = record { longest = longest; apart = apart_mark mark after } in
    subst (λ (at : Word × List ℕ). IsTokenOf text at.0 at.1) found.2 token

-- every mark is among all marks
among_marks : (mark : Mark) → Among mark marks
among_marks mark.DotDot = inl refl
among_marks mark.EqualsEquals = inr (inl refl)
among_marks mark.NotEquals = inr (inr (inl refl))
among_marks mark.LessEquals = inr (inr (inr (inl refl)))
among_marks mark.LessLess = inr (inr (inr (inr (inl refl))))
among_marks mark.GreaterGreater = inr (inr (inr (inr (inr (inl refl)))))
among_marks mark.LeftBrace = inr (inr (inr (inr (inr (inr (inl refl))))))
among_marks mark.RightBrace = inr (inr (inr (inr (inr (inr (inr (inl refl)))))))
among_marks mark.LeftParen = inr (inr (inr (inr (inr (inr (inr (inr (inl refl))))))))
among_marks mark.RightParen = inr (inr (inr (inr (inr (inr (inr (inr (inr (inl refl)))))))))
among_marks mark.LeftBracket = inr (inr (inr (inr (inr (inr (inr (inr (inr (inr (inl refl))))))))))
among_marks mark.RightBracket = inr (inr (inr (inr (inr (inr (inr (inr (inr (inr (inr (inl refl)))))))))))
among_marks mark.Semicolon = inr (inr (inr (inr (inr (inr (inr (inr (inr (inr (inr (inr (inl refl))))))))))))
among_marks mark.Colon = inr (inr (inr (inr (inr (inr (inr (inr (inr (inr (inr (inr (inr (inl refl)))))))))))))
among_marks mark.Comma = inr (inr (inr (inr (inr (inr (inr (inr (inr (inr (inr (inr (inr (inr (inl refl))))))))))))))
among_marks mark.Dot = inr (inr (inr (inr (inr (inr (inr (inr (inr (inr (inr (inr (inr (inr (inr (inl refl)))))))))))))))
among_marks mark.Equals = inr (inr (inr (inr (inr (inr (inr (inr (inr (inr (inr (inr (inr (inr (inr (inr (inl refl))))))))))))))))
among_marks mark.Less = inr (inr (inr (inr (inr (inr (inr (inr (inr (inr (inr (inr (inr (inr (inr (inr (inr (inl refl)))))))))))))))))
among_marks mark.Plus = inr (inr (inr (inr (inr (inr (inr (inr (inr (inr (inr (inr (inr (inr (inr (inr (inr (inr (inl refl))))))))))))))))))
among_marks mark.Minus = inr (inr (inr (inr (inr (inr (inr (inr (inr (inr (inr (inr (inr (inr (inr (inr (inr (inr (inr (inl refl)))))))))))))))))))
among_marks mark.Star = inr (inr (inr (inr (inr (inr (inr (inr (inr (inr (inr (inr (inr (inr (inr (inr (inr (inr (inr (inr (inl refl))))))))))))))))))))
among_marks mark.Ampersand = inr (inr (inr (inr (inr (inr (inr (inr (inr (inr (inr (inr (inr (inr (inr (inr (inr (inr (inr (inr (inr (inl refl)))))))))))))))))))))
among_marks mark.Bar = inr (inr (inr (inr (inr (inr (inr (inr (inr (inr (inr (inr (inr (inr (inr (inr (inr (inr (inr (inr (inr (inr (inl refl))))))))))))))))))))))
among_marks mark.Caret = inr (inr (inr (inr (inr (inr (inr (inr (inr (inr (inr (inr (inr (inr (inr (inr (inr (inr (inr (inr (inr (inr (inr (inl refl)))))))))))))))))))))))
among_marks mark.Tilde = inr (inr (inr (inr (inr (inr (inr (inr (inr (inr (inr (inr (inr (inr (inr (inr (inr (inr (inr (inr (inr (inr (inr (inr (inl refl))))))))))))))))))))))))
among_marks mark.Hash = inr (inr (inr (inr (inr (inr (inr (inr (inr (inr (inr (inr (inr (inr (inr (inr (inr (inr (inr (inr (inr (inr (inr (inr (inr (inl refl)))))))))))))))))))))))))

-- a mark's text is that mark
mark_again_text : (mark : Mark) → mark_of (mark_text mark) ≡ Some mark
mark_again_text mark.DotDot = refl
mark_again_text mark.EqualsEquals = refl
mark_again_text mark.NotEquals = refl
mark_again_text mark.LessEquals = refl
mark_again_text mark.LessLess = refl
mark_again_text mark.GreaterGreater = refl
mark_again_text mark.LeftBrace = refl
mark_again_text mark.RightBrace = refl
mark_again_text mark.LeftParen = refl
mark_again_text mark.RightParen = refl
mark_again_text mark.LeftBracket = refl
mark_again_text mark.RightBracket = refl
mark_again_text mark.Semicolon = refl
mark_again_text mark.Colon = refl
mark_again_text mark.Comma = refl
mark_again_text mark.Dot = refl
mark_again_text mark.Equals = refl
mark_again_text mark.Less = refl
mark_again_text mark.Plus = refl
mark_again_text mark.Minus = refl
mark_again_text mark.Star = refl
mark_again_text mark.Ampersand = refl
mark_again_text mark.Bar = refl
mark_again_text mark.Caret = refl
mark_again_text mark.Tilde = refl
mark_again_text mark.Hash = refl

-- marks with one text are one
one_mark : (mark other : Mark) → mark_text mark ≡ mark_text other → mark ≡ other
one_mark mark other e = let same : Some mark ≡ Some other = sym (mark_again_text mark) ∙ ap mark_of e ∙ mark_again_text other in cc

found_again : (text : List ℕ) (mark : Mark) (rest : List ℕ) (l : IsLongest text (Sign mark) rest) (found : Option Mark) → mark_of text ≡ found → found ≡ Some mark
found_again text mark rest l None e =
    let here : text ≡ mark_text mark ++ rest = l.split ∙ ap (λ (f : List ℕ). f ++ rest) l.spelled in
    absurd (none_among (λ mark. starts_with nat_eq text (mark_text mark)) marks mark (among_marks mark) e (is_in_front text mark rest here))
found_again text mark rest l (Some other) e =
    let here : text ≡ mark_text mark ++ rest = l.split ∙ ap (λ (f : List ℕ). f ++ rest) l.spelled in
    let least : length (mark_text mark) ≤ length (mark_text other) = mark_longest (λ mark. starts_with nat_eq text (mark_text mark)) other mark e (is_in_front text mark rest here) in
    let front : mark_text other ≡ take (length (mark_text other)) text = in_front text other e in
    let count = length (mark_text other) in
    let split : text ≡ mark_text other ++ drop count text = sym (take-append-drop count text) ∙ ap (λ (f : List ℕ). f ++ drop count text) (sym front) in
    let most : count ≤ length l.lexeme = l.longest (Sign other) (mark_text other) (drop count text) split refl in
    let size : length l.lexeme ≡ length (mark_text mark) = ap length l.spelled in
    let same : count ≡ length (mark_text mark) = omega (arith, least, most, size) in
    let texts : mark_text other ≡ mark_text mark = front ∙ ap (λ (n : ℕ). take n text) same ∙ ap (take (length (mark_text mark))) here ∙ take-append_seam (mark_text mark) rest in
    ap (λ (m : Mark). Some m) (one_mark other mark texts)

-- the token in front of a text, where it is a mark, is what is read
pub mark_again : (text : List ℕ) (mark : Mark) (rest : List ℕ) (l : IsLongest text (Sign mark) rest) → mark_at text ≡ Some (Sign mark, rest)
unfolding mark_at
mark_again text mark rest l =
    let found : mark_of text ≡ Some mark = found_again text mark rest l (mark_of text) refl in
    let here : text ≡ mark_text mark ++ rest = l.split ∙ ap (λ (f : List ℕ). f ++ rest) l.spelled in
    let back : drop (length (mark_text mark)) text ≡ rest = ap (drop (length (mark_text mark))) here ∙ drop-append_seam (mark_text mark) rest in
    ap (option_map (λ (mark : Mark). (Sign mark, drop (length (mark_text mark)) text))) found ∙ ap (λ (r : List ℕ). Some (Sign mark, r)) back
