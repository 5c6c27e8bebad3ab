-- Which form of expression a text begins with.
use Rattle.std.proofs.Common.{◌≡◌, ℕ, ◌+◌, ◌/◌, Bool, true, false, true≢false, ◌||◌, ◌==◌, if◌then◌else◌, List, [], ◌∷◌, ◌++◌, drop, get_or, codes, refl, sym, ap, ◌∙◌, arith, append_assoc, eqb-true}
use Rattle.std.specs.List.{list_all}
use Rattle.std.specs.Fmt.{decimal}
use Rattle.text_core.specs.Digits.{is_digit}
use Rattle.bv_core.specs.Text.{hex_digits, shown}
use Rattle.gen_token.specs.Bytes.{begins, is_name_byte}
use Rattle.verilog_out.specs.Syntax.{Identifier, Given, Numbered, Prefix, Invert, AllOf, AnyOf, ParityOf, Infix, Plus, Minus, Times, BitAnd, BitOr, BitXor, Equal, Unequal, Less, AtMost, ShiftLeft, ShiftRight, Expression, Literal, Copy, Before, Between, Join, Pad, Select, Choose}
use Rattle.verilog_out.specs.Spelling.{identifier_text, prefix_text, infix_text, expression_text}
use Rattle.verilog_out.specs.Reading.{IsIdentifier, IsExpression}
use Rattle.verilog_out.proofs.Alike.{and_left, and_right, decimal_digits, number_begins, name_bytes, three}

-- what is left behind a run of bytes that pass a test
past : (ℕ → Bool) → List ℕ → List ℕ
past p [] = []
past p (x ∷ xs) = if p x then past p xs else x ∷ xs

past_none : (p : ℕ → Bool) (r : List ℕ) → begins p r ≡ false → past p r ≡ r
unfolding past
past_none p [] c = refl
past_none p (x ∷ r) c = ap (λ b. if b then past p r else x ∷ r) c

past_run : (p : ℕ → Bool) (xs r : List ℕ) → list_all p xs ≡ true → begins p r ≡ false → past p (xs ++ r) ≡ r
unfolding past
past_run p [] r a c = past_none p r c
past_run p (x ∷ xs) r a c =
    ap (λ b. if b then past p (xs ++ r) else x ∷ (xs ++ r)) (and_left (p x) (list_all p xs) a) ∙ past_run p xs r (and_right (p x) (list_all p xs) a) c

-- what is left behind an identifier
after : List ℕ → List ℕ
after [] = []
after (c ∷ l) = if c == 92 then drop 1 (past is_name_byte l) else past is_digit l

after_is : (x : Identifier) (r : List ℕ) → IsIdentifier x → begins is_digit r ≡ false → after (identifier_text x ++ r) ≡ r
unfolding after
after_is (Given name) r is c =
    ap (λ l. drop 1 (past is_name_byte l)) (append_assoc name (32 ∷ []) r) ∙ ap (drop 1) (past_run is_name_byte name (32 ∷ r) (name_bytes name is) refl)
after_is (Numbered number) r is c = past_run is_digit (decimal number) r (decimal_digits number is) c

-- the kind of an expression that begins with an identifier, by what stands behind it
behind_kind : List ℕ → ℕ
behind_kind l = if get_or l 0 0 == 59 then 1 else if get_or l 0 0 == 91 then 6 else if get_or l 1 0 == 63 then 7 else 3

-- and of all of them
pub text_kind : List ℕ → ℕ
text_kind l =
    if get_or l 0 0 == 123 then (if is_digit (get_or l 1 0) then 5 else 4) else
    if get_or l 0 0 == 92 || get_or l 0 0 == 95 then behind_kind (after l) else
    if is_digit (get_or l 0 0) then 0 else 2

abbrev pub kind : Expression → ℕ
kind (Literal b) = 0
kind (Copy a) = 1
kind (Before sign a) = 2
kind (Between sign a b) = 3
kind (Join a b) = 4
kind (Pad zeros a) = 5
kind (Select a high low) = 6
kind (Choose c a b) = 7

named_kind : (x : Identifier) (r : List ℕ) → IsIdentifier x → begins is_digit r ≡ false → text_kind (identifier_text x ++ r) ≡ behind_kind r
unfolding text_kind
named_kind (Given name) r is c = ap behind_kind (after_is (Given name) r is c)
named_kind (Numbered number) r is c = ap behind_kind (after_is (Numbered number) r is c)

record IsInfix (l : List ℕ) : Type 0 where
  no_digit : begins is_digit l ≡ false
  between : behind_kind l ≡ 3

infix_is : (sign : Infix) (r : List ℕ) → IsInfix (infix_text sign ++ r)
unfolding behind_kind
infix_is Plus r = record { no_digit = refl; between = refl }
infix_is Minus r = record { no_digit = refl; between = refl }
infix_is Times r = record { no_digit = refl; between = refl }
infix_is BitAnd r = record { no_digit = refl; between = refl }
infix_is BitOr r = record { no_digit = refl; between = refl }
infix_is BitXor r = record { no_digit = refl; between = refl }
infix_is Equal r = record { no_digit = refl; between = refl }
infix_is Unequal r = record { no_digit = refl; between = refl }
infix_is Less r = record { no_digit = refl; between = refl }
infix_is AtMost r = record { no_digit = refl; between = refl }
infix_is ShiftLeft r = record { no_digit = refl; between = refl }
infix_is ShiftRight r = record { no_digit = refl; between = refl }

pub infix_stops : (sign : Infix) (r : List ℕ) → begins is_digit (infix_text sign ++ r) ≡ false
infix_stops sign r = (infix_is sign r).no_digit

before_kind : (sign : Prefix) (r : List ℕ) → text_kind (prefix_text sign ++ r) ≡ 2
unfolding text_kind
before_kind Invert r = refl
before_kind AllOf r = refl
before_kind AnyOf r = refl
before_kind ParityOf r = refl

joined_kind : (x : Identifier) (r : List ℕ) → text_kind (123 ∷ (identifier_text x ++ r)) ≡ 4
unfolding text_kind
joined_kind (Given name) r = refl
joined_kind (Numbered number) r = refl

differs : (b : Bool) (c d : ℕ) → (c == d) ≡ b → is_digit d ≡ false → is_digit c ≡ true → b ≡ false
differs true c d e f g = absurd (true≢false (sym g ∙ ap is_digit (eqb-true c d e) ∙ f))
differs false c d e f g = refl

no_digit_is : (c d : ℕ) → is_digit d ≡ false → is_digit c ≡ true → (c == d) ≡ false
no_digit_is c d f g = differs (c == d) c d refl f g

-- a text whose first byte is a digit begins with a value
digit_kind : (l : List ℕ) → is_digit (get_or l 0 0) ≡ true → text_kind l ≡ 0
unfolding text_kind
digit_kind l d =
    ap (λ b. if b then (if is_digit (get_or l 1 0) then 5 else 4) else if get_or l 0 0 == 92 || get_or l 0 0 == 95 then behind_kind (after l) else if is_digit (get_or l 0 0) then 0 else 2) (no_digit_is (get_or l 0 0) 123 refl d)
    ∙ ap (λ b. if b || get_or l 0 0 == 95 then behind_kind (after l) else if is_digit (get_or l 0 0) then 0 else 2) (no_digit_is (get_or l 0 0) 92 refl d)
    ∙ ap (λ b. if b then behind_kind (after l) else if is_digit (get_or l 0 0) then 0 else 2) (no_digit_is (get_or l 0 0) 95 refl d)
    ∙ ap (λ b. if b then 0 else 2) d

pub select_text : (a h l : List ℕ) (r : List ℕ) → (((((a ++ (91 ∷ [])) ++ h) ++ (58 ∷ [])) ++ l) ++ (93 ∷ [])) ++ r ≡ a ++ (91 ∷ (h ++ (58 ∷ (l ++ (93 ∷ r)))))
select_text a h l r = simp append_assoc

pub choose_text : (c a b : List ℕ) (q p : List ℕ) (r : List ℕ) → ((((c ++ q) ++ a) ++ p) ++ b) ++ r ≡ c ++ (q ++ (a ++ (p ++ (b ++ r))))
choose_text c a b q p r = simp append_assoc

pub join_text : (a b : List ℕ) (r : List ℕ) → (((a ++ (44 ∷ 32 ∷ [])) ++ b) ++ (125 ∷ [])) ++ r ≡ a ++ (44 ∷ 32 ∷ (b ++ (125 ∷ r)))
join_text a b r = simp append_assoc

pub pad_text : (z a : List ℕ) (r : List ℕ) → (((z ++ (39 ∷ 104 ∷ 48 ∷ 44 ∷ 32 ∷ [])) ++ a) ++ (125 ∷ [])) ++ r ≡ z ++ (39 ∷ 104 ∷ 48 ∷ 44 ∷ 32 ∷ (a ++ (125 ∷ r)))
pad_text z a r = simp append_assoc

pub kind_is : (e : Expression) (r : List ℕ) → IsExpression e → text_kind (expression_text e ++ (59 ∷ r)) ≡ kind e
unfolding text_kind behind_kind
kind_is (Literal b) r is =
    digit_kind (shown b ++ (59 ∷ r)) (ap (λ (l : List ℕ). is_digit (get_or l 0 0)) (three (decimal b.width) (codes "'h") (hex_digits ((b.width + 3) / 4) b.value) (59 ∷ r)) ∙ number_begins b.width _ (let m = is.most in omega arith))
kind_is (Copy a) r is = named_kind a (59 ∷ r) is refl
kind_is (Before sign a) r is = ap text_kind (append_assoc (prefix_text sign) (identifier_text a) (59 ∷ r)) ∙ before_kind sign (identifier_text a ++ (59 ∷ r))
kind_is (Between sign a b) r is =
    ap text_kind (three (identifier_text a) (infix_text sign) (identifier_text b) (59 ∷ r))
    ∙ named_kind a (infix_text sign ++ (identifier_text b ++ (59 ∷ r))) is.0 (infix_is sign (identifier_text b ++ (59 ∷ r))).no_digit
    ∙ (infix_is sign (identifier_text b ++ (59 ∷ r))).between
kind_is (Join a b) r is = ap (λ l. text_kind (123 ∷ l)) (join_text (identifier_text a) (identifier_text b) (59 ∷ r)) ∙ joined_kind a _
kind_is (Pad zeros a) r is =
    ap (λ l. text_kind (123 ∷ l)) (pad_text (decimal zeros) (identifier_text a) (59 ∷ r))
    ∙ ap (λ b. if b then 5 else 4) (number_begins zeros (39 ∷ 104 ∷ 48 ∷ 44 ∷ 32 ∷ (identifier_text a ++ (125 ∷ 59 ∷ r))) is.1)
kind_is (Select a high low) r is =
    ap text_kind (select_text (identifier_text a) (decimal high) (decimal low) (59 ∷ r)) ∙ named_kind a (91 ∷ (decimal high ++ (58 ∷ (decimal low ++ (93 ∷ 59 ∷ r))))) is.0 refl
kind_is (Choose c a b) r is =
    ap text_kind (choose_text (identifier_text c) (identifier_text a) (identifier_text b) (codes " ? ") (codes " : ") (59 ∷ r))
    ∙ named_kind c (codes " ? " ++ (identifier_text a ++ (codes " : " ++ (identifier_text b ++ (59 ∷ r))))) is.0 refl
