-- A text tells its expression.
use Rattle.std.proofs.Common.{◌≡◌, ℕ, false, true≢false, ◌==◌, if◌then◌else◌, List, ◌∷◌, ◌++◌, drop, get_or, codes, refl, sym, ap, ◌∙◌, append_assoc, eq-eqb}
use Rattle.std.specs.Fmt.{decimal}
use Rattle.std.proofs.lemmas.List.{append_cancel_left}
use Rattle.verilog_out.specs.Syntax.{Prefix, Invert, AllOf, AnyOf, ParityOf, Infix, Plus, Minus, Times, BitAnd, BitOr, BitXor, Equal, Unequal, Less, AtMost, ShiftLeft, ShiftRight, Expression, Literal, Copy, Before, Between, Join, Pad, Select, Choose}
use Rattle.verilog_out.specs.Spelling.{identifier_text, prefix_text, infix_text, expression_text}
use Rattle.verilog_out.specs.Reading.{IsExpression}
use Rattle.verilog_out.proofs.Alike.{Alike, number_alike, identifier_alike, value_alike, three}
use Rattle.verilog_out.proofs.FirstBytes.{text_kind, kind, kind_is, infix_stops, select_text, choose_text, join_text, pad_text}

-- the sign that a text begins with
prefix_of : ℕ → Prefix
prefix_of byte = if byte == 126 then Invert else if byte == 38 then AllOf else if byte == 124 then AnyOf else ParityOf

prefix_is : (sign : Prefix) (r : List ℕ) → prefix_of (get_or (prefix_text sign ++ r) 0 0) ≡ sign
unfolding prefix_of
prefix_is Invert r = refl
prefix_is AllOf r = refl
prefix_is AnyOf r = refl
prefix_is ParityOf r = refl

infix_of : ℕ → ℕ → Infix
infix_of first second =
    if first == 43 then Plus else
    if first == 45 then Minus else
    if first == 42 then Times else
    if first == 38 then BitAnd else
    if first == 124 then BitOr else
    if first == 94 then BitXor else
    if first == 61 then Equal else
    if first == 33 then Unequal else
    if first == 62 then ShiftRight else
    if second == 32 then Less else
    if second == 61 then AtMost else ShiftLeft

infix_is : (sign : Infix) (r : List ℕ) → infix_of (get_or (infix_text sign ++ r) 1 0) (get_or (infix_text sign ++ r) 2 0) ≡ sign
unfolding infix_of
infix_is Plus r = refl
infix_is Minus r = refl
infix_is Times r = refl
infix_is BitAnd r = refl
infix_is BitOr r = refl
infix_is BitXor r = refl
infix_is Equal r = refl
infix_is Unequal r = refl
infix_is Less r = refl
infix_is AtMost r = refl
infix_is ShiftLeft r = refl
infix_is ShiftRight r = refl

prefix_alike : (p q : Prefix) (r s : List ℕ) → prefix_text p ++ r ≡ prefix_text q ++ s → Alike p q r s
prefix_alike p q r s e =
    let same : p ≡ q = sym (prefix_is p r) ∙ ap (λ (l : List ℕ). prefix_of (get_or l 0 0)) e ∙ prefix_is q s in
    record { same = same; rest = append_cancel_left (prefix_text p) r s (e ∙ ap (λ x. prefix_text x ++ s) (sym same)) }

infix_alike : (p q : Infix) (r s : List ℕ) → infix_text p ++ r ≡ infix_text q ++ s → Alike p q r s
infix_alike p q r s e =
    let same : p ≡ q = sym (infix_is p r) ∙ ap (λ (l : List ℕ). infix_of (get_or l 1 0) (get_or l 2 0)) e ∙ infix_is q s in
    record { same = same; rest = append_cancel_left (infix_text p) r s (e ∙ ap (λ x. infix_text x ++ s) (sym same)) }

-- texts of different forms are not alike
same_kind : (e f : Expression) (r s : List ℕ) → IsExpression e → IsExpression f → expression_text e ++ (59 ∷ r) ≡ expression_text f ++ (59 ∷ s) → kind e ≡ kind f
same_kind e f r s p q h = sym (kind_is e r p) ∙ ap text_kind h ∙ kind_is f s q

other : {A : Type 0} (k l : ℕ) → (k == l) ≡ false → k ≡ l → A
other k l d e = absurd (true≢false (sym (eq-eqb k l e) ∙ d))

pub expression_alike : (e f : Expression) (r s : List ℕ) → IsExpression e → IsExpression f → expression_text e ++ (59 ∷ r) ≡ expression_text f ++ (59 ∷ s) → Alike e f r s
expression_alike (Literal a) (Literal b) r s p q h =
    let v = value_alike a b (59 ∷ r) (59 ∷ s) p q h in
    record { same = ap Literal v.same; rest = ap (λ (l : List ℕ). drop 1 l) v.rest }
expression_alike (Copy a) (Copy b) r s p q h =
    let x = identifier_alike a b (59 ∷ r) (59 ∷ s) p q refl refl h in
    record { same = ap Copy x.same; rest = ap (λ (l : List ℕ). drop 1 l) x.rest }
expression_alike (Before m a) (Before n b) r s p q h =
    let sign = prefix_alike m n (identifier_text a ++ (59 ∷ r)) (identifier_text b ++ (59 ∷ s))
    (sym (append_assoc (prefix_text m) (identifier_text a) (59 ∷ r)) ∙ h ∙ append_assoc (prefix_text n) (identifier_text b) (59 ∷ s)) in
    let x = identifier_alike a b (59 ∷ r) (59 ∷ s) p q refl refl sign.rest in
    record { same = λ i. Before (sign.same i) (x.same i); rest = ap (λ (l : List ℕ). drop 1 l) x.rest }
expression_alike (Between m a c) (Between n b d) r s p q h =
    let x = identifier_alike a b (infix_text m ++ (identifier_text c ++ (59 ∷ r))) (infix_text n ++ (identifier_text d ++ (59 ∷ s))) p.0 q.0 (infix_stops m _) (infix_stops n _)
    (sym (three (identifier_text a) (infix_text m) (identifier_text c) (59 ∷ r)) ∙ h ∙ three (identifier_text b) (infix_text n) (identifier_text d) (59 ∷ s)) in
    let sign = infix_alike m n (identifier_text c ++ (59 ∷ r)) (identifier_text d ++ (59 ∷ s)) x.rest in
    let y = identifier_alike c d (59 ∷ r) (59 ∷ s) p.1 q.1 refl refl sign.rest in
    record { same = λ i. Between (sign.same i) (x.same i) (y.same i); rest = ap (λ (l : List ℕ). drop 1 l) y.rest }
expression_alike (Join a c) (Join b d) r s p q h =
    let inner = sym (join_text (identifier_text a) (identifier_text c) (59 ∷ r)) ∙ ap (λ (l : List ℕ). drop 1 l) h ∙ join_text (identifier_text b) (identifier_text d) (59 ∷ s) in
    let x = identifier_alike a b _ _ p.0 q.0 refl refl inner in
    let y = identifier_alike c d (125 ∷ 59 ∷ r) (125 ∷ 59 ∷ s) p.1 q.1 refl refl (ap (λ (l : List ℕ). drop 2 l) x.rest) in
    record { same = λ i. Join (x.same i) (y.same i); rest = ap (λ (l : List ℕ). drop 2 l) y.rest }
expression_alike (Pad m a) (Pad n b) r s p q h =
    let inner = sym (pad_text (decimal m) (identifier_text a) (59 ∷ r)) ∙ ap (λ (l : List ℕ). drop 1 l) h ∙ pad_text (decimal n) (identifier_text b) (59 ∷ s) in
    let z = number_alike m n _ _ p.1 q.1 refl refl inner in
    let x = identifier_alike a b (125 ∷ 59 ∷ r) (125 ∷ 59 ∷ s) p.0 q.0 refl refl (ap (λ (l : List ℕ). drop 5 l) z.rest) in
    record { same = λ i. Pad (z.same i) (x.same i); rest = ap (λ (l : List ℕ). drop 2 l) x.rest }
expression_alike (Select a u v) (Select b w z) r s p q h =
    let inner = sym (select_text (identifier_text a) (decimal u) (decimal v) (59 ∷ r)) ∙ h ∙ select_text (identifier_text b) (decimal w) (decimal z) (59 ∷ s) in
    let x = identifier_alike a b _ _ p.0 q.0 refl refl inner in
    let high = number_alike u w (58 ∷ (decimal v ++ (93 ∷ 59 ∷ r))) (58 ∷ (decimal z ++ (93 ∷ 59 ∷ s))) p.1 q.1 refl refl (ap (λ (l : List ℕ). drop 1 l) x.rest) in
    let low = number_alike v z (93 ∷ 59 ∷ r) (93 ∷ 59 ∷ s) p.2 q.2 refl refl (ap (λ (l : List ℕ). drop 1 l) high.rest) in
    record { same = λ i. Select (x.same i) (high.same i) (low.same i); rest = ap (λ (l : List ℕ). drop 2 l) low.rest }
expression_alike (Choose c a b) (Choose d e f) r s p q h =
    let inner = sym (choose_text (identifier_text c) (identifier_text a) (identifier_text b) (codes " ? ") (codes " : ") (59 ∷ r))
    ∙ h
    ∙ choose_text (identifier_text d) (identifier_text e) (identifier_text f) (codes " ? ") (codes " : ") (59 ∷ s) in
    let x = identifier_alike c d _ _ p.0 q.0 refl refl inner in
    let y = identifier_alike a e (codes " : " ++ (identifier_text b ++ (59 ∷ r))) (codes " : " ++ (identifier_text f ++ (59 ∷ s))) p.1 q.1 refl refl (ap (λ (l : List ℕ). drop 3 l) x.rest) in
    let z = identifier_alike b f (59 ∷ r) (59 ∷ s) p.2 q.2 refl refl (ap (λ (l : List ℕ). drop 3 l) y.rest) in
    record { same = λ i. Choose (x.same i) (y.same i) (z.same i); rest = ap (λ (l : List ℕ). drop 1 l) z.rest }
expression_alike e f r s p q h = other (kind e) (kind f) refl (same_kind e f r s p q h)
