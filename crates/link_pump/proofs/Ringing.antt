-- The items of the rings, when one is put last.
use Rattle.std.proofs.Common.{◌≡◌, ℕ, true, false, List, [], ◌∷◌, ◌++◌, None, Some, refl, ◌∙◌, ap, append-nil}
use Rattle.link_pump.specs.declared.cause.Cause.{Cause}
use Rattle.link_pump.specs.declared.rings.FromLink.{FromLink}
use Rattle.link_pump.specs.declared.rings.FromLink.TheVariants.{Message, LinkOver}
use Rattle.link_pump.specs.declared.rings.ToLink.{ToLink}
use Rattle.link_pump.specs.declared.rings.ToLink.TheVariants.{Begun, Line, SessionOver, ClientOver}
use Rattle.link_pump.specs.Rings.{heard_in, as_heard, cause_in, lines_in, begins, finishes, marked_last, client_left}

-- ---- from the link

pub heard_append : (xs ys : List FromLink) → heard_in (xs ++ ys) ≡ heard_in xs ++ heard_in ys
unfolding heard_in
heard_append [] ys = refl
heard_append (Message t ∷ xs) ys = ap (λ l. t ∷ l) (heard_append xs ys)
heard_append (LinkOver c ∷ xs) ys = heard_append xs ys

pub heard_message : (xs : List FromLink) (t : List ℕ) → heard_in (xs ++ Message t ∷ []) ≡ heard_in xs ++ t ∷ []
unfolding heard_in
heard_message xs t = heard_append xs (Message t ∷ [])

pub heard_mark : (xs : List FromLink) (c : Cause) → heard_in (xs ++ LinkOver c ∷ []) ≡ heard_in xs
unfolding heard_in
heard_mark xs c = heard_append xs (LinkOver c ∷ []) ∙ append-nil (heard_in xs)

pub heard_nothing : heard_in [] ≡ []
unfolding heard_in
heard_nothing = refl

pub heard_first : (x : FromLink) (xs : List FromLink) → heard_in (x ∷ xs) ≡ heard_in (x ∷ []) ++ heard_in xs
heard_first x xs = heard_append (x ∷ []) xs

pub heard_one : (t : List ℕ) → heard_in (Message t ∷ []) ≡ t ∷ []
unfolding heard_in
heard_one t = refl

pub heard_none : (c : Cause) → heard_in (LinkOver c ∷ []) ≡ []
unfolding heard_in
heard_none c = refl

pub as_heard_more : (ts : List (List ℕ)) (t : List ℕ) → as_heard (ts ++ t ∷ []) ≡ as_heard ts ++ Message t ∷ []
unfolding as_heard
as_heard_more [] t = refl
as_heard_more (u ∷ ts) t = ap (λ l. Message u ∷ l) (as_heard_more ts t)

pub as_heard_nothing : as_heard [] ≡ []
unfolding as_heard
as_heard_nothing = refl

pub cause_message : (xs : List FromLink) (t : List ℕ) → cause_in (xs ++ Message t ∷ []) ≡ cause_in xs
unfolding cause_in
cause_message [] t = refl
cause_message (Message u ∷ xs) t = cause_message xs t
cause_message (LinkOver c ∷ xs) t = refl

pub cause_mark : (xs : List FromLink) (c : Cause) → cause_in xs ≡ None → cause_in (xs ++ LinkOver c ∷ []) ≡ Some c
unfolding cause_in
cause_mark [] c e = refl
cause_mark (Message u ∷ xs) c e = cause_mark xs c e
cause_mark (LinkOver d ∷ xs) c e = absurd (let bad : Some d ≡ None = e in cc)

-- ---- to the link

lines_append : (xs ys : List ToLink) → lines_in (xs ++ ys) ≡ lines_in xs ++ lines_in ys
unfolding lines_in
lines_append [] ys = refl
lines_append (Begun ∷ xs) ys = lines_append xs ys
lines_append (Line t ∷ xs) ys = ap (λ l. t ∷ l) (lines_append xs ys)
lines_append (SessionOver ∷ xs) ys = lines_append xs ys
lines_append (ClientOver ∷ xs) ys = lines_append xs ys

pub lines_line : (xs : List ToLink) (t : List ℕ) → lines_in (xs ++ Line t ∷ []) ≡ lines_in xs ++ t ∷ []
unfolding lines_in
lines_line xs t = lines_append xs (Line t ∷ [])

pub lines_begun : (xs : List ToLink) → lines_in (xs ++ Begun ∷ []) ≡ lines_in xs
unfolding lines_in
lines_begun xs = lines_append xs (Begun ∷ []) ∙ append-nil (lines_in xs)

pub lines_over : (xs : List ToLink) → lines_in (xs ++ SessionOver ∷ []) ≡ lines_in xs
unfolding lines_in
lines_over xs = lines_append xs (SessionOver ∷ []) ∙ append-nil (lines_in xs)

pub lines_left : (xs : List ToLink) → lines_in (xs ++ ClientOver ∷ []) ≡ lines_in xs
unfolding lines_in
lines_left xs = lines_append xs (ClientOver ∷ []) ∙ append-nil (lines_in xs)

pub lines_nothing : lines_in [] ≡ []
unfolding lines_in
lines_nothing = refl

pub lines_of_begun : lines_in (Begun ∷ []) ≡ []
unfolding lines_in
lines_of_begun = refl

pub begins_line : (xs : List ToLink) (t : List ℕ) → begins (xs ++ Line t ∷ []) ≡ true
unfolding begins
begins_line [] t = refl
begins_line (Begun ∷ xs) t = refl
begins_line (Line u ∷ xs) t = refl
begins_line (SessionOver ∷ xs) t = begins_line xs t
begins_line (ClientOver ∷ xs) t = begins_line xs t

pub begins_begun : (xs : List ToLink) → begins (xs ++ Begun ∷ []) ≡ true
unfolding begins
begins_begun [] = refl
begins_begun (Begun ∷ xs) = refl
begins_begun (Line u ∷ xs) = refl
begins_begun (SessionOver ∷ xs) = begins_begun xs
begins_begun (ClientOver ∷ xs) = begins_begun xs

pub begins_over : (xs : List ToLink) → begins (xs ++ SessionOver ∷ []) ≡ begins xs
unfolding begins
begins_over [] = refl
begins_over (Begun ∷ xs) = refl
begins_over (Line u ∷ xs) = refl
begins_over (SessionOver ∷ xs) = begins_over xs
begins_over (ClientOver ∷ xs) = begins_over xs

pub begins_left : (xs : List ToLink) → begins (xs ++ ClientOver ∷ []) ≡ begins xs
unfolding begins
begins_left [] = refl
begins_left (Begun ∷ xs) = refl
begins_left (Line u ∷ xs) = refl
begins_left (SessionOver ∷ xs) = begins_left xs
begins_left (ClientOver ∷ xs) = begins_left xs

pub begins_nothing : begins [] ≡ false
unfolding begins
begins_nothing = refl

pub finishes_line : (xs : List ToLink) (t : List ℕ) → finishes (xs ++ Line t ∷ []) ≡ finishes xs
unfolding finishes
finishes_line [] t = refl
finishes_line (Begun ∷ xs) t = finishes_line xs t
finishes_line (Line u ∷ xs) t = finishes_line xs t
finishes_line (SessionOver ∷ xs) t = refl
finishes_line (ClientOver ∷ xs) t = refl

pub finishes_over : (xs : List ToLink) → finishes (xs ++ SessionOver ∷ []) ≡ true
unfolding finishes
finishes_over [] = refl
finishes_over (Begun ∷ xs) = finishes_over xs
finishes_over (Line u ∷ xs) = finishes_over xs
finishes_over (SessionOver ∷ xs) = refl
finishes_over (ClientOver ∷ xs) = refl

pub finishes_left : (xs : List ToLink) → finishes (xs ++ ClientOver ∷ []) ≡ true
unfolding finishes
finishes_left [] = refl
finishes_left (Begun ∷ xs) = finishes_left xs
finishes_left (Line u ∷ xs) = finishes_left xs
finishes_left (SessionOver ∷ xs) = refl
finishes_left (ClientOver ∷ xs) = refl

-- ---- nothing stands behind a last mark

pub last_while : (xs : List ToLink) → finishes xs ≡ false → marked_last xs ≡ true
unfolding finishes marked_last
last_while [] e = refl
last_while (Begun ∷ xs) e = last_while xs e
last_while (Line u ∷ xs) e = last_while xs e
last_while (SessionOver ∷ xs) e = absurd (let bad : true ≡ false = e in cc)
last_while (ClientOver ∷ xs) e = absurd (let bad : true ≡ false = e in cc)

pub last_over : (xs : List ToLink) → finishes xs ≡ false → marked_last (xs ++ SessionOver ∷ []) ≡ true
unfolding finishes marked_last
last_over [] e = refl
last_over (Begun ∷ xs) e = last_over xs e
last_over (Line u ∷ xs) e = last_over xs e
last_over (SessionOver ∷ xs) e = absurd (let bad : true ≡ false = e in cc)
last_over (ClientOver ∷ xs) e = absurd (let bad : true ≡ false = e in cc)

pub last_left : (xs : List ToLink) → finishes xs ≡ false → marked_last (xs ++ ClientOver ∷ []) ≡ true
unfolding finishes marked_last
last_left [] e = refl
last_left (Begun ∷ xs) e = last_left xs e
last_left (Line u ∷ xs) e = last_left xs e
last_left (SessionOver ∷ xs) e = absurd (let bad : true ≡ false = e in cc)
last_left (ClientOver ∷ xs) e = absurd (let bad : true ≡ false = e in cc)

-- ---- that the client has left

pub left_line : (xs : List ToLink) (t : List ℕ) → client_left (xs ++ Line t ∷ []) ≡ client_left xs
unfolding client_left
left_line [] t = refl
left_line (Begun ∷ xs) t = left_line xs t
left_line (Line u ∷ xs) t = left_line xs t
left_line (SessionOver ∷ xs) t = left_line xs t
left_line (ClientOver ∷ xs) t = refl

pub left_begun : (xs : List ToLink) → client_left (xs ++ Begun ∷ []) ≡ client_left xs
unfolding client_left
left_begun [] = refl
left_begun (Begun ∷ xs) = left_begun xs
left_begun (Line u ∷ xs) = left_begun xs
left_begun (SessionOver ∷ xs) = left_begun xs
left_begun (ClientOver ∷ xs) = refl

pub left_over : (xs : List ToLink) → client_left (xs ++ SessionOver ∷ []) ≡ client_left xs
unfolding client_left
left_over [] = refl
left_over (Begun ∷ xs) = left_over xs
left_over (Line u ∷ xs) = left_over xs
left_over (SessionOver ∷ xs) = left_over xs
left_over (ClientOver ∷ xs) = refl

pub left_left : (xs : List ToLink) → client_left (xs ++ ClientOver ∷ []) ≡ true
unfolding client_left
left_left [] = refl
left_left (Begun ∷ xs) = left_left xs
left_left (Line u ∷ xs) = left_left xs
left_left (SessionOver ∷ xs) = left_left xs
left_left (ClientOver ∷ xs) = refl

pub left_nothing : client_left [] ≡ false
unfolding client_left
left_nothing = refl
