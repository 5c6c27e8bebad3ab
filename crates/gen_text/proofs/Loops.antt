-- Loops that read lists.
use Rattle.std.proofs.Common.{◌≡◌, ◌<◌, ◌-◌, ℕ, zero, suc, Bool, true, false, cond, List, [], ◌∷◌, ◌++◌, length, Result, Ok, Err, refl, sym, ap, subst, ◌∙◌, arith, append_assoc, append-nil}
use Rattle.std.proofs.lemmas.List.{length-map}
use Rattle.gen_token.specs.declared.Placed as code
use Rattle.gen_token.specs.declared.Mark.TheVariants as mark
use Rattle.gen_token.specs.Words.{Tok, placed}
use Rattle.gen_text.specs.declared.fault.ReadFault.{ReadFault}
use Rattle.gen_text.specs.declared.fault.ReadFault.TheVariants as faults
use Rattle.gen_text.specs.Faults.{Fails}
use Rattle.gen_text.specs.Forms.{is_mark}
use Rattle.gen_text.specs.Reading.{Read, ◌>>=◌, seen, begins, rest_of, mark_at, open_at, body_by, until_by, until_at, each_by, each_at}

pub placed_length : (ts : List code.Placed) → length (placed ts) ≡ length ts
placed_length ts = simp length-map

-- a reader of one member takes a token at least
pub record Shortens {A : Type 0} (member : List Tok → Read A) : Type 0 where
  pub shortens : (ts : List Tok) (x : A) (rest : List Tok) → member ts ≡ Ok (x, rest) → length rest < length ts

abbrev put : {A : Type 0} → A → Read (List A) → Read (List A)
put x found = found >>= λ more. Ok (x ∷ more.0, more.1)

-- what was read before, and what is still read
abbrev pub with_front : {A : Type 0} → List A → Read (List A) → Read (List A)
with_front front found = found >>= λ more. Ok (front ++ more.0, more.1)

regroup : {A : Type 0} (front : List A) (x : A) (o : Read (List A)) → with_front (front ++ x ∷ []) o ≡ with_front front (put x o)
regroup {A = A} front x (Ok more) = ap (λ (l : List A). Ok (l, more.1)) (append_assoc front (x ∷ []) more.0)
regroup front x (Err left) = refl

pub front_none : {A : Type 0} (o : Read (List A)) → with_front [] o ≡ o
front_none (Ok more) = refl
front_none (Err left) = refl

less_one : (n : ℕ) → suc n - 1 ≡ n
less_one n = omega arith

abbrev ok : List Tok → Result (List Tok) ℕ
ok ts = Ok ts

-- ---- up to a closing brace

-- any number of turns that is enough gives the same
until_enough : {A : Type 0} (n m : ℕ) (member : List Tok → Read A) (ts : List Tok) → Shortens member → length ts < n → length ts < m → until_by member n ts ≡ until_by member m ts
unfolding until_by
until_enough zero m member ts h a b = absurd (omega arith)
until_enough (suc n) zero member ts h a b = absurd (omega arith)
until_enough {A = A} (suc n) (suc m) member ts h a b = ap (λ (o : Read (List A)). cond (begins (is_mark mark.RightBrace) ts) (Ok ([], rest_of ts)) o) (by (λ t1. until_enough n m member t1 h) (member ts) refl)
  where
    by : ((t1 : List Tok) → length t1 < n → length t1 < m → until_by member n t1 ≡ until_by member m t1) → (o : Read A) → member ts ≡ o → (o >>= λ x. put x.0 (until_by member n x.1)) ≡ (o >>= λ x. put x.0 (until_by member m x.1))
    by same (Err left) e = refl
    by same (Ok x) e =
        let l : length x.1 < length ts = h.shortens ts x.0 x.1 e in
        ap (put x.0) (same x.1 (omega arith) (omega arith))

until_goes_on : {A : Type 0} (member : List Tok → Read A) (ts t1 : List Tok) (x : A) → Shortens member → begins (is_mark mark.RightBrace) ts ≡ false → member ts ≡ Ok (x, t1) → until_at member ts ≡ put x (until_at member t1)
unfolding until_by
until_goes_on member ts t1 x h g e =
    let l : length t1 < length ts = h.shortens ts x t1 e in
    rw (g, e, until_enough (length ts) (suc (length t1)) member t1 h l (omega arith)) refl

until_stops : {A : Type 0} (member : List Tok → Read A) (ts : List Tok) (left : ℕ) → begins (is_mark mark.RightBrace) ts ≡ false → member ts ≡ Err left → until_at member ts ≡ Err left
unfolding until_by
until_stops member ts left g e = rw (g, e) refl

until_closes : {A : Type 0} (member : List Tok → Read A) (ts : List Tok) → begins (is_mark mark.RightBrace) ts ≡ true → until_at member ts ≡ Ok ([], rest_of ts)
unfolding until_by
until_closes member ts g = rw g refl

pub until_turn : {A : Type 0} (member : List Tok → Read A) (front : List A) (x : A) (ts t1 : List Tok) (whole : Read (List A)) → Shortens member → begins (is_mark mark.RightBrace) ts ≡ false → member ts ≡ Ok (x, t1)
    → with_front front (until_at member ts) ≡ whole → with_front (front ++ x ∷ []) (until_at member t1) ≡ whole
until_turn member front x ts t1 whole h g e w = regroup front x (until_at member t1) ∙ ap (with_front front) (sym (until_goes_on member ts t1 x h g e)) ∙ w

pub until_fails : {A : Type 0} (e : ReadFault) (member : List Tok → Read A) (front : List A) (ts : List Tok) (whole : Read (List A)) → begins (is_mark mark.RightBrace) ts ≡ false → Fails e (member ts) → with_front front (until_at member ts) ≡ whole → Fails e whole
until_fails faults.NoMemory member front ts whole g f w = tt
until_fails (faults.At left) member front ts whole g f w = sym w ∙ ap (with_front front) (until_stops member ts left g f)

pub until_ends : {A : Type 0} (member : List Tok → Read A) (front : List A) (ts rest : List Tok) (whole : Read (List A)) → begins (is_mark mark.RightBrace) ts ≡ true → mark_at mark.RightBrace ts ≡ Ok rest
    → with_front front (until_at member ts) ≡ whole → whole ≡ Ok (front, rest)
until_ends member front [] rest whole g e w = absurd cc
until_ends {A = A} member front (t ∷ ts) rest whole g e w =
    let is : ts ≡ rest = same ts rest (rw g at e) in
    sym w ∙ ap (with_front front) (until_closes member (t ∷ ts) g) ∙ ap (λ (l : List A). Ok (l, ts)) (append-nil front) ∙ ap (λ (r : List Tok). Ok (front, r)) is
  where
    same : (a b : List Tok) → ok a ≡ ok b → a ≡ b
    same a b e = cc

-- the brace is there, so only memory can want
pub closes_not : {Y : Type 0} (e : ReadFault) (ts : List Tok) (whole : Result Y ℕ) → begins (is_mark mark.RightBrace) ts ≡ true → Fails e (mark_at mark.RightBrace ts) → Fails e whole
closes_not faults.NoMemory ts whole g f = tt
closes_not (faults.At left) [] whole g f = absurd cc
closes_not (faults.At left) (t ∷ ts) whole g f = let bad : ok ts ≡ Err left = rw g at f in absurd cc

-- a fault stays a fault, however the list is seen
pub fails_seen : {A B : Type 0} (e : ReadFault) (f : A → B) (o : Read A) → Fails e o → Fails e (seen f o)
fails_seen faults.NoMemory f o h = tt
fails_seen (faults.At left) f o h = ap (seen f) h

-- ---- as long as a member begins

each_enough : {A : Type 0} (n m : ℕ) (goes : List Tok → Bool) (member : List Tok → Read A) (ts : List Tok) → Shortens member → length ts < n → length ts < m → each_by goes member n ts ≡ each_by goes member m ts
unfolding each_by
each_enough zero m goes member ts h a b = absurd (omega arith)
each_enough (suc n) zero goes member ts h a b = absurd (omega arith)
each_enough {A = A} (suc n) (suc m) goes member ts h a b = ap (λ (o : Read (List A)). cond (goes ts) o (Ok ([], ts))) (by (λ t1. each_enough n m goes member t1 h) (member ts) refl)
  where
    by : ((t1 : List Tok) → length t1 < n → length t1 < m → each_by goes member n t1 ≡ each_by goes member m t1) → (o : Read A) → member ts ≡ o → (o >>= λ x. put x.0 (each_by goes member n x.1)) ≡ (o >>= λ x. put x.0 (each_by goes member m x.1))
    by same (Err left) e = refl
    by same (Ok x) e =
        let l : length x.1 < length ts = h.shortens ts x.0 x.1 e in
        ap (put x.0) (same x.1 (omega arith) (omega arith))

each_goes_on : {A : Type 0} (goes : List Tok → Bool) (member : List Tok → Read A) (ts t1 : List Tok) (x : A) → Shortens member → goes ts ≡ true → member ts ≡ Ok (x, t1) → each_at goes member ts ≡ put x (each_at goes member t1)
unfolding each_by
each_goes_on goes member ts t1 x h g e =
    let l : length t1 < length ts = h.shortens ts x t1 e in
    rw (g, e, each_enough (length ts) (suc (length t1)) goes member t1 h l (omega arith)) refl

each_stops : {A : Type 0} (goes : List Tok → Bool) (member : List Tok → Read A) (ts : List Tok) (left : ℕ) → goes ts ≡ true → member ts ≡ Err left → each_at goes member ts ≡ Err left
unfolding each_by
each_stops goes member ts left g e = rw (g, e) refl

each_closes : {A : Type 0} (goes : List Tok → Bool) (member : List Tok → Read A) (ts : List Tok) → goes ts ≡ false → each_at goes member ts ≡ Ok ([], ts)
unfolding each_by
each_closes goes member ts g = rw g refl

pub each_turn : {A : Type 0} (goes : List Tok → Bool) (member : List Tok → Read A) (front : List A) (x : A) (ts t1 : List Tok) (whole : Read (List A)) → Shortens member → goes ts ≡ true → member ts ≡ Ok (x, t1)
    → with_front front (each_at goes member ts) ≡ whole → with_front (front ++ x ∷ []) (each_at goes member t1) ≡ whole
each_turn goes member front x ts t1 whole h g e w = regroup front x (each_at goes member t1) ∙ ap (with_front front) (sym (each_goes_on goes member ts t1 x h g e)) ∙ w

pub each_fails : {A : Type 0} (e : ReadFault) (goes : List Tok → Bool) (member : List Tok → Read A) (front : List A) (ts : List Tok) (whole : Read (List A)) → goes ts ≡ true → Fails e (member ts) → with_front front (each_at goes member ts) ≡ whole → Fails e whole
each_fails faults.NoMemory goes member front ts whole g f w = tt
each_fails (faults.At left) goes member front ts whole g f w = sym w ∙ ap (with_front front) (each_stops goes member ts left g f)

pub each_ends : {A : Type 0} (goes : List Tok → Bool) (member : List Tok → Read A) (front : List A) (ts : List Tok) (whole : Read (List A)) → goes ts ≡ false → with_front front (each_at goes member ts) ≡ whole → whole ≡ Ok (front, ts)
each_ends {A = A} goes member front ts whole g w = sym w ∙ ap (with_front front) (each_closes goes member ts g) ∙ ap (λ (l : List A). Ok (l, ts)) (append-nil front)

-- ---- a body in braces

-- a reader of bodies reads members up to the closing brace, with less room
pub record Bodies {A B : Type 0} (g : List A → B) (member : ℕ → List Tok → Read A) (inner : ℕ → List Tok → Read B) : Type 0 where
  pub bodies : (room : ℕ) (ts : List Tok) → inner (suc room) ts ≡ seen g (until_at (member room) ts)
  pub shorten : (room : ℕ) → Shortens (member room)

-- what is left of the body, behind the members that were read
abbrev pub left_of : {A B : Type 0} → (List A → B) → (List Tok → Read A) → List A → List Tok → Read B
left_of g member front ts = seen g (with_front front (until_at member ts))

pub body_begins : {A B : Type 0} {g : List A → B} {member : ℕ → List Tok → Read A} {inner : ℕ → List Tok → Read B} → Bodies g member inner
    → (room : ℕ) (ts t1 : List Tok) → 0 < room → open_at mark.LeftBrace room ts ≡ Ok t1 → left_of g (member (room - 1)) [] t1 ≡ body_by room (inner room) ts
body_begins b zero ts t1 lt e = absurd (omega arith)
body_begins {g = g} {member = member} {inner = inner} b (suc room) ts t1 lt e =
    rw (less_one room) (ap (seen g) (front_none (until_at (member room) t1)) ∙ sym (b.bodies room t1) ∙ sym (by (mark_at mark.LeftBrace ts) e))
  where
    by : (o : Result (List Tok) ℕ) → o ≡ Ok t1 → (o >>= λ t. inner (suc room) t) ≡ inner (suc room) t1
    by o e = rw e refl

pub body_turn : {A B : Type 0} {g : List A → B} {member : ℕ → List Tok → Read A} {inner : ℕ → List Tok → Read B} → Bodies g member inner
    → (room : ℕ) (front : List A) (x : A) (ts t1 : List Tok) (whole : Read B) → begins (is_mark mark.RightBrace) ts ≡ false → member room ts ≡ Ok (x, t1)
    → left_of g (member room) front ts ≡ whole → left_of g (member room) (front ++ x ∷ []) t1 ≡ whole
body_turn {g = g} {member = member} b room front x ts t1 whole ne e w =
    ap (seen g) (until_turn (member room) front x ts t1 (with_front front (until_at (member room) ts)) (b.shorten room) ne e refl) ∙ w

pub body_fails : {A B : Type 0} (g : List A → B) (member : List Tok → Read A) (e : ReadFault) (front : List A) (ts : List Tok) (whole : Read B) → begins (is_mark mark.RightBrace) ts ≡ false → Fails e (member ts)
    → left_of g member front ts ≡ whole → Fails e whole
body_fails g member e front ts whole ne f w =
    subst (λ o. Fails e o) w (fails_seen e g (with_front front (until_at member ts)) (until_fails e member front ts (with_front front (until_at member ts)) ne f refl))

pub body_ends : {A B : Type 0} (g : List A → B) (member : List Tok → Read A) (front : List A) (ts rest : List Tok) (whole : Read B) → begins (is_mark mark.RightBrace) ts ≡ true → mark_at mark.RightBrace ts ≡ Ok rest
    → left_of g member front ts ≡ whole → whole ≡ Ok (g front, rest)
body_ends g member front ts rest whole here e w = sym w ∙ ap (seen g) (until_ends member front ts rest (with_front front (until_at member ts)) here e refl)

pub shorter : {A : Type 0} (member : List Tok → Read A) (x : A) (ts t1 : List code.Placed) → Shortens member → member (placed ts) ≡ Ok (x, placed t1) → length t1 < length ts
shorter member x ts t1 h e = omega (arith, h.shortens (placed ts) x (placed t1) e, placed_length ts, placed_length t1)

-- the first member of a list was read before the loop
pub list_begins : {A : Type 0} (first : A) (o : Read (List A)) → with_front (first ∷ []) o ≡ seen (λ more. first ∷ more) o
list_begins first (Ok more) = refl
list_begins first (Err left) = refl

-- a fault stays a fault, whatever would have been read next
pub fails_then : {A B : Type 0} (e : ReadFault) (o : Read A) (f : A × List Tok → Result B ℕ) → Fails e o → Fails e (o >>= f)
fails_then faults.NoMemory o f h = tt
fails_then (faults.At left) o f h = rw h refl
