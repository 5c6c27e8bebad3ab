-- The distinct names of a text: where each is found, and that the first that is refused is the same.
use Rattle.std.proofs.Common.{◌≡◌, ℕ, suc, ◌+◌, ◌<◌, ◌||◌, Bool, true, false, not, cond, nat_lt, lt-ltb, le-ltb, List, [], ◌∷◌, ◌++◌, length, map, Option, Some, None, position, bytes_eq, if◌then◌else◌, refl, sym, ap, ◌∙◌, append_assoc, append-nil, arith}
use Rattle.std.specs.Prelude.{slice_get}
use Rattle.std.specs.List.{list_any, position_or_len}
use Rattle.std.proofs.lemmas.Slice.Eq.{bytes_eq-Decides}
use Rattle.names.specs.Known.{has, Begins}
use Rattle.bv_core.specs.declared.Ref.{Ref}
use Rattle.tree_core.specs.Tree.{Tree, Const, Leaf, One, Two, Mux}
use Rattle.cond_lang.specs.Names.{Name}
use Rattle.cond_lang.specs.Meaning.{leaves}
use Rattle.cond_lang.specs.Judged.{Scope, Refusal, refused_name, or_else, first_refused}
use Rattle.cond_lang.specs.Form.{place_in, noted, names_in}

-- ---- lists that begin with others

pub begins_itself : (names : List Name) → Begins names names
begins_itself names = record { more = []; is = sym (append-nil names) }

begins_then : (a b c : List Name) → Begins a b → Begins b c → Begins a c
begins_then a b c p q = record { more = p.more ++ q.more; is = q.is ∙ ap (λ (l : List Name). l ++ q.more) p.is ∙ append_assoc a p.more q.more }

begins_noted : (names : List Name) (x : Name) → Begins names (noted names x)
begins_noted names x = by (has names x)
  where
    by : (b : Bool) → Begins names (if b then names else names ++ x ∷ [])
    by true = begins_itself names
    by false = record { more = x ∷ []; is = refl }

pub begins_in : (names : List Name) (t : Tree Name) → Begins names (names_in names t)
begins_in names (Const b) = begins_itself names
begins_in names (Leaf x) = begins_noted names x
begins_in names (One o a) = begins_in names a
begins_in names (Two o a b) = begins_then names (names_in names a) (names_in (names_in names a) b) (begins_in names a) (begins_in (names_in names a) b)
begins_in names (Mux c a b) =
    let mid = names_in names c in
    begins_then names mid (names_in (names_in mid a) b) (begins_in names c)
    (begins_then mid (names_in mid a) (names_in (names_in mid a) b) (begins_in mid a) (begins_in (names_in mid a) b))

-- what begins with the names of both operands begins with those of the first
pub begins_first : (names all : List Name) (b : Tree Name) → Begins (names_in names b) all → Begins names all
begins_first names all b h = begins_then names (names_in names b) all (begins_in names b) h

-- ---- where a name stands

stands_at : (r : Name → Ref) (x : Name) (names more : List Name) → has names x ≡ true → slice_get (map r (names ++ more)) (place_in names x) ≡ Some (r x)
stands_at r x [] more h = absurd cc
stands_at r x (y ∷ ys) more h = by (bytes_eq x y) refl h (stands_at r x ys more)
  where
    by : (b : Bool) → bytes_eq x y ≡ b → (b || has ys x) ≡ true
        → (has ys x ≡ true → slice_get (map r (ys ++ more)) (place_in ys x) ≡ Some (r x))
        → slice_get (r y ∷ map r (ys ++ more)) (cond (not b) (1 + place_in ys x) 0) ≡ Some (r x)
    by true e h next = ap (λ (z : Name). Some (r z)) (sym ((bytes_eq-Decides x y).0 e))
    by false e h next = let one : 1 + place_in ys x ≡ suc (place_in ys x) = omega arith in rw one (next h)

stands_last : (r : Name → Ref) (x : Name) (names more : List Name) → has names x ≡ false → slice_get (map r ((names ++ x ∷ []) ++ more)) (place_in names x) ≡ Some (r x)
stands_last r x [] more h = refl
stands_last r x (y ∷ ys) more h = by (bytes_eq x y) h (stands_last r x ys more)
  where
    by : (b : Bool) → (b || has ys x) ≡ false
        → (has ys x ≡ false → slice_get (map r ((ys ++ x ∷ []) ++ more)) (place_in ys x) ≡ Some (r x))
        → slice_get (r y ∷ map r ((ys ++ x ∷ []) ++ more)) (cond (not b) (1 + place_in ys x) 0) ≡ Some (r x)
    by true h next = absurd cc
    by false h next = let one : 1 + place_in ys x ≡ suc (place_in ys x) = omega arith in rw one (next h)

-- a name is found where its place is
pub found_at : (r : Name → Ref) (names all : List Name) (x : Name) → Begins (noted names x) all → slice_get (map r all) (place_in names x) ≡ Some (r x)
found_at r names all x h = by (has names x) refl h
  where
    by : (b : Bool) → has names x ≡ b → Begins (if b then names else names ++ x ∷ []) all → slice_get (map r all) (place_in names x) ≡ Some (r x)
    by true e h = rw h.is (stands_at r x names h.more e)
    by false e h = rw h.is (stands_last r x names h.more e)

-- ---- the place of a name by search

none_passes : {A : Type 0} (p : A → Bool) (xs : List A) → list_any p xs ≡ false → position_or_len p xs ≡ length xs
none_passes p [] e = refl
none_passes p (x ∷ xs) e = by (p x) e (none_passes p xs)
  where
    by : (b : Bool) → (b || list_any p xs) ≡ false → (list_any p xs ≡ false → position_or_len p xs ≡ length xs) → cond (not b) (1 + position_or_len p xs) 0 ≡ suc (length xs)
    by true e behind = absurd cc
    by false e behind = let same = behind e in omega (arith, same)

one_passes : {A : Type 0} (p : A → Bool) (xs : List A) → list_any p xs ≡ true → position_or_len p xs < length xs
one_passes p [] e = absurd cc
one_passes p (x ∷ xs) e = by (p x) e (one_passes p xs)
  where
    by : (b : Bool) → (b || list_any p xs) ≡ true → (list_any p xs ≡ true → position_or_len p xs < length xs) → cond (not b) (1 + position_or_len p xs) 0 < suc (length xs)
    by true e behind = omega arith
    by false e behind = let below = behind e in omega (arith, below)

-- a name is found at its place where it is among the names, and else not at all
searched : (x : Name) (names : List Name) (b : Bool) → has names x ≡ b → position (bytes_eq x) names ≡ (if b then Some (place_in names x) else None)
searched x names true e = ap (λ b. cond b (Some (place_in names x)) None) (lt-ltb (place_in names x) (length names) (one_passes (bytes_eq x) names e))
searched x names false e =
    ap (λ n. cond (nat_lt n (length names)) (Some n) None) (none_passes (bytes_eq x) names e)
    ∙ ap (λ b. cond b (Some (length names)) None) (le-ltb (length names) (length names) (omega arith))

-- a name that is found stands at its place
pub place_there : (x : Name) (names : List Name) (place : ℕ) → Some place ≡ position (bytes_eq x) names → (place ≡ place_in names x) × (noted names x ≡ names)
place_there x names place e = by (has names x) refl
  where
    by : (b : Bool) → has names x ≡ b → (place ≡ place_in names x) × ((if b then names else names ++ x ∷ []) ≡ names)
    by true is = (let same : Some place ≡ Some (place_in names x) = e ∙ searched x names true is in cc, refl)
    by false is = absurd (let bad : Some place ≡ None = e ∙ searched x names false is in cc)

-- the place of a name that is not found is behind the others
pub place_behind : (x : Name) (names : List Name) → None ≡ position (bytes_eq x) names → (length names ≡ place_in names x) × (has names x ≡ false)
place_behind x names e = by (has names x) refl
  where
    by : (b : Bool) → has names x ≡ b → (length names ≡ place_in names x) × (has names x ≡ false)
    by true is = absurd (let bad : None ≡ Some (place_in names x) = e ∙ searched x names true is in cc)
    by false is = (sym (none_passes (bytes_eq x) names is), is)

pub noted_new : (names : List Name) (x : Name) → has names x ≡ false → names ++ x ∷ [] ≡ noted names x
noted_new names x h = ap (λ (b : Bool). if b then names else names ++ x ∷ []) (sym h)

-- ---- the first that is refused

refused_append : (scope : Scope) (xs ys : List Name) → first_refused scope (xs ++ ys) ≡ or_else (first_refused scope xs) (first_refused scope ys)
refused_append scope [] ys = refl
refused_append scope (x ∷ xs) ys = by (refused_name x (scope x)) (refused_append scope xs ys)
  where
    by : (o : Option Refusal) → first_refused scope (xs ++ ys) ≡ or_else (first_refused scope xs) (first_refused scope ys) → or_else o (first_refused scope (xs ++ ys)) ≡ or_else (or_else o (first_refused scope xs)) (first_refused scope ys)
    by (Some found) e = refl
    by None e = e

else_none : (o : Option Refusal) → or_else o None ≡ o
else_none (Some found) = refl
else_none None = refl

else_else : (a b c : Option Refusal) → or_else (or_else a b) c ≡ or_else a (or_else b c)
else_else (Some found) b c = refl
else_else None b c = refl

-- a name that came before refuses nothing more
again : (scope : Scope) (x : Name) (names : List Name) → has names x ≡ true → or_else (first_refused scope names) (refused_name x (scope x)) ≡ first_refused scope names
again scope x [] h = absurd cc
again scope x (y ∷ ys) h = by (bytes_eq x y) refl h (again scope x ys)
  where
    twice : (o rest : Option Refusal) → or_else (or_else o rest) o ≡ or_else o rest
    twice (Some found) rest = refl
    twice None (Some found) = refl
    twice None None = refl

    later : (o rest last : Option Refusal) → or_else rest last ≡ rest → or_else (or_else o rest) last ≡ or_else o rest
    later (Some found) rest last e = refl
    later None rest last e = e

    by : (b : Bool) → bytes_eq x y ≡ b → (b || has ys x) ≡ true
        → (has ys x ≡ true → or_else (first_refused scope ys) (refused_name x (scope x)) ≡ first_refused scope ys)
        → or_else (or_else (refused_name y (scope y)) (first_refused scope ys)) (refused_name x (scope x)) ≡ or_else (refused_name y (scope y)) (first_refused scope ys)
    by true e h next =
        let same : x ≡ y = (bytes_eq-Decides x y).0 e in
        rw same (twice (refused_name y (scope y)) (first_refused scope ys))
    by false e h next = later (refused_name y (scope y)) (first_refused scope ys) (refused_name x (scope x)) (next h)

noted_refused : (scope : Scope) (names : List Name) (x : Name) → first_refused scope (noted names x) ≡ or_else (first_refused scope names) (refused_name x (scope x))
noted_refused scope names x = by (has names x) refl
  where
    by : (b : Bool) → has names x ≡ b → first_refused scope (if b then names else names ++ x ∷ []) ≡ or_else (first_refused scope names) (refused_name x (scope x))
    by true e = sym (again scope x names e)
    by false e = refused_append scope names (x ∷ []) ∙ ap (or_else (first_refused scope names)) (else_none (refused_name x (scope x)))

pub refused_in : (scope : Scope) (names : List Name) (t : Tree Name) → first_refused scope (names_in names t) ≡ or_else (first_refused scope names) (first_refused scope (leaves t))
refused_in scope names (Const b) = sym (else_none (first_refused scope names))
refused_in scope names (Leaf x) = noted_refused scope names x ∙ ap (or_else (first_refused scope names)) (sym (else_none (refused_name x (scope x))))
refused_in scope names (One o a) = refused_in scope names a
refused_in scope names (Two o a b) = two scope names a b (refused_in scope names a) (refused_in scope (names_in names a) b)
  where
    two : (scope : Scope) (names : List Name) (a b : Tree Name)
        → first_refused scope (names_in names a) ≡ or_else (first_refused scope names) (first_refused scope (leaves a))
        → first_refused scope (names_in (names_in names a) b) ≡ or_else (first_refused scope (names_in names a)) (first_refused scope (leaves b))
        → first_refused scope (names_in (names_in names a) b) ≡ or_else (first_refused scope names) (first_refused scope (leaves a ++ leaves b))
    two scope names a b p q =
        q ∙ ap (λ (o : Option Refusal). or_else o (first_refused scope (leaves b))) p
        ∙ else_else (first_refused scope names) (first_refused scope (leaves a)) (first_refused scope (leaves b))
        ∙ ap (or_else (first_refused scope names)) (sym (refused_append scope (leaves a) (leaves b)))
refused_in scope names (Mux c a b) =
    refused_in scope (names_in (names_in names c) a) b
    ∙ ap (λ (o : Option Refusal). or_else o (first_refused scope (leaves b))) (refused_in scope (names_in names c) a)
    ∙ ap (λ (o : Option Refusal). or_else (or_else o (first_refused scope (leaves a))) (first_refused scope (leaves b))) (refused_in scope names c)
    ∙ ap (λ (o : Option Refusal). or_else o (first_refused scope (leaves b))) (else_else (first_refused scope names) (first_refused scope (leaves c)) (first_refused scope (leaves a)))
    ∙ else_else (first_refused scope names) (or_else (first_refused scope (leaves c)) (first_refused scope (leaves a))) (first_refused scope (leaves b))
    ∙ ap (or_else (first_refused scope names)) (else_else (first_refused scope (leaves c)) (first_refused scope (leaves a)) (first_refused scope (leaves b)))
    ∙ ap (λ (o : Option Refusal). or_else (first_refused scope names) (or_else (first_refused scope (leaves c)) o)) (sym (refused_append scope (leaves a) (leaves b)))
    ∙ ap (or_else (first_refused scope names)) (sym (refused_append scope (leaves c) (leaves a ++ leaves b)))

pub refused_same : (scope : Scope) (t : Tree Name) → first_refused scope (names_in [] t) ≡ first_refused scope (leaves t)
refused_same scope t = refused_in scope [] t
