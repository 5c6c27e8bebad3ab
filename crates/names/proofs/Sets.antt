-- Sets of names, as lists.
use Rattle.std.proofs.Common.{◌≡◌, ℕ, zero, suc, ◌+◌, ◌<◌, ◌≤◌, Bool, true, false, not, ◌||◌, ◌&&◌, take, drop, bytes_eq, List, [], ◌∷◌, ◌++◌, map, if◌then◌else◌, refl, sym, ap, ◌∙◌, append_assoc, append-nil}
use Rattle.std.specs.List.{list_any, position, position_or_len}
use Rattle.std.proofs.lemmas.List.{length-map}
use Rattle.std.proofs.lemmas.Slice.Eq.{bytes_eq-Decides}
use Rattle.std.proofs.lemmas.List.Folds.{list_any-append}
use Rattle.names.specs.Known.{Name, Known, Begins, has, with, either, both}

-- whether one passes, in a mapped list
pub list_any-map : {X Y : Type 0} (p : Y → Bool) (f : X → Y) (xs : List X) → list_any p (map f xs) ≡ list_any (λ x. p (f x)) xs
list_any-map p f [] = refl
list_any-map p f (x ∷ xs) = rw (list_any-map p f xs) refl

-- the place of the first that passes, or the length
pub position_or_len-map : {X Y : Type 0} (p : Y → Bool) (f : X → Y) (xs : List X) → position_or_len p (map f xs) ≡ position_or_len (λ x. p (f x)) xs
position_or_len-map p f [] = refl
position_or_len-map p f (x ∷ xs) = rw (position_or_len-map p f xs) refl

-- the place of the first that passes
pub position-map : {X Y : Type 0} (p : Y → Bool) (f : X → Y) (xs : List X) → position p (map f xs) ≡ position (λ x. p (f x)) xs
position-map p f xs = rw (position_or_len-map p f xs, length-map xs f) refl

-- what is known with one more name
pub known_grown : (old new : List Name) (x : Name) (added : Bool) → added ≡ not (has old x) → new ≡ (if added then old ++ x ∷ [] else old) → has new ≡ with x (has old)
known_grown old new x added e f = λ i y. at y i
  where
    there : (y : Name) (b : Bool) → bytes_eq y x ≡ b → has old x ≡ true → has old y ≡ (b || has old y)
    there y true same h = ap (has old) ((bytes_eq-Decides y x).0 same) ∙ h
    there y false same h = refl

    last : (a b : Bool) → (a || (b || false)) ≡ (b || a)
    last true true = refl
    last true false = refl
    last false true = refl
    last false false = refl

    by_test : (y : Name) (b : Bool) → has old x ≡ b → has (if not b then old ++ x ∷ [] else old) y ≡ (bytes_eq y x || has old y)
    by_test y true h = there y (bytes_eq y x) refl h
    by_test y false h = list_any-append (bytes_eq y) old (x ∷ []) ∙ last (has old y) (bytes_eq y x)

    at : (y : Name) → has new y ≡ (bytes_eq y x || has old y)
    at y = ap (λ (l : List Name). has l y) (f ∙ ap (λ b. if b then old ++ x ∷ [] else old) e) ∙ by_test y (has old x) refl

either_end : (a : Bool) → (a || false) ≡ a
either_end true = refl
either_end false = refl

-- ---- names that two sets have both, one after another

common_step : (o b r s t : Bool) → (b ≡ true → s ≡ t) → ((if t then b || o else o) || (r && s)) ≡ (o || ((b || r) && s))
common_step true true r s true h = refl
common_step true false r s true h = refl
common_step true b r s false h = refl
common_step false true true s true h = sym (h refl)
common_step false true false s true h = sym (h refl)
common_step false false r s true h = refl
common_step false true true s false h = refl
common_step false true false s false h = sym (h refl)
common_step false false r s false h = refl

pub common_next : (old new second : Known) (x : Name) (rest : List Name) → new ≡ (if second x then with x old else old)
    → either new (both (has rest) second) ≡ either old (both (has (x ∷ rest)) second)
common_next old new second x rest is =
    ap (λ (k : Known). either k (both (has rest) second)) is
    ∙ (λ i y. (pick y (second x) ∙ common_step (old y) (bytes_eq y x) (has rest y) (second y) (second x) (λ same. ap second ((bytes_eq-Decides y x).0 same))) i)
  where
    pick : (y : Name) (t : Bool) → ((if t then with x old else old) y || (has rest y && second y)) ≡ ((if t then bytes_eq y x || old y else old y) || (has rest y && second y))
    pick y true = refl
    pick y false = refl

pub common_end : (known second : Known) → either known (both (has []) second) ≡ known
common_end known second = λ i x. either_end (known x) i

-- ---- lists that begin with others

pub begins_itself : (old : List Name) → Begins old old
begins_itself old = record { more = []; is = sym (append-nil old) }

pub begins_both : (old now new : List Name) → Begins old now → Begins now new → Begins old new
begins_both old now new p q = record { more = p.more ++ q.more; is = q.is ∙ ap (λ l. l ++ q.more) p.is ∙ append_assoc old p.more q.more }

pub begins_grown : (old new : List Name) (x : Name) (added : Bool) → new ≡ (if added then old ++ x ∷ [] else old) → Begins old new
begins_grown old new x true is = record { more = x ∷ []; is = is }
begins_grown old new x false is = record { more = []; is = is ∙ sym (append-nil old) }

pub map_take : {X Y : Type 0} (f : X → Y) (n : ℕ) (xs : List X) → map f (take n xs) ≡ take n (map f xs)
map_take f zero xs = refl
map_take f (suc n) [] = refl
map_take f (suc n) (x ∷ xs) = ap (λ l. f x ∷ l) (map_take f n xs)

pub map_drop : {X Y : Type 0} (f : X → Y) (n : ℕ) (xs : List X) → map f (drop n xs) ≡ drop n (map f xs)
map_drop f zero xs = refl
map_drop f (suc n) [] = refl
map_drop f (suc n) (x ∷ xs) = map_drop f n xs
