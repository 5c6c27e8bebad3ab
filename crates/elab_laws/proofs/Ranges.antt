-- The slots of different variants differ.
use Rattle.std.proofs.Common.{◌≡◌, ℕ, zero, suc, ◌+◌, ◌<◌, ◌≤◌, ◌==◌, Bool, true, false, if◌then◌else◌, nat_lt, List, [], ◌∷◌, ◌++◌, map, take, Option, Some, None, ◌⊎◌, inl, inr, refl, sym, ap, ap₂, ◌∙◌, subst, arith, unwrap_or}
use Rattle.std.specs.Prelude.{slice_get}
use Rattle.std.specs.List.{enumerate_from, flat_map}
use Rattle.std.proofs.lemmas.Bool.{ltb-true, ltb-false, eq-eqb}
use Rattle.gen_tree.specs.Tree.{Module}
use Rattle.list_core.specs.Lists.{IsIn, IsNotIn, AreApart, from}
use Rattle.list_core.proofs.Listing.{below_all, from_apart}
use Rattle.list_core.proofs.Lists.{not_joined, apart_joined}
use Rattle.design_core.specs.Slots.{variant_heads, slots_of}
use Rattle.elab_core.specs.Elaborated.{Instance}
use Rattle.elab_core.specs.Design.{blocks_size, statements_where, first_slot, numbered_variant}
use Rattle.elab_laws.proofs.Numbering.{blocks_numbered}

abbrev size_of : Instance → ℕ
size_of v = blocks_size v.content.blocks

-- the statements of variants of modules before a place, and of those at it
abbrev before : ℕ → List Instance → ℕ
before p variants = statements_where (λ w. nat_lt w.place p) variants

abbrev of : ℕ → List Instance → ℕ
of p variants = statements_where (λ w. w.place == p) variants

one_below : (place p q size : ℕ) → p < q → (if nat_lt place p then size else 0) + (if place == p then size else 0) ≤ (if nat_lt place q then size else 0)
one_below place p q size h = grind (arith, h)

both_below : (p q : ℕ) → p < q → (variants : List Instance) → before p variants + of p variants ≤ before q variants
both_below p q h [] = omega arith
both_below p q h (v ∷ variants) = omega (arith, one_below v.place p q (size_of v) h, both_below p q h variants)

same_item : {A : Type 0} (a b : A) → Some a ≡ Some b → a ≡ b
same_item a b e = ap (λ o. unwrap_or o a) e

no_item : {A : Type 0} (a : A) → None ≡ Some a → ⊥
no_item {A = A} a e = let P : Option A → Type 0 = λ o. elim o [ None ↦ Unit {0} | Some x ↦ ⊥ ] in subst P e tt

-- a variant's own statements are among those of its module
own : (p : ℕ) (z x : Instance) → z ≡ x → x.place ≡ p → (if z.place == p then size_of z else 0) ≡ size_of x
own p z x e at = ap (λ b. if b then size_of z else 0) (eq-eqb z.place p (ap (λ (w : Instance). w.place) e ∙ at)) ∙ ap size_of e

within : (p : ℕ) (variants : List Instance) (k : ℕ) (x : Instance) → slice_get variants k ≡ Some x → x.place ≡ p → of p (take k variants) + size_of x ≤ of p variants
within p [] k x e at = absurd (no_item x e)
within p (z ∷ variants) zero x e at = omega (arith, own p z x (same_item z x e) at)
within p (z ∷ variants) (suc k) x e at = omega (arith, within p variants k x e at)

-- and among those of its module before a later variant
before_later : (p : ℕ) (variants : List Instance) (k m : ℕ) (x : Instance) → slice_get variants k ≡ Some x → x.place ≡ p → k < m
    → of p (take k variants) + size_of x ≤ of p (take m variants)
before_later p [] k m x e at h = absurd (no_item x e)
before_later p (z ∷ variants) k zero x e at h = absurd (omega (arith, h))
before_later p (z ∷ variants) zero (suc m) x e at h = omega (arith, own p z x (same_item z x e) at)
before_later p (z ∷ variants) (suc k) (suc m) x e at h = omega (arith, before_later p variants k m x e at (omega (arith, h)))

-- ---- two variants

Disjoint : ℕ → ℕ → ℕ → ℕ → Type 0
Disjoint f s g t = (f + s ≤ g) ⊎ (g + t ≤ f)

lower : (a b c d e s : ℕ) → b + s ≤ c → a + c ≤ d → a + b + s ≤ d + e
lower a b c d e s h g = omega (arith, h, g)

level : (a b c s : ℕ) → b + s ≤ c → a + b + s ≤ a + c
level a b c s h = omega (arith, h)

by_places : (variants : List Instance) (k m : ℕ) (x y : Instance) → slice_get variants k ≡ Some x → slice_get variants m ≡ Some y → k < m
    → (one two : Bool) → nat_lt x.place y.place ≡ one → nat_lt y.place x.place ≡ two
    → Disjoint (first_slot variants (k, x)) (size_of x) (first_slot variants (m, y)) (size_of y)
unfolding Disjoint
by_places variants k m x y at other h true two l g =
    inl (lower (before x.place variants) (of x.place (take k variants)) (of x.place variants) (before y.place variants) (of y.place (take m variants)) (size_of x)
    (within x.place variants k x at refl) (both_below x.place y.place (ltb-true x.place y.place l) variants))
by_places variants k m x y at other h false true l g =
    inr (lower (before y.place variants) (of y.place (take m variants)) (of y.place variants) (before x.place variants) (of x.place (take k variants)) (size_of y)
    (within y.place variants m y other refl) (both_below y.place x.place (ltb-true y.place x.place g) variants))
by_places variants k m x y at other h false false l g =
    let same : x.place ≡ y.place = omega (arith, ltb-false x.place y.place l, ltb-false y.place x.place g) in
    inl (subst (λ p. before x.place variants + of x.place (take k variants) + size_of x ≤ before p variants + of p (take m variants)) same
    (level (before x.place variants) (of x.place (take k variants)) (of x.place (take m variants)) (size_of x) (before_later x.place variants k m x at refl h)))

disjoint : (variants : List Instance) (k m : ℕ) (x y : Instance) → slice_get variants k ≡ Some x → slice_get variants m ≡ Some y → k < m
    → Disjoint (first_slot variants (k, x)) (size_of x) (first_slot variants (m, y)) (size_of y)
disjoint variants k m x y at other h = by_places variants k m x y at other h (nat_lt x.place y.place) (nat_lt y.place x.place) refl refl

-- ---- numbers of ranges

above : (m k n : ℕ) → k + n ≤ m → IsNotIn m (from k n)
above m k zero h = tt
above m k (suc n) h = (λ e. absurd (omega (arith, e, h)), above m (k + 1) n (omega (arith, h)))

not_there : (f s g t n : ℕ) → Disjoint f s g t → f ≤ n → n < f + s → IsNotIn n (from g t)
unfolding Disjoint
not_there f s g t n (inl h) a b = below_all n g t (omega (arith, h, b))
not_there f s g t n (inr h) a b = above n g t (omega (arith, h, a))

IsWithin : ℕ → ℕ → ℕ → Type 0
IsWithin f s n = (f ≤ n) × (n < f + s)

further : (f s n : ℕ) → IsWithin (f + 1) s n → IsWithin f (suc s) n
unfolding IsWithin
further f s n h = (omega (arith, h.0), omega (arith, h.1))

member : (f s n : ℕ) → IsIn n (from f s) → IsWithin f s n
unfolding IsWithin
member f zero n i = absurd i
member f (suc s) n (inl e) = (omega (arith, e), omega (arith, e))
member f (suc s) n (inr i) = further f s n (member (f + 1) s n i)

-- ---- all variants

abbrev pub range : List Instance → ℕ × Instance → List ℕ
range variants v = from (first_slot variants v) (size_of v.1)

-- these are the variants from this number on
abbrev pub Stand : List Instance → ℕ → List Instance → Type 0
Stand variants k rest = (j : ℕ) (y : Instance) → slice_get rest j ≡ Some y → slice_get variants (k + j) ≡ Some y

first_of : (variants : List Instance) (k : ℕ) (y : Instance) (rest : List Instance) → Stand variants k (y ∷ rest) → slice_get variants k ≡ Some y
first_of variants k y rest h = subst (λ n. slice_get variants n ≡ Some y) (omega arith) (h 0 y refl)

rest_of : (variants : List Instance) (k : ℕ) (y : Instance) (rest : List Instance) → Stand variants k (y ∷ rest) → Stand variants (k + 1) rest
rest_of variants k y rest h j z e = subst (λ n. slice_get variants n ≡ Some z) (omega arith) (h (suc j) z e)

none_behind : (variants : List Instance) (k : ℕ) (x : Instance) (n : ℕ) → slice_get variants k ≡ Some x → IsWithin (first_slot variants (k, x)) (size_of x) n
    → (m : ℕ) (rest : List Instance) → k < m → Stand variants m rest → IsNotIn n (flat_map (range variants) (enumerate_from m rest))
unfolding IsWithin
none_behind variants k x n at here m [] h s = tt
none_behind variants k x n at here m (y ∷ rest) h s =
    not_joined n (range variants (m, y)) (flat_map (range variants) (enumerate_from (m + 1) rest))
    (not_there (first_slot variants (k, x)) (size_of x) (first_slot variants (m, y)) (size_of y) n (disjoint variants k m x y at (first_of variants m y rest s) h) here.0 here.1)
    (none_behind variants k x n at here (m + 1) rest (omega (arith, h)) (rest_of variants m y rest s))

ranges_apart : (variants : List Instance) (k : ℕ) (rest : List Instance) → Stand variants k rest → AreApart (flat_map (range variants) (enumerate_from k rest))
ranges_apart variants k [] s = tt
ranges_apart variants k (x ∷ rest) s =
    apart_joined (range variants (k, x)) (flat_map (range variants) (enumerate_from (k + 1) rest)) (from_apart (first_slot variants (k, x)) (size_of x))
    (ranges_apart variants (k + 1) rest (rest_of variants k x rest s))
    (λ n i. none_behind variants k x n (first_of variants k x rest s) (member (first_slot variants (k, x)) (size_of x) n i) (k + 1) rest (omega arith) (rest_of variants k x rest s))

-- the slots of numbered variants
ranges_of : (modules : List Module) (variants : List Instance) (list : List (ℕ × Instance))
    → flat_map (λ v. slots_of (variant_heads v)) (map (numbered_variant modules variants) list) ≡ flat_map (range variants) list
ranges_of modules variants [] = refl
ranges_of modules variants (v ∷ list) =
    ap₂ (λ (p q : List ℕ). p ++ q) (blocks_numbered (first_slot variants v) v.1.content.blocks) (ranges_of modules variants list)

stand_all : (variants : List Instance) → Stand variants 0 variants
stand_all variants j y e = subst (λ n. slice_get variants n ≡ Some y) (omega arith) e

pub variants_apart : (modules : List Module) (variants : List Instance)
    → AreApart (flat_map (λ v. slots_of (variant_heads v)) (map (numbered_variant modules variants) (enumerate_from 0 variants)))
variants_apart modules variants = subst AreApart (sym (ranges_of modules variants (enumerate_from 0 variants))) (ranges_apart variants 0 variants (stand_all variants))
