-- Variants are found in the order of their first instances.
use Rattle.std.proofs.Common.{◌≡◌, ℕ, ◌+◌, ◌<◌, ◌≤◌, Bool, true, false, not, cond, ◌&&◌, List, [], ◌∷◌, ◌++◌, length, length-append, append_assoc, if◌then◌else◌, nat_lt, append-nil, refl, sym, ap, ◌∙◌, subst, arith}
use Rattle.std.proofs.lemmas.Bool.{ltb-true, eq-eqb}
use Rattle.std.proofs.lemmas.Bool.Decides.{Decides-int_eq}
use Rattle.std.proofs.lemmas.Slice.Eq.{bytes_eq-Decides}
use Rattle.std.proofs.lemmas.List.Sums.{prefix_len-le-length}
use Rattle.std.specs.List.{position_or_len}
use Rattle.design_core.specs.Design.{Gens}
use Rattle.elab_core.specs.Elaborated.{Instance}
use Rattle.elab_core.specs.Design.{same_gens, is_of, variant_of, firsts}

both_true : (a b : Bool) → a ≡ true → b ≡ true → a && b ≡ true
both_true a b e f = rw e f

-- ---- what is found stays where it is

pub search_grows : {X : Type 0} (p : X → Bool) (xs ys : List X) → position_or_len p xs < length xs → position_or_len p (xs ++ ys) ≡ position_or_len p xs
search_grows p [] ys h = absurd (omega (arith, h))
search_grows p (x ∷ xs) ys h = by_test (p x) (λ l. search_grows p xs ys l) h
  where
    by_test : (b : Bool) → (position_or_len p xs < length xs → position_or_len p (xs ++ ys) ≡ position_or_len p xs)
        → cond (not b) (1 + position_or_len p xs) 0 < length (x ∷ xs) → cond (not b) (1 + position_or_len p (xs ++ ys)) 0 ≡ cond (not b) (1 + position_or_len p xs) 0
    by_test true rest h = refl
    by_test false rest h = ap (λ n. 1 + n) (rest (omega (arith, h)))

-- what is not found is the last one, once it is put last
pub search_last : {X : Type 0} (p : X → Bool) (xs : List X) (y : X) → p y ≡ true → position_or_len p (xs ++ y ∷ []) ≡ position_or_len p xs
search_last p [] y h = ap (λ b. cond (not b) 1 0) h
search_last p (x ∷ xs) y h = ap (λ n. cond (not (p x)) (1 + n) 0) (search_last p xs y h)

-- ---- instances one after another

-- the variants with one more instance
abbrev pub with_one : List Instance → Instance → List Instance
with_one variants i = if nat_lt (variant_of i.place i.params variants) (length variants) then variants else variants ++ i ∷ []

pub firsts_behind : (variants instances : List Instance) (i : Instance) → firsts variants (instances ++ i ∷ []) ≡ with_one (firsts variants instances) i
firsts_behind variants [] i = refl
firsts_behind variants (j ∷ instances) i =
    elim (nat_lt (variant_of j.place j.params variants) (length variants))
    as (λ b. (if b then firsts variants (instances ++ i ∷ []) else firsts (variants ++ j ∷ []) (instances ++ i ∷ [])) ≡ with_one (if b then firsts variants instances else firsts (variants ++ j ∷ []) instances) i) [
      | true ↦ firsts_behind variants instances i
      | false ↦ firsts_behind (variants ++ j ∷ []) instances i
    ]

-- ---- each instance's variant is found, and stays where it is

abbrev pub number_in : List Instance → Instance → ℕ
number_in variants i = variant_of i.place i.params variants

abbrev pub Found : List Instance → Instance → Type 0
Found variants i = number_in variants i < length variants

abbrev pub EachFound : List Instance → List Instance → Type 0
EachFound variants [] = Unit {0}
EachFound variants (i ∷ instances) = Found variants i × EachFound variants instances

same_params : (gens : Gens) → same_gens gens gens ≡ true
same_params [] = refl
same_params (g ∷ gens) = both_true _ _ (both_true _ _ ((bytes_eq-Decides g.0 g.0).1 refl) ((Decides-int_eq g.1 g.1).1 refl)) (same_params gens)

pub is_its_own : (i : Instance) → is_of i.place i.params i ≡ true
is_its_own i = both_true _ _ (eq-eqb i.place i.place refl) (same_params i.params)

pub stays : (variants more : List Instance) (i : Instance) → Found variants i → number_in (variants ++ more) i ≡ number_in variants i
stays variants more i h = search_grows (is_of i.place i.params) variants more h

pub found_stays : (variants more : List Instance) (i : Instance) → Found variants i → Found (variants ++ more) i
found_stays variants more i h = omega (arith, h, stays variants more i h, length-append variants more)

pub each_stays : (variants more instances : List Instance) → EachFound variants instances → EachFound (variants ++ more) instances
each_stays variants more [] h = tt
each_stays variants more (i ∷ instances) h = (found_stays variants more i h.0, each_stays variants more instances h.1)

-- an instance is found among the variants with it
pub found_with : (variants : List Instance) (i : Instance) → Found (with_one variants i) i
found_with variants i = by_test (nat_lt (number_in variants i) (length variants)) refl
  where
    by_test : (b : Bool) → nat_lt (number_in variants i) (length variants) ≡ b → Found (if b then variants else variants ++ i ∷ []) i
    by_test true e = ltb-true (number_in variants i) (length variants) e
    by_test false e =
        let last : number_in (variants ++ i ∷ []) i ≡ number_in variants i = search_last (is_of i.place i.params) variants i (is_its_own i) in
        omega (arith, last, prefix_len-le-length (λ v. not (is_of i.place i.params v)) variants, length-append variants (i ∷ []))

-- the variants grow at their end
pub grown : (variants : List Instance) (i : Instance) → (more : List Instance) × (with_one variants i ≡ variants ++ more)
grown variants i = by_test (nat_lt (number_in variants i) (length variants))
  where
    by_test : (b : Bool) → (more : List Instance) × ((if b then variants else variants ++ i ∷ []) ≡ variants ++ more)
    by_test true = ([], sym (append-nil variants))
    by_test false = (i ∷ [], refl)

pub all_grown : (variants instances : List Instance) → (more : List Instance) × (firsts variants instances ≡ variants ++ more)
all_grown variants [] = ([], sym (append-nil variants))
all_grown variants (i ∷ instances) =
    let one = grown variants i in
    let rest = all_grown (with_one variants i) instances in
    let more : List Instance = one.0 ++ rest.0 in
    (more, same_start (nat_lt (number_in variants i) (length variants)) ∙ rest.1 ∙ ap (λ (v : List Instance). v ++ rest.0) one.1 ∙ append_assoc variants one.0 rest.0)
  where
    same_start : (b : Bool) → (if b then firsts variants instances else firsts (variants ++ i ∷ []) instances) ≡ firsts (if b then variants else variants ++ i ∷ []) instances
    same_start true = refl
    same_start false = refl

-- each instance is found among the variants of all
pub each_found : (variants instances : List Instance) → EachFound (firsts variants instances) instances
each_found variants [] = tt
each_found variants (i ∷ instances) =
    let rest = all_grown (with_one variants i) instances in
    let here : Found (firsts (with_one variants i) instances) i = subst (λ (v : List Instance). Found v i) (sym rest.1) (found_stays (with_one variants i) rest.0 i (found_with variants i)) in
    both (nat_lt (number_in variants i) (length variants)) (here, each_found (with_one variants i) instances)
  where
    both : (b : Bool) → (Found (firsts (if b then variants else variants ++ i ∷ []) instances) i × EachFound (firsts (if b then variants else variants ++ i ∷ []) instances) instances)
        → EachFound (if b then firsts variants instances else firsts (variants ++ i ∷ []) instances) (i ∷ instances)
    both true p = p
    both false p = p

-- there are no more variants than instances
pub variants_within : (variants instances : List Instance) → length (firsts variants instances) ≤ length variants + length instances
variants_within variants [] = omega arith
variants_within variants (i ∷ instances) =
    elim (nat_lt (number_in variants i) (length variants)) as (λ b. length (if b then firsts variants instances else firsts (variants ++ i ∷ []) instances) ≤ length variants + length (i ∷ instances)) [
      | true ↦ omega (arith, variants_within variants instances)
      | false ↦ omega (arith, variants_within (variants ++ i ∷ []) instances, length-append variants (i ∷ []))
    ]
