-- Texts that differ, one by one.
use Rattle.std.proofs.Common.{◌≡◌, ℕ, ◌+◌, ◌<◌, Bool, true, false, not, cond, List, [], ◌∷◌, ◌++◌, length, take, get_or, map, bytes_eq, refl, sym, ap, ◌∙◌, arith, ap₂}
use Rattle.std.specs.List.{list_any, IsDistinct}
use Rattle.std.proofs.lemmas.Bool.{false≢true}
use Rattle.std.proofs.lemmas.Cmp.{nat_list_eq_equiv}
use Rattle.std.proofs.lemmas.List.{take_more, take-map, get_or-map, get_or-take, get_or_default, length-take, length-map, map-append}
use Rattle.std.proofs.lemmas.List.Folds.{Any-from_list_any}
use Rattle.std.proofs.lemmas.Map.Keys.{IsDistinct-push, apart_from_distinct}
use Rattle.std.proofs.lemmas.Slice.Eq.{bytes_eq-Decides}
use Rattle.symtab.specs.Apart.{AreApart}

-- no texts are apart
pub none_apart : AreApart []
unfolding IsDistinct
none_apart = tt

-- a text that an earlier one is
repeated : (all : List (List ℕ)) (place : ℕ) → place < length all → list_any (bytes_eq (get_or all place [])) (take place all) ≡ true → AreApart all → ⊥
repeated all place within found apart =
    let any = Any-from_list_any (bytes_eq (get_or all place [])) (take place all) found in
    let before : any.0 < place = omega (arith, any.2, length-take place all) in
    let earlier : any.1 ≡ get_or all any.0 any.1 = sym any.3 ∙ get_or-take place all any.0 any.1 before in
    let same : get_or all place [] ≡ get_or all any.0 any.1 = (bytes_eq-Decides _ _).0 any.4 ∙ earlier in
    let here : get_or all place any.1 ≡ get_or all place [] = get_or_default all place any.1 [] within in
    let differ : bytes_eq (get_or all any.0 any.1) (get_or all place any.1) ≡ false = apart_from_distinct bytes_eq all any.0 place any.1 apart before within in
    let equal : bytes_eq (get_or all any.0 any.1) (get_or all place any.1) ≡ true = (bytes_eq-Decides _ _).1 (sym same ∙ sym here) in
    false≢true (sym differ ∙ equal)

-- the names of the front of a list are these, and apart
pub record AreFront {A : Type 0} (name_of : A → List ℕ) (items : List A) (front : ℕ) (names : List (List ℕ)) : Type 0 where
  pub are : names ≡ map name_of (take front items)
  pub apart : AreApart names

not_true : (b : Bool) → not b ≡ true → b ≡ false
not_true true is = sym is
not_true false is = refl

not_false : (b : Bool) → not b ≡ false → b ≡ true
not_false true is = refl
not_false false is = sym is

-- one item more, whose name is new
pub front_more : {A : Type 0} (name_of : A → List ℕ) (items : List A) (front : ℕ) (names new : List (List ℕ)) (name : List ℕ) (item : A) (added : Bool) →
    front < length items → item ≡ get_or items front item → name ≡ name_of item → AreFront name_of items front names →
    added ≡ not (list_any (bytes_eq name) names) → new ≡ cond added (names ++ name ∷ []) names → added ≡ true → AreFront name_of items (front + 1) new
front_more {A} name_of items front names new name item added within is called known told grown was_new =
    let pushed : new ≡ names ++ name ∷ [] = grown ∙ ap (λ b. cond b (names ++ name ∷ []) names) was_new in
    let same : name ≡ name_of (get_or items front item) = called ∙ ap name_of is in
    let all : names ++ name ∷ [] ≡ map name_of (take (front + 1) items) =
    ap (λ (ns : List (List ℕ)). ns ++ name ∷ []) known.are ∙ ap (λ (n : List ℕ). map name_of (take front items) ++ n ∷ []) same
    ∙ sym (ap (map name_of) (take_more items front item within) ∙ map-append name_of (take front items) (get_or items front item ∷ [])) in
    let none : list_any (bytes_eq name) names ≡ false = not_true _ (sym told ∙ was_new) in
    record { are = pushed ∙ all; apart = rw pushed (IsDistinct-push nat_list_eq_equiv names name known.apart none) }

-- one whose name is there already
pub front_repeats : {A : Type 0} (name_of : A → List ℕ) (items : List A) (front : ℕ) (names : List (List ℕ)) (name : List ℕ) (item : A) (added : Bool) →
    front < length items → item ≡ get_or items front item → name ≡ name_of item → AreFront name_of items front names →
    added ≡ not (list_any (bytes_eq name) names) → added ≡ false → AreApart (map name_of items) → ⊥
front_repeats {A} name_of items front names name item added within is called known told was_there apart =
    let there : list_any (bytes_eq name) names ≡ true = not_false _ (sym told ∙ was_there) in
    let front_is : names ≡ take front (map name_of items) = known.are ∙ sym (take-map name_of front items) in
    let same : name ≡ get_or (map name_of items) front [] = called ∙ ap name_of is ∙ sym (get_or-map name_of items front item [] within) in
    let among : list_any (bytes_eq (get_or (map name_of items) front [])) (take front (map name_of items)) ≡ true =
    sym (ap₂ (λ (n : List ℕ) (ns : List (List ℕ)). list_any (bytes_eq n) ns) same front_is) ∙ there in
    repeated (map name_of items) front (omega (arith, length-map items name_of)) among apart

-- the names of no items
pub none_front : {A : Type 0} (name_of : A → List ℕ) (items : List A) (names : List (List ℕ)) → names ≡ [] → AreFront name_of items 0 names
none_front name_of items names none = record { are = none; apart = rw none none_apart }
